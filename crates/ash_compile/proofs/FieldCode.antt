-- The code of the fields of a construction does what initializes them.
use Rattle.std.proofs.Common.{◌≡◌, ℕ, ◌+◌, List, [], ◌∷◌, drop, map, length, option_map, refl, sym, ap, ◌∙◌, subst}
use Rattle.std.proofs.Common.{arith, true, Bool}
use Rattle.std.specs.Prelude.{Option, Some, None, slice_get, ◌&&◌}
use Rattle.std.specs.List.{AllByRecursion}
use Rattle.std.specs.Option.{option_map_or}
use Rattle.std.proofs.lemmas.Option.{same_Some, slice_get-map, slice_get_within}
use Rattle.std.proofs.lemmas.Bool.Decides.{nat_tests}
use Rattle.ash_host.specs.declared.word.Word.{Word}
use Rattle.ash_host.specs.declared.word.Word.TheVariants as words
use Rattle.ash_typed.specs.declared.types.VarType.{VarType}
use Rattle.ash_typed.specs.TypedTree.{Expr}
use Rattle.ash_typed.specs.StatementTree.{Initialization}
use Rattle.ash_typed.specs.Modules.{Class}
use Rattle.ash_typed.specs.Signatures.{ModuleSignatures, type_declared}
use Rattle.ash_typed.specs.SoundExpressions.{TypedEnvironment, Fits, fits}
use Rattle.ash_typed.specs.SoundStatements.{IsSoundBeginning, IsInitialized}
use Rattle.ash_typed.specs.SoundModules.{inside}
use Rattle.ash_meaning.specs.Activity.{Activity}
use Rattle.ash_meaning.specs.Runs.{Done, skip, ◌>>=◌}
use Rattle.ash_meaning.specs.Releases.{full}
use Rattle.ash_meaning.specs.Locations.{Part}
use Rattle.ash_meaning.specs.ObjectSteps.{words_in}
use Rattle.ash_meaning.specs.ExpressionMeaning.{expression}
use Rattle.ash_meaning.specs.Functions.{write_field, initialize_field, initialize_fields}
use Rattle.ash_meaning.proofs.Walks.{Walk, bound, looked}
use Rattle.ash_meaning.proofs.StepWalks.{to_object_of, to_write}
use Rattle.ash_soundness.specs.WellFormed.{Context, IsContext, IsOfClass, IsReference, to_object, IsThis, no_this}
use Rattle.ash_soundness.specs.WellFormed.{is_this, AreValues, shape_at, Shape, declared}
use Rattle.ash_soundness.proofs.Triples.{weaken, safe}
use Rattle.ash_soundness.proofs.Arrays.{after_object, object_with, words_of}
use Rattle.ash_soundness.proofs.Parts.{fields_fit}
use Rattle.ash_soundness.proofs.Lists.{values_length}
use Rattle.ash_soundness.proofs.Locations.{in_field, write_goes}
use Rattle.ash_soundness.proofs.Entries.{AreFields, no_fields, and_field, in_class, class_is}
use Rattle.ash_soundness.proofs.Bodies.{begins_fitting}
use Rattle.ash_soundness.proofs.Widening.{widened_fit}
use Rattle.ash_run_steps.specs.GuardedSteps.{is_alive}
use Rattle.ash_code.specs.declared.instruction.Instruction.TheVariants as i
use Rattle.ash_code.specs.Steps.{has_part}
use Rattle.ash_compile.specs.Stretches.{Has, Computes}
use Rattle.ash_compile.specs.Performances.{Acts}
use Rattle.ash_compile.specs.Emission.{Scene, IsScene, calls_of}
use Rattle.ash_compile.proofs.Listings.{first_of_rest, others_of_rest}
use Rattle.ash_compile.proofs.Typed.{evaluates}
use Rattle.ash_compile.proofs.Loops.{Spends}
use Rattle.ash_compile.proofs.Statements as code
use Rattle.ash_compile.proofs.Functions as frames
use Rattle.ash_compile.proofs.TypedStatements.{Ready, IsRanked, spends_then, spends_give}
use Rattle.ash_compile.proofs.BlockCode.{given_alive}
use Rattle.ash_compile.proofs.StoredCode.{Well, Stores, spends_stored, stored_ranks}

-- the environment of a class, by its parts
class_env : (c : Context) (env : TypedEnvironment) (class : ℕ) → env.signatures ≡ declared c → env.this ≡ Some class
    → env ≡ in_class c class env.locals
class_env c env class same this =
    ap (λ (m : ModuleSignatures). record { signatures = m; this = env.this; locals = env.locals }) same
    ∙ ap (λ (t : Option ℕ). record { signatures = declared c; this = t; locals = env.locals }) this

-- What begins a field fits it where the frame has locals too.
pub fits_wide : (c : Context) (env : TypedEnvironment) (class : ℕ) (of : VarType) (e : Expr)
    → env.signatures ≡ declared c
    → env.this ≡ Some class → Fits (inside (declared c) class) of e → Fits env of e
fits_wide c env class of e same this fit =
    subst (λ (x : TypedEnvironment). Fits x of e) (sym (class_env c env class same this))
    (widened_fit (declared c) (Some class) env.locals fit)

-- The fields of a class that is sound, from a place on.
fields_from : (c : Context) (class : ℕ) (source : Class) (place : ℕ) (vs : List Initialization)
    → AllByRecursion (IsInitialized (inside (declared c) class)) vs
    → drop place source.fields ≡ vs
    → AreFields c class source place vs
fields_from c class source place [] sound rest = no_fields
fields_from c class source place (v ∷ vs) sound rest =
    let at = first_of_rest source.fields place v vs rest in
    and_field (slice_get-map type_declared source.fields place ∙ ap (option_map type_declared) at) (sound.0).value
    (fields_from c class source (place + 1) vs sound.1 (others_of_rest source.fields place v vs rest))

pub fields_of_class : (c : Context) → IsContext c → (class : ℕ) (source : Class)
    → slice_get ((c.program).tree).classes class ≡ Some source → AreFields c class source 0 source.fields
fields_of_class c context class source there =
    fields_from c class source 0 source.fields (class_is context class source there).fields refl

-- the object that is constructed
pub record Own (s : Scene) (class : ℕ) (b : Activity) : Type 0 where
  pub number : ℕ
  pub this : (b.frame).this ≡ words.Object number
  pub shape : Shape
  pub at : shape_at number (b.world).objects ≡ Some shape
  pub of : IsOfClass (s.context).program class shape

own_by : (s : Scene) (class : ℕ) (b : Activity) (t : Option ℕ) (w : Word)
    → IsThis (s.context).program (b.world).objects t w → t ≡ Some class → (b.frame).this ≡ w → Own s class b
own_by s class b _ _ no_this is this = absurd (cc)
own_by s class b _ _ (is_this {class = other} {number = number} {shape = shape} at of) is this = record {
  number = number;
  this = this;
  shape = shape;
  at = at;
  of = subst (λ (n : ℕ). IsOfClass (s.context).program n shape) (same_Some other class is) of;
}

pub own : (s : Scene) (class : ℕ) (b : Activity) → (s.env).this ≡ Some class → Well s b → Own s class b
own s class b is good = own_by s class b (s.env).this (b.frame).this (good.frame).this is refl

module _ (s : Scene) (scene : IsScene s) (class : ℕ) (source : Class) (this : (s.env).this ≡ Some class)
    (there : slice_get (((s.context).program).tree).classes class ≡ Some source) where
  -- the object has the field
  has_field : (b : Activity) (place : ℕ) (of : VarType) → Well s b
      → slice_get (map type_declared source.fields) place ≡ Some of
      → (o : Own s class b) → has_part o.number place b ≡ true
  has_field b place of good field o =
      let object = object_with o.number (b.world).objects o.shape o.at in
      let values : AreValues (s.context).program (b.world).objects (map type_declared ((o.of).source).fields)
      (words_in o.number b.world)
      = subst (AreValues (s.context).program (b.world).objects (map type_declared ((o.of).source).fields))
      (sym (words_of o.number b.world object.0 object.1))
      (fields_fit scene.sound o.of object.0 object.2 ((good.world).living.each o.number object.0 object.1)) in
      let one : source ≡ (o.of).source = same_Some source (o.of).source (sym there ∙ (o.of).at) in
      let within = slice_get_within (map type_declared ((o.of).source).fields) place of
      (subst (λ (k : Class). slice_get (map type_declared k.fields) place ≡ Some of) one field) in
      let long = values_length values in
      grind (arith, nat_tests)

  stores_field : (place : ℕ) (of : VarType) → slice_get (map type_declared source.fields) place ≡ Some of
      → Stores s scene of (write_field place)
  stores_field place of field w b good v =
      let o = own s class b this good in
      let one : source ≡ (o.of).source = same_Some source (o.of).source (sym there ∙ (o.of).at) in
      let reference : IsReference (b.world).objects (IsOfClass (s.context).program class) (b.frame).this
      = subst (IsReference (b.world).objects (IsOfClass (s.context).program class)) (sym o.this)
      (to_object o.at o.of) in
      after_object _ b (safe good) reference (λ number shape is at i.
      let same : source ≡ i.source = same_Some source i.source (sym there ∙ i.at) in
      weaken (λ u d g. g.passes) (write_goes scene.sound (Part number place) w good (in_field i at
      (subst (λ (k : Class). slice_get (map type_declared k.fields) place ≡ Some of) same field)) v))

  walks_field : (place : ℕ) (w : Word) → Walk s.depth (write_field place w) (write_field place w)
  walks_field place w =
      bound (bound (looked (λ a. a.frame.this) (λ more a. refl)) to_object_of)
      (λ number. to_write (Part number place) w)

  field_fits : (of : VarType) (e : Expr) → Fits (inside (declared s.context) class) of e → Fits s.env of e
  field_fits of e fit = fits_wide s.context s.env class of e scene.declares this fit

  -- fields keep activities good

  spends_value : (place : ℕ) (of : VarType) (o : Option Expr)
      → slice_get (map type_declared source.fields) place ≡ Some of
      → IsSoundBeginning (inside (declared s.context) class) of o
      → Spends (Ready s) (option_map_or (λ e. full (expression (calls_of s) e >>= write_field place)) o skip)
  spends_value place of None field begins = spends_give (Ready s) tt
  spends_value place of (Some e) field begins =
      spends_stored s scene of e (write_field place) (field_fits of e (begins_fitting begins))
      (stores_field place of field) (walks_field place)

  pub spends_one : (place : ℕ) (v : Initialization) → slice_get (map type_declared source.fields) place ≡ Some v.of
      → IsSoundBeginning (inside (declared s.context) class) v.of v.value
      → Spends (Ready s) (initialize_field (calls_of s) place v)
  spends_one place v field begins = spends_value place v.of v.value field begins

  pub spends_fields : (place : ℕ) (vs : List Initialization) → AreFields s.context class source place vs
      → Spends (Ready s) (initialize_fields (calls_of s) place vs)
  spends_fields place [] _ = spends_give (Ready s) tt
  spends_fields place (v ∷ vs) (and_field field begins rest) =
      spends_then (initialize_field (calls_of s) place v) (λ _. initialize_fields (calls_of s) (place + 1) vs)
      (spends_one place v field begins) (λ _. spends_fields (place + 1) vs rest)

-- both tests hold
both_hold : (x y : Bool) → x ≡ true → y ≡ true → x && y ≡ true
both_hold x y first second = ap (λ (t : Bool). t && y) first ∙ second

module _ (s : Scene) (scene : IsScene s) (ranked : IsRanked s) (class : ℕ) (source : Class)
    (this : (s.env).this ≡ Some class)
    (there : slice_get (((s.context).program).tree).classes class ≡ Some source) where
  abbrev locals : ℕ
  locals = length (s.env).locals

  -- the object that is constructed has the field, and the value is alive
  field_alive : (place : ℕ) (of : VarType) (e : Expr) → slice_get (map type_declared source.fields) place ≡ Some of
      → Fits s.env of e → (a b : Activity) (v : Word) → Ready s a → expression (calls_of s) e a ≡ Done v b
      → (number : ℕ) × ((b.frame).this ≡ words.Object number) × (has_part number place b && is_alive v b ≡ true)
  field_alive place of e field (fits {actual = from} typed subtype) a b v good is =
      let got = evaluates s e from a b v scene typed good is in
      let well = ((got.goes).passes).well in
      let o = own s class b this well in (
        o.number,
        o.this,
        both_hold (has_part o.number place b) (is_alive v b)
            (has_field s scene class source this there b place of well field o) (given_alive v b (got.carried).value),
      )

  -- a field with a value
  pub does_field : (place : ℕ) (of : VarType) (e : Expr) (from mid : ℕ)
      → slice_get (map type_declared source.fields) place ≡ Some of
      → Fits (inside (declared s.context) class) of e
      → Computes s.setting (Ready s) s.function s.room (expression (calls_of s) e) from mid locals
      → Has s.setting (Ready s) s.function s.room mid (i.WriteOwnField place locals)
      → Has s.setting (Ready s) s.function s.room (mid + 1) i.EndExpression
      → Acts s.setting (Ready s) s.function s.room (full (expression (calls_of s) e >>= write_field place)) from
      (mid + 1 + 1) locals locals
  does_field place of e from mid field fit computes has ends =
      let wide = field_fits s scene class source this there of e fit in
      frames.initializes_field s.setting (Ready s) s.function s.room (expression (calls_of s) e) place from mid locals
      computes has ends (field_alive place of e field wide)
      (stored_ranks s scene ranked of e (write_field place) wide
      (stores_field s scene class source this there place of field))

  -- fields, one after another
  pub does_fields : (place : ℕ) (v : Initialization) (vs : List Initialization) (from mid to : ℕ)
      → AreFields s.context class source place (v ∷ vs)
      → Acts s.setting (Ready s) s.function s.room (initialize_field (calls_of s) place v) from mid locals locals
      → Acts s.setting (Ready s) s.function s.room (initialize_fields (calls_of s) (place + 1) vs) mid to locals locals
      → Acts s.setting (Ready s) s.function s.room (initialize_fields (calls_of s) place (v ∷ vs)) from to locals locals
  does_fields place v vs from mid to (and_field field begins rest) first second =
      code.acts_then s.setting (Ready s) s.function s.room (Ready s) (initialize_field (calls_of s) place v)
      (initialize_fields (calls_of s) (place + 1) vs) from mid to locals locals locals first
      (λ a b u good is. (spends_one s scene class source this there place v field begins a b u good is).0) second
