-- What is read and written at places.
use Rattle.std.proofs.Common.{◌≡◌, ◌⊎◌, ◌<◌, ℕ, List, [], ◌∷◌, length, map, inl, inr, refl, sym, ap, ◌∙◌, subst, slice_get, slice_set, slice_index_or, option_map, arith, length-set}
use Rattle.std.specs.Prelude.{Some, Contains}
use Rattle.std.proofs.lemmas.Option.{same_Some}
use Rattle.ash_host.specs.declared.word.Word.{Word}
use Rattle.ash_host.specs.declared.word.Word.TheVariants as words
use Rattle.ash_host.specs.Objects.{LiveObjects, handle, handles, Lives}
use Rattle.ash_integers.specs.declared.int_type.IntType.{IntType}
use Rattle.ash_typed.specs.declared.types.Element as typed_element
use Rattle.ash_typed.specs.declared.types.VarType.{VarType}
use Rattle.ash_typed.specs.declared.types.VarType.TheVariants as vars
use Rattle.ash_typed.specs.declared.tree.operations.Calculation.{Calculation}
use Rattle.ash_typed.specs.declared.tree.operations.IncrementOp.{IncrementOp}
use Rattle.ash_typed.specs.TypeOf.{ValueType, value, as_value, type_of_element}
use Rattle.ash_typed.specs.Signatures.{type_declared, types_of_globals}
use Rattle.ash_typed.specs.SoundOperations.{IsShift}
use Rattle.ash_typed.specs.SoundExpressions.{TypedEnvironment}
use Rattle.ash_meaning.specs.Activity.{Activity, in_world, in_frame}
use Rattle.ash_meaning.specs.Runs.{Progress}
use Rattle.ash_meaning.specs.Releases.{holding}
use Rattle.ash_meaning.specs.ObjectSteps.{with_object, words_in, with_words}
use Rattle.ash_meaning.specs.OperatorMeaning.{converted_to, counted}
use Rattle.ash_meaning.specs.Locations.{Location, Local, Global, Part, Property, with_local, with_global, read, write}
use Rattle.ash_meaning.specs.Classes.{Program}
use Rattle.ash_meaning.specs.ExpressionMeaning.{store, update, count_at}
use Rattle.ash_soundness.specs.WellFormed.{Context, IsContext, Shape, shape_of, shape_at, IsOfClass, IsArrayOf, IsInteger, IsValue, is_integer, AreValues, gives, IsWellFormed}
use Rattle.ash_soundness.specs.WellFormedLaws.{Goes, Offers, Leaves, done, Evaluates}
use Rattle.ash_soundness.proofs.Values.{integer_is_none, value_lives, handle_cases, none_in}
use Rattle.ash_soundness.proofs.Fits.{kept_value, unkept, given_value}
use Rattle.ash_soundness.proofs.Integers.{integer_word, counted_integer, given_integer, calculate_gives}
use Rattle.ash_soundness.proofs.Parts.{fields_fit, fields_put}
use Rattle.ash_soundness.proofs.Lists.{value_at, values_set, all_at, all_set}
use Rattle.ash_soundness.proofs.Triples.{follows_itself, bind, weaken, safe, goes_itself, goes_more, hold_goes, carry}
use Rattle.ash_soundness.proofs.Hosts.{world_goes, well_after, get_property_gives, set_property_goes}
use Rattle.ash_soundness.proofs.Arrays.{object_with, words_of, put_goes, elements_are, few_elements, elements_go}

-- a place that is computed holds values of a type
pub data IsLocated (c : Context) (env : TypedEnvironment) (a : Activity) : Location → VarType → Type 0 where
  in_local : {slot : ℕ} {of : VarType} → slice_get env.locals slot ≡ Some of → IsLocated c env a (Local slot) of
  in_global : {place : ℕ} {of : VarType}
      → slice_get (types_of_globals ((c.program).tree).globals) place ≡ Some of
      → IsLocated c env a (Global place) of
  in_field : {number place class : ℕ} {of : VarType} {shape : Shape} (i : IsOfClass c.program class shape)
      → shape_at number (a.world).objects ≡ Some shape
      → slice_get (map type_declared (i.source).fields) place ≡ Some of
      → IsLocated c env a (Part number place) of
  in_element : {number place : ℕ} {e : typed_element.Element} {of : VarType} {shape : Shape}
      → IsArrayOf c.program e shape
      → shape_at number (a.world).objects ≡ Some shape
      → place < length (words_in number a.world)
      → of ≡ type_of_element e
      → IsLocated c env a (Part number place) of
  in_property : {number id : ℕ} {of : VarType} → Offers c.host → IsLocated c env a (Property number id of) of

-- what is read at a place, which stays
pub record IsRead (c : Context) (env : TypedEnvironment) (envs : List TypedEnvironment) (l : Location) (of : VarType) (a : Activity) (w : Word) (b : Activity) : Type 0 where
  pub goes : Goes c env envs a b
  pub value : IsValue c.program (b.world).objects of w
  pub located : IsLocated c env b l of

-- a place that stays while something is calculated
record IsLeft (c : Context) (env : TypedEnvironment) (envs : List TypedEnvironment) (l : Location) (of : VarType) (a b : Activity) : Type 0 where
  pub goes : Goes c env envs a b
  pub located : IsLocated c env b l of

integer_in : {p : Program} {all : LiveObjects (List ℕ)} {int_type : IntType} {w : Word} → IsValue p all (vars.Integer int_type) w → IsInteger int_type w
integer_in (is_integer i) = i

one_lives : {p : Program} {all : LiveObjects (List ℕ)} {of : VarType} {w : Word} → IsValue p all of w → (n : ℕ) → Contains (handles (w ∷ [])) n → Lives all n
one_lives {w = w} v n i = elim (handle_cases w [] n i) [ inl here ↦ value_lives n v here | inr none ↦ absurd (none_in n none) ]

module _ {c : Context} (context : IsContext c) {env : TypedEnvironment} {envs : List TypedEnvironment} where
  field_values : {a : Activity} (h : IsWellFormed c env envs a) (number : ℕ) {class : ℕ} {shape : Shape} (i : IsOfClass c.program class shape) → shape_at number (a.world).objects ≡ Some shape → AreValues c.program (a.world).objects (map type_declared (i.source).fields) (words_in number a.world)
  field_values {a} h number {class} {shape} i at =
      let there = object_with number (a.world).objects shape at in
      subst (AreValues c.program (a.world).objects (map type_declared (i.source).fields)) (sym (words_of number a.world there.0 there.1)) (fields_fit context i there.0 there.2 ((h.world).living.each number there.0 there.1))

  pub read_gives : {a : Activity} (l : Location) {of : VarType} → IsWellFormed c env envs a → IsLocated c env a l of → Leaves c (IsRead c env envs l of a) (read l a)
  read_gives (Local slot) {of} h (in_local at) = done (record { goes = goes_itself h; value = value_at (h.frame).locals slot of at; located = in_local at })
  read_gives (Global place) {of} h (in_global at) = done (record { goes = goes_itself h; value = value_at (h.world).globals place of at; located = in_global at })
  read_gives (Part number place) {of} h (in_field i at field) = done (record { goes = goes_itself h; value = value_at (field_values h number i at) place of field; located = in_field i at field })
  read_gives {a} (Part number place) h (in_element i at lt same) = done (record {
    goes = goes_itself h;
    value = subst (λ (t : VarType). IsValue c.program (a.world).objects t (slice_index_or (words_in number a.world) place words.Null)) (sym same) (all_at (elements_are context h number i at) place words.Null lt);
    located = in_element i at lt same;
  })
  read_gives (Property number id of) h (in_property offers) =
      weaken (λ w b e. record { goes = e.goes; value = unkept of (given_value (e.carried).value); located = in_property offers }) (get_property_gives offers number id of h)

  -- steps that store a word

  local_goes : {a : Activity} (slot : ℕ) (of : VarType) (w : Word) → IsWellFormed c env envs a → slice_get env.locals slot ≡ Some of → IsValue c.program (a.world).objects of w → Goes c env envs a (in_frame (with_local slot w) a)
  local_goes {a} slot of w h at v = record {
    passes = record {
      well = record {
        world = h.world;
        since = h.since;
        frame = record { this = (h.frame).this; locals = values_set (h.frame).locals slot of w at v; held = (h.frame).held };
        callers = h.callers;
        few = h.few;
      };
      follows = follows_itself a.world;
      this = refl;
      callers = refl;
    };
    held = λ n i. i;
  }

  global_goes : {a : Activity} (place : ℕ) (of : VarType) (w : Word) → IsWellFormed c env envs a → slice_get (types_of_globals ((c.program).tree).globals) place ≡ Some of → IsValue c.program (a.world).objects of w → Goes c env envs a (in_world (with_global place w) a)
  global_goes {a} place of w h at v = world_goes (with_global place w) h (record {
    numbered = (h.world).numbered;
    last = (h.world).last;
    few = (h.world).few;
    living = (h.world).living;
    offered = (h.world).offered;
    globals = values_set (h.world).globals place of w at v;
    outside = (h.world).outside;
    states = record { services = ((h.world).states).services; pool = ((h.world).states).pool; answers = ((h.world).states).answers };
  }) (record { last = omega arith; shapes = λ n shape le e. e; outside = refl }) (λ n. record { stays = λ shape e. e })

  field_goes : {a : Activity} (number place : ℕ) {class : ℕ} {shape : Shape} (of : VarType) (w : Word) → IsWellFormed c env envs a → (i : IsOfClass c.program class shape) → shape_at number (a.world).objects ≡ Some shape → slice_get (map type_declared (i.source).fields) place ≡ Some of → IsValue c.program (a.world).objects of w → Goes c env envs a (in_world (with_object number (with_words (slice_set (words_in number a.world) place w))) a)
  field_goes {a} number place {class} {shape} of w h i at field v =
      put_goes number (slice_set (words_in number a.world) place w) h (λ o there.
      fields_put context i o (slice_set (words_in number a.world) place w) (same_Some (shape_of o) shape (sym (ap (option_map shape_of) there) ∙ at)) (values_set (field_values h number i at) place of w field v))

  element_goes : {a : Activity} (number place : ℕ) {e : typed_element.Element} {shape : Shape} (w : Word) → IsWellFormed c env envs a → (i : IsArrayOf c.program e shape) → shape_at number (a.world).objects ≡ Some shape → IsValue c.program (a.world).objects (type_of_element e) w → Goes c env envs a (in_world (with_object number (with_words (slice_set (words_in number a.world) place w))) a)
  element_goes {a} number place w h i at v =
      elements_go context h number i at (slice_set (words_in number a.world) place w) (omega (arith, few_elements context h number i at, length-set (words_in number a.world) place w)) (all_set (elements_are context h number i at) place w v)

  -- what is overwritten is held
  old_held : {a : Activity} {of : VarType} (w : Word) → IsWellFormed c env envs a → IsValue c.program (a.world).objects of w → Goes c env envs a (in_frame (holding (handles (w ∷ []))) a)
  old_held w h v = hold_goes (handles (w ∷ [])) (one_lives v) h

  pub write_goes : {a : Activity} (l : Location) {of : VarType} (w : Word) → IsWellFormed c env envs a → IsLocated c env a l of → IsValue c.program (a.world).objects of w → Leaves c (λ (none : Unit {0}) b. Goes c env envs a b) (write l w a)
  write_goes {a} (Local slot) {of} w h (in_local at) v =
      let first = old_held (slice_index_or (a.frame).locals slot words.Null) h (value_at (h.frame).locals slot of at) in
      done (goes_more first (local_goes slot of w (well_after first) at v))
  write_goes {a} (Global place) {of} w h (in_global at) v =
      let first = old_held (slice_index_or (a.world).globals place words.Null) h (value_at (h.world).globals place of at) in
      done (goes_more first (global_goes place of w (well_after first) at v))
  write_goes {a} (Part number place) {of} w h (in_field i at field) v =
      let first = old_held (slice_index_or (words_in number a.world) place words.Null) h (value_at (field_values h number i at) place of field) in
      done (goes_more first (field_goes number place of w (well_after first) i at field v))
  write_goes {a} (Part number place) {of} w h (in_element i at lt same) v =
      let first = old_held (slice_index_or (words_in number a.world) place words.Null) h (all_at (elements_are context h number i at) place words.Null lt) in
      done (goes_more first (element_goes number place w (well_after first) i at (subst (λ (t : VarType). IsValue c.program (a.world).objects t w) same v)))
  write_goes (Property number id of) w h (in_property offers) v = set_property_goes offers number id w h

  -- what expressions store

  pub store_gives : {a : Activity} (l : Location) {of : VarType} (w : Word) → IsWellFormed c env envs a → IsLocated c env a l of → IsValue c.program (a.world).objects of w → ((n : ℕ) → handle w ≡ Some n → Contains (a.frame).held n) → Leaves c (Evaluates c env envs (value (as_value of)) a) (store w l a)
  store_gives l w h located v held =
      bind (write_goes l w h located v) (λ none b g. done (record { goes = g; carried = carry h g (record { value = gives (kept_value v); held = held }) }))

  store_integer : {a : Activity} (l : Location) {int_type : IntType} (w : Word) → IsWellFormed c env envs a → IsLocated c env a l (vars.Integer int_type) → IsInteger int_type w → Leaves c (Evaluates c env envs (value (vars.Integer int_type)) a) (store w l a)
  store_integer l w h located i = store_gives l w h located (is_integer i) (λ n e. absurd (integer_is_none n i e))

  after : {a b d : Activity} {of : ValueType} {w : Word} → Goes c env envs a b → Evaluates c env envs of b w d → Evaluates c env envs of a w d
  after g e = record { goes = goes_more g e.goes; carried = e.carried }

  pub update_gives : {a : Activity} (int_type : IntType) (calculation : Calculation) (right : Word) (l : Location) → IsShift calculation.operator ⊎ IsInteger calculation.of right → IsWellFormed c env envs a → IsLocated c env a l (vars.Integer int_type) → Leaves c (Evaluates c env envs (value (vars.Integer int_type)) a) (update int_type calculation right l a)
  update_gives {a} int_type calculation right l operand h located =
      bind (bind (read_gives l h located) (λ left b r. still r (calculate_gives b (safe (well_after r.goes)) calculation (converted_to calculation.of left) right (integer_word calculation.of _) operand)))
      (λ w d k. weaken (λ x y e. after k.goes e) (store_integer l (converted_to int_type w) (well_after k.goes) k.located (integer_word int_type _)))
    where
      still : {b : Activity} {left : Word} {P : Word → Type 0} {x : Progress Word} → IsRead c env envs l (vars.Integer int_type) a left b → Leaves c (λ w d. (d ≡ b) × P w) x → Leaves c (λ (w : Word) d. IsLeft c env envs l (vars.Integer int_type) a d) x
      still r got = weaken (λ w d q. subst (IsLeft c env envs l (vars.Integer int_type) a) (sym q.0) (record { goes = r.goes; located = r.located })) got

  pub count_gives : {a : Activity} (int_type : IntType) (step : IncrementOp) (l : Location) → IsWellFormed c env envs a → IsLocated c env a l (vars.Integer int_type) → Leaves c (Evaluates c env envs (value (vars.Integer int_type)) a) (count_at int_type step l a)
  count_gives int_type step l h located =
      bind (read_gives l h located) (λ old b r.
      let new = counted_integer step int_type old in
      bind (write_goes l (counted step int_type old) (well_after r.goes) r.located (is_integer new)) (λ none d g.
      let given = given_integer step (integer_in r.value) new in
      done (record {
        goes = goes_more r.goes g;
        carried = record { value = gives (is_integer given); held = λ n e. absurd (integer_is_none n given e) };
      })))
