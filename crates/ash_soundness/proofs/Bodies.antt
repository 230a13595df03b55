-- Bodies of sound functions leave what is well-formed, at every depth.
use Rattle.std.proofs.Common.{◌≡◌, ◌⊎◌, ℕ, zero, suc, false, List, map, refl, sym, ap, ◌∙◌, subst, inl, inr, slice_get}
use Rattle.std.specs.Prelude.{Option, Some, None}
use Rattle.std.specs.Option.{option_map_or}
use Rattle.std.proofs.lemmas.Option.{same_Some}
use Rattle.ash_host.specs.declared.word.Word.{Word}
use Rattle.ash_host.specs.declared.word.Word.TheVariants as words
use Rattle.ash_host.specs.Objects.{LiveObjects}
use Rattle.ash_typed.specs.declared.types.VarType.{VarType}
use Rattle.ash_typed.specs.TypedTree.{Expr}
use Rattle.ash_typed.specs.StatementTree.{Initialization}
use Rattle.ash_typed.specs.TypeOf.{value_of_result, value}
use Rattle.ash_typed.specs.Modules.{Class}
use Rattle.ash_typed.specs.Signatures as sig
use Rattle.ash_typed.specs.Signatures.{type_declared}
use Rattle.ash_typed.specs.SoundExpressions.{TypedEnvironment, Fits, fits}
use Rattle.ash_typed.specs.SoundStatements as sound
use Rattle.ash_typed.specs.SoundStatements.{IsSoundBeginning}
use Rattle.ash_typed.specs.SoundModules.{inside}
use Rattle.ash_typed.specs.TypedReturning.{AnyReturns}
use Rattle.ash_meaning.specs.Activity.{Activity}
use Rattle.ash_meaning.specs.Runs.{Progress, Run, onward, skip, ◌>>=◌}
use Rattle.ash_meaning.specs.Releases.{full}
use Rattle.ash_meaning.specs.Locations.{Part}
use Rattle.ash_meaning.specs.Classes.{Entry}
use Rattle.ash_meaning.specs.CallMeaning.{Calls, value_or_null}
use Rattle.ash_meaning.specs.ExpressionMeaning.{expression}
use Rattle.ash_meaning.specs.StatementMeaning.{Flow, On, Broke, Continued, Returned, statements}
use Rattle.ash_meaning.specs.Functions.{write_field, initialize_fields, value_of, run_entry, body}
use Rattle.ash_soundness.specs.WellFormed.{Context, IsContext, declared, IsOfClass, IsReference, to_object, IsValue, IsGiven, gives_nothing, IsThis, is_this, IsWellFormed}
use Rattle.ash_soundness.specs.WellFormedLaws.{Passes, Leaves, done, ended, no_step, IsLeftBy, by_break, by_continue, by_return}
use Rattle.ash_soundness.proofs.Triples.{bind, weaken, safe, passes_itself, passes_more}
use Rattle.ash_soundness.proofs.Arrays.{after_object}
use Rattle.ash_soundness.proofs.Locations.{in_field, write_goes}
use Rattle.ash_soundness.proofs.Frames.{IsResulted}
use Rattle.ash_soundness.proofs.Entries.{AreFields, no_fields, and_field, HasFields, none_initialized, all_initialized, IsEntry, in_class}
use Rattle.ash_soundness.proofs.Calls.{KeepsBodies}
use Rattle.ash_soundness.proofs.Statements.{on_after_passes, stored_passes, stmts_lead}
use Rattle.ash_soundness.proofs.Flows.{Yields, yields, anyway, then_yields, yields_more, Jumps, stmts_jump}
use Rattle.ash_soundness.proofs.Widening.{widened_fit}

-- what a variable begins with fits it
pub begins_fitting : {env : TypedEnvironment} {of : VarType} {e : Expr} → IsSoundBeginning env of (Some e) → Fits env of e
begins_fitting (sound.stored nothing e) = e
begins_fitting (sound.constructed k e) = fits e sig.same

module _ {c : Context} where
  -- what is left, of these values
  left_of : {A : Type 0} {Q : A → Activity → Type 0} {P : A → Type 0} {r : Progress A} → Leaves c Q r → Yields P r → Leaves c (λ v b. Q v b × P v) r
  left_of (done l) (yields p) = done (l, p)
  left_of (ended s) y = ended s
  left_of (no_step offers) y = no_step offers

  -- what a function gives by the way it is left
  finish : {result : Option VarType} {b : Activity} (flow : Flow) → IsLeftBy c result false false b flow → (result ≡ None) ⊎ Jumps flow → IsGiven c.program (b.world).objects (value_of_result result) (value_or_null (value_of flow))
  finish {b = b} On l (inl none) = subst (λ (o : Option VarType). IsGiven c.program (b.world).objects (value_of_result o) words.Null) (sym none) gives_nothing
  finish On l (inr jumps) = absurd (jumps refl)
  finish Broke (by_break e) j = absurd (cc)
  finish Continued (by_continue e) j = absurd (cc)
  finish (Returned v) (by_return k) j = k.value

module _ {c : Context} (context : IsContext c) (inner : Entry → Run (Option Word)) (bodies : KeepsBodies c inner) where
  abbrev here : Calls
  here = record { program = c.program; body = inner }

  -- fields

  reference_in : {all : LiveObjects (List ℕ)} {class : ℕ} {w : Word} → IsThis c.program all (Some class) w → IsReference all (IsOfClass c.program class) w
  reference_in (is_this at i) = to_object at i

  module _ {class : ℕ} {source : Class} (at : slice_get ((c.program).tree).classes class ≡ Some source) (locals : List VarType) {envs : List TypedEnvironment} where
    field_written : {a : Activity} (place : ℕ) (of : VarType) (w : Word) → slice_get (map type_declared source.fields) place ≡ Some of → IsWellFormed c (in_class c class locals) envs a → IsValue c.program (a.world).objects of w → Leaves c (λ (none : Unit {0}) b. Passes c (in_class c class locals) envs a b) (write_field place w a)
    field_written {a} place of w field h v =
        after_object _ a (safe h) (reference_in (h.frame).this) (λ number shape is there i.
        let one : source ≡ i.source = same_Some source i.source (sym at ∙ i.at) in
        weaken (λ none b g. g.passes) (write_goes context (Part number place) w h (in_field i there (subst (λ (k : Class). slice_get (map type_declared k.fields) place ≡ Some of) one field)) v))

    field_initialized : {a : Activity} (place : ℕ) (of : VarType) (o : Option Expr) → slice_get (map type_declared source.fields) place ≡ Some of → IsSoundBeginning (inside (declared c) class) of o → IsWellFormed c (in_class c class locals) envs a → Leaves c (λ (none : Unit {0}) b. Passes c (in_class c class locals) envs a b) (option_map_or (λ e. full (expression here e >>= write_field place)) o skip a)
    field_initialized place of None field k h = done (passes_itself h)
    field_initialized place of (Some e) field k h =
        stored_passes context inner bodies (in_class c class locals) refl envs (widened_fit (declared c) (Some class) locals (begins_fitting k)) h (λ w b well v. field_written place of w field well v)

    fields_initialized : {place : ℕ} {vs : List Initialization} → AreFields c class source place vs → {a : Activity} → IsWellFormed c (in_class c class locals) envs a → Leaves c (λ (none : Unit {0}) b. Passes c (in_class c class locals) envs a b) (initialize_fields here place vs a)
    fields_initialized no_fields h = done (passes_itself h)
    fields_initialized (and_field {place} {v} field k rest) h =
        bind (field_initialized place v.of v.value field k h) (λ none b p. weaken (λ one d q. passes_more p q) (fields_initialized rest p.well))

  class_env : (env : TypedEnvironment) (class : ℕ) → env.signatures ≡ declared c → env.this ≡ Some class → env ≡ in_class c class env.locals
  class_env env class same this = ap (λ (s : sig.ModuleSignatures). record { signatures = s; this = env.this; locals = env.locals }) same ∙ ap (λ (t : Option ℕ). record { signatures = declared c; this = t; locals = env.locals }) this

  entry_fields : {env : TypedEnvironment} {envs : List TypedEnvironment} {a : Activity} {vs : List Initialization} → env.signatures ≡ declared c → HasFields c env vs → IsWellFormed c env envs a → Leaves c (λ (none : Unit {0}) b. Passes c env envs a b) (initialize_fields here 0 vs a)
  entry_fields same none_initialized h = done (passes_itself h)
  entry_fields {env} {envs} {a} {vs} same (all_initialized {class} this at fs) h =
      let is : env ≡ in_class c class env.locals = class_env env class same this in
      subst (λ (x : TypedEnvironment). Leaves c (λ (none : Unit {0}) b. Passes c x envs a b) (initialize_fields here 0 vs a)) (sym is) (fields_initialized at env.locals fs (subst (λ (x : TypedEnvironment). IsWellFormed c x envs a) is h))

  -- bodies

  jumping : {result : Option VarType} (depth : ℕ) (e : Entry) (a : Activity) → (result ≡ None) ⊎ AnyReturns e.body → Yields (λ flow. (result ≡ None) ⊎ Jumps flow) (onward (initialize_fields here 0 e.fields a) (λ none. statements here depth e.body))
  jumping depth e a (inl none) = yields_more (λ flow _. inl none) (anyway (onward (initialize_fields here 0 e.fields a) (λ none. statements here depth e.body)))
  jumping depth e a (inr some) = yields_more (λ flow j. inr j) (then_yields (anyway (initialize_fields here 0 e.fields a)) (λ none b _. stmts_jump here depth some b))

  pub entry_gives : (depth : ℕ) (env : TypedEnvironment) (result : Option VarType) (e : Entry) → IsEntry c env result e → (envs : List TypedEnvironment) (a : Activity) → IsWellFormed c env envs a → Leaves c (λ v b. IsResulted c env envs (value_of_result result) a (value_or_null v) b) (run_entry here depth e a)
  entry_gives depth env result e k envs a h =
      bind (left_of (bind (entry_fields k.signatures k.fields h) (λ none b p. on_after_passes p (stmts_lead context inner bodies depth k.body k.signatures p.well))) (jumping depth e a k.returns))
      (λ flow b q. done (record { types = (q.0).types; passes = ((q.0).leads).passes; value = finish flow ((q.0).leads).left q.1 }))

-- at every depth
pub keeps_bodies : {c : Context} → IsContext c → (depth : ℕ) → KeepsBodies c (body c.program depth)
keeps_bodies context zero = record { keeps = λ env result e k envs a h. ended (safe h) }
keeps_bodies {c} context (suc depth) = record { keeps = λ env result e k envs a h. entry_gives context (body c.program depth) (keeps_bodies context depth) depth env result e k envs a h }
