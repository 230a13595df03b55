-- The initializers of a sound module run safely, from any well-formed activity on.
use Rattle.std.proofs.Common.{◌≡◌, ◌+◌, ℕ, suc, List, [], ◌∷◌, ◌++◌, length, map, refl, subst, slice_get, arith}
use Rattle.std.specs.Prelude.{Option, Some, None}
use Rattle.std.specs.List.{AllByRecursion}
use Rattle.std.specs.Option.{option_map_or}
use Rattle.ash_host.specs.declared.word.Word.{Word}
use Rattle.ash_typed.specs.declared.types.VarType.{VarType}
use Rattle.ash_typed.specs.TypedTree.{Expr}
use Rattle.ash_typed.specs.StatementTree.{Initialization}
use Rattle.ash_typed.specs.Modules.{Variables}
use Rattle.ash_typed.specs.Signatures.{type_declared, types_of_globals}
use Rattle.ash_typed.specs.SoundExpressions.{TypedEnvironment}
use Rattle.ash_typed.specs.SoundStatements.{IsInitialized, IsSoundBeginning}
use Rattle.ash_typed.specs.SoundModules.{outside, AreSoundVariables}
use Rattle.ash_meaning.specs.Activity.{Activity}
use Rattle.ash_meaning.specs.Runs.{skip, ◌>>=◌}
use Rattle.ash_meaning.specs.Releases.{full}
use Rattle.ash_meaning.specs.Locations.{Global, write}
use Rattle.ash_meaning.specs.ExpressionMeaning.{expression}
use Rattle.ash_meaning.specs.Functions.{initialize_globals, initialize_module, body, calls_within}
use Rattle.ash_soundness.specs.WellFormed.{Context, IsContext, declared, IsWellFormed, IsSafe}
use Rattle.ash_soundness.specs.WellFormedLaws.{Passes, Leaves, done}
use Rattle.ash_soundness.proofs.Bodies.{keeps_bodies, begins_fitting}
use Rattle.ash_soundness.proofs.Frames.{tick_goes}
use Rattle.ash_soundness.proofs.Locations.{in_global, write_goes}
use Rattle.ash_soundness.proofs.Statements.{stored_passes}
use Rattle.ash_soundness.proofs.Triples.{bind, weaken, safe, passes_itself, passes_more}
use Rattle.ash_code.specs.CompiledCode.{env_of, run_of_load}

module _ {c : Context} (context : IsContext c) (budget : ℕ) where
  abbrev env : TypedEnvironment
  env = outside (declared c)

  abbrev types : List VarType
  types = types_of_globals ((c.program).tree).globals

  -- what a step leaves
  abbrev Leads : Activity → Unit {0} → Activity → Type 0
  Leads a none b = Passes c env [] a b

  -- the globals from one on are of these types
  Types : ℕ → List VarType → Type 0
  Types place those = (i : ℕ) (of : VarType) → slice_get those i ≡ Some of → slice_get types (place + i) ≡ Some of

  at_place : (place : ℕ) (of : VarType) (those : List VarType) → Types place (of ∷ those) → slice_get types place ≡ Some of
  unfolding Types
  at_place place of those t =
      let here : place + 0 ≡ place = omega arith in
      subst (λ (n : ℕ). slice_get types n ≡ Some of) here (t 0 of refl)

  next_place : (place : ℕ) (of : VarType) (those : List VarType) → Types place (of ∷ those) → Types (place + 1) those
  unfolding Types
  next_place place of those t i other at =
      let level : place + suc i ≡ place + 1 + i = omega arith in
      subst (λ (n : ℕ). slice_get types n ≡ Some other) level (t (suc i) other at)

  after_types : (place : ℕ) (vs : List Initialization) (more : List VarType)
      → Types place (map type_declared vs ++ more) → Types (place + length vs) more
  unfolding Types
  after_types place [] more t i of at =
      let level : place + i ≡ place + 0 + i = omega arith in
      subst (λ (n : ℕ). slice_get types n ≡ Some of) level (t i of at)
  after_types place (v ∷ vs) more t i of at =
      let level : place + 1 + length vs + i ≡ place + suc (length vs) + i = omega arith in
      subst (λ (n : ℕ). slice_get types n ≡ Some of) level
      (after_types (place + 1) vs more (next_place place v.of (map type_declared vs ++ more) t) i of at)

  global_leads : {a : Activity} (place : ℕ) (of : VarType) (o : Option Expr) → slice_get types place ≡ Some of
      → IsSoundBeginning env of o → IsWellFormed c env [] a
      → Leaves c (Leads a)
      (option_map_or (λ e. full (expression (calls_within c.program budget) e >>= write (Global place))) o skip a)
  global_leads place of None at k h = done (passes_itself h)
  global_leads place of (Some e) at k h =
      stored_passes context (body c.program budget) (keeps_bodies context budget) env refl [] (begins_fitting k) h
      (λ w b well v. weaken (λ none d g. g.passes) (write_goes context (Global place) w well (in_global at) v))

  globals_lead : {a : Activity} (place : ℕ) (vs : List Initialization) (more : List VarType)
      → Types place (map type_declared vs ++ more) → AllByRecursion (IsInitialized env) vs → IsWellFormed c env [] a
      → Leaves c (Leads a) (initialize_globals (calls_within c.program budget) place vs a)
  globals_lead place [] more t k h = done (passes_itself h)
  globals_lead place (v ∷ vs) more t k h =
      bind (global_leads place v.of v.value (at_place place v.of (map type_declared vs ++ more) t) (k.0).value h)
      (λ none b p. weaken (λ one d q. passes_more p q)
      (globals_lead (place + 1) vs more (next_place place v.of (map type_declared vs ++ more) t) k.1 p.well))

  module_leads : {a : Activity} (place : ℕ) (ds : List Variables) → Types place (types_of_globals ds)
      → AllByRecursion (AreSoundVariables env) ds → IsWellFormed c env [] a
      → Leaves c (Leads a) (initialize_module (calls_within c.program budget) place ds a)
  module_leads place [] t k h = done (passes_itself h)
  module_leads place (d ∷ ds) t k h =
      bind (bind (tick_goes d.line h) (λ none b g. weaken (λ one x q. passes_more g.passes q)
      (globals_lead place d.values (types_of_globals ds) t k.0 (g.passes).well)))
      (λ none b p. weaken (λ one x q. passes_more p q)
      (module_leads (place + length d.values) ds (after_types place d.values (types_of_globals ds) t) k.1 p.well))

  pub loads_safely : (a : Activity) → IsWellFormed c (env_of c []) [] a
      → Leaves c (λ (v : Option Word) b. IsSafe c b) (run_of_load c.program budget a)
  unfolding Types
  loads_safely a well =
      bind (module_leads 0 ((c.program).tree).globals from_first (context.sound).globals well) (λ none b p. done (safe p.well))
    where
      from_first : (i : ℕ) (of : VarType) → slice_get types i ≡ Some of → slice_get types (0 + i) ≡ Some of
      from_first i of at =
          let level : i ≡ 0 + i = omega arith in subst (λ (n : ℕ). slice_get types n ≡ Some of) level at
