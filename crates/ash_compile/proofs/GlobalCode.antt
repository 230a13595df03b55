-- The code of the initializers of a module does what they do.
use Rattle.std.proofs.Common.{◌≡◌, ℕ, suc, ◌+◌, List, [], ◌∷◌, ◌++◌, map, length, refl, ap, ◌∙◌, subst, arith, true}
use Rattle.std.proofs.Common.{Bool}
use Rattle.std.specs.Prelude.{Option, Some, None, slice_get, ◌&&◌}
use Rattle.std.specs.List.{AllByRecursion}
use Rattle.std.specs.Option.{option_map_or}
use Rattle.std.proofs.lemmas.Option.{slice_get_within}
use Rattle.std.proofs.lemmas.Bool.Decides.{nat_tests}
use Rattle.ash_host.specs.declared.word.Word.{Word}
use Rattle.ash_typed.specs.declared.types.VarType.{VarType}
use Rattle.ash_typed.specs.TypedTree.{Expr}
use Rattle.ash_typed.specs.StatementTree.{Initialization}
use Rattle.ash_typed.specs.Modules.{Variables}
use Rattle.ash_typed.specs.Signatures.{type_declared, types_of_globals}
use Rattle.ash_typed.specs.SoundExpressions.{Fits, fits}
use Rattle.ash_typed.specs.SoundStatements.{IsSoundBeginning, IsInitialized}
use Rattle.ash_meaning.specs.Activity.{Activity}
use Rattle.ash_meaning.specs.Runs.{Done, skip, ◌>>=◌, ◌>>◌}
use Rattle.ash_meaning.specs.Frames.{tick}
use Rattle.ash_meaning.specs.Releases.{full}
use Rattle.ash_meaning.specs.Locations.{Global, write}
use Rattle.ash_meaning.specs.ExpressionMeaning.{expression}
use Rattle.ash_meaning.specs.Functions.{initialize_global, initialize_globals, initialize_module}
use Rattle.ash_meaning.proofs.StepWalks.{to_write}
use Rattle.ash_soundness.proofs.Triples.{weaken}
use Rattle.ash_soundness.proofs.Lists.{values_length}
use Rattle.ash_soundness.proofs.Locations.{in_global, write_goes}
use Rattle.ash_soundness.proofs.Bodies.{begins_fitting}
use Rattle.ash_run_steps.specs.GuardedSteps.{is_alive}
use Rattle.ash_code.specs.declared.instruction.Instruction.TheVariants as i
use Rattle.ash_code.specs.Steps.{has_global}
use Rattle.ash_compile.specs.Stretches.{Has, Computes}
use Rattle.ash_compile.specs.Performances.{Acts}
use Rattle.ash_compile.specs.Emission.{Scene, IsScene, calls_of}
use Rattle.ash_compile.specs.EmittedParts.{AreTypesFrom}
use Rattle.ash_compile.proofs.Typed.{evaluates}
use Rattle.ash_compile.proofs.Loops.{Spends}
use Rattle.ash_compile.proofs.Statements as code
use Rattle.ash_compile.proofs.Functions as frames
use Rattle.ash_compile.proofs.TypedStatements.{Ready, IsRanked, spends_then, spends_give, spends_tick}
use Rattle.ash_compile.proofs.BlockCode.{given_alive}
use Rattle.ash_compile.proofs.StoredCode.{Stores, spends_stored, stored_ranks}

pub type_here : (s : Scene) (place : ℕ) (of : VarType) (types : List VarType) → AreTypesFrom s place (of ∷ types)
    → slice_get (types_of_globals (((s.context).program).tree).globals) place ≡ Some of
type_here s place of types are =
    let here : place + 0 ≡ place = omega arith in
    subst (λ (n : ℕ). slice_get (types_of_globals (((s.context).program).tree).globals) n ≡ Some of) here
    (are 0 of refl)

pub types_next : (s : Scene) (place : ℕ) (of : VarType) (types : List VarType) → AreTypesFrom s place (of ∷ types)
    → AreTypesFrom s (place + 1) types
types_next s place of types are k other at =
    let level : place + suc k ≡ place + 1 + k = omega arith in
    subst (λ (n : ℕ). slice_get (types_of_globals (((s.context).program).tree).globals) n ≡ Some other) level
    (are (suc k) other at)

pub types_behind : (s : Scene) (place : ℕ) (vs : List Initialization) (more : List VarType)
    → AreTypesFrom s place (map type_declared vs ++ more) → AreTypesFrom s (place + length vs) more
types_behind s place [] more are k of at =
    let level : place + k ≡ place + 0 + k = omega arith in
    subst (λ (n : ℕ). slice_get (types_of_globals (((s.context).program).tree).globals) n ≡ Some of) level (are k of at)
types_behind s place (v ∷ vs) more are k of at =
    let level : place + 1 + length vs + k ≡ place + suc (length vs) + k = omega arith in
    subst (λ (n : ℕ). slice_get (types_of_globals (((s.context).program).tree).globals) n ≡ Some of) level
    (types_behind s (place + 1) vs more (types_next s place v.of (map type_declared vs ++ more) are) k of at)

both_hold : (x y : Bool) → x ≡ true → y ≡ true → x && y ≡ true
both_hold x y first second = ap (λ (t : Bool). t && y) first ∙ second

module _ (s : Scene) (scene : IsScene s) where
  stores_global : (place : ℕ) (of : VarType)
      → slice_get (types_of_globals (((s.context).program).tree).globals) place ≡ Some of
      → Stores s scene of (write (Global place))
  stores_global place of at w b good v =
      weaken (λ u d g. g.passes) (write_goes scene.sound (Global place) w good (in_global at) v)

  -- globals keep activities good

  spends_value : (place : ℕ) (of : VarType) (o : Option Expr)
      → slice_get (types_of_globals (((s.context).program).tree).globals) place ≡ Some of
      → IsSoundBeginning s.env of o
      → Spends (Ready s) (option_map_or (λ e. full (expression (calls_of s) e >>= write (Global place))) o skip)
  spends_value place of None at begins = spends_give (Ready s) tt
  spends_value place of (Some e) at begins =
      spends_stored s scene of e (write (Global place)) (begins_fitting begins) (stores_global place of at)
      (to_write (Global place))

  pub spends_global : (place : ℕ) (v : Initialization)
      → slice_get (types_of_globals (((s.context).program).tree).globals) place ≡ Some v.of
      → IsSoundBeginning s.env v.of v.value
      → Spends (Ready s) (initialize_global (calls_of s) place v)
  spends_global place v at begins = spends_value place v.of v.value at begins

  pub spends_globals : (place : ℕ) (vs : List Initialization) (more : List VarType)
      → AreTypesFrom s place (map type_declared vs ++ more) → AllByRecursion (IsInitialized s.env) vs
      → Spends (Ready s) (initialize_globals (calls_of s) place vs)
  spends_globals place [] more are begins = spends_give (Ready s) tt
  spends_globals place (v ∷ vs) more are begins =
      spends_then (initialize_global (calls_of s) place v) (λ _. initialize_globals (calls_of s) (place + 1) vs)
      (spends_global place v (type_here s place v.of (map type_declared vs ++ more) are) (begins.0).value)
      (λ _. spends_globals (place + 1) vs more (types_next s place v.of (map type_declared vs ++ more) are) begins.1)

module _ (s : Scene) (scene : IsScene s) (ranked : IsRanked s) where
  abbrev locals : ℕ
  locals = length (s.env).locals

  global_alive : (place : ℕ) (of : VarType) (e : Expr)
      → slice_get (types_of_globals (((s.context).program).tree).globals) place ≡ Some of
      → Fits s.env of e → (a b : Activity) (v : Word) → Ready s a → expression (calls_of s) e a ≡ Done v b
      → has_global place b && is_alive v b ≡ true
  global_alive place of e at (fits {actual = from} typed subtype) a b v good is =
      let got = evaluates s e from a b v scene typed good is in
      let long = values_length ((((got.goes).passes).well).world).globals in
      let within = slice_get_within (types_of_globals (((s.context).program).tree).globals) place of at in
      both_hold (has_global place b) (is_alive v b) (grind (arith, nat_tests)) (given_alive v b (got.carried).value)

  -- a global with a value
  pub does_global : (place : ℕ) (of : VarType) (e : Expr) (from mid : ℕ)
      → slice_get (types_of_globals (((s.context).program).tree).globals) place ≡ Some of
      → Fits s.env of e
      → Computes s.setting (Ready s) s.function s.room (expression (calls_of s) e) from mid locals
      → Has s.setting (Ready s) s.function s.room mid (i.WriteGlobal place locals)
      → Has s.setting (Ready s) s.function s.room (mid + 1) i.EndExpression
      → Acts s.setting (Ready s) s.function s.room (full (expression (calls_of s) e >>= write (Global place))) from
      (mid + 1 + 1) locals locals
  does_global place of e from mid at fit computes has ends =
      frames.initializes_global s.setting (Ready s) s.function s.room (expression (calls_of s) e) place from mid locals
      computes has ends (global_alive place of e at fit)
      (stored_ranks s scene ranked of e (write (Global place)) fit (stores_global s scene place of at))

  -- globals, one after another
  pub does_globals : (place : ℕ) (v : Initialization) (vs : List Initialization) (from mid to : ℕ)
      → slice_get (types_of_globals (((s.context).program).tree).globals) place ≡ Some v.of
      → IsSoundBeginning s.env v.of v.value
      → Acts s.setting (Ready s) s.function s.room (initialize_global (calls_of s) place v) from mid locals locals
      → Acts s.setting (Ready s) s.function s.room (initialize_globals (calls_of s) (place + 1) vs) mid to locals locals
      → Acts s.setting (Ready s) s.function s.room
      (initialize_globals (calls_of s) place (v ∷ vs)) from to locals locals
  does_globals place v vs from mid to at begins first second =
      code.acts_then s.setting (Ready s) s.function s.room (Ready s) (initialize_global (calls_of s) place v)
      (initialize_globals (calls_of s) (place + 1) vs) from mid to locals locals locals first
      (λ a b u good is. (spends_global s scene place v at begins a b u good is).0) second

  -- a declaration with its tick, and those after it
  pub does_variables : (place : ℕ) (d : Variables) (ds : List Variables) (from mid to : ℕ)
      → AreTypesFrom s place (types_of_globals (d ∷ ds))
      → AllByRecursion (IsInitialized s.env) d.values
      → Has s.setting (Ready s) s.function s.room from (i.Tick d.line)
      → Acts s.setting (Ready s) s.function s.room (initialize_globals (calls_of s) place d.values)
      (from + 1) mid locals
      locals
      → Acts s.setting (Ready s) s.function s.room (initialize_module (calls_of s) (place + length d.values) ds) mid to
      locals locals
      → Acts s.setting (Ready s) s.function s.room (initialize_module (calls_of s) place (d ∷ ds)) from to locals locals
  does_variables place d ds from mid to are begins has first second =
      let globals = initialize_globals (calls_of s) place d.values in
      let one = spends_then (tick d.line) (λ _. globals) (spends_tick s scene d.line)
      (λ _. spends_globals s scene place d.values (types_of_globals ds) are begins) in
      code.acts_then s.setting (Ready s) s.function s.room (Ready s) (tick d.line >> globals)
      (initialize_module (calls_of s) (place + length d.values) ds) from mid to locals locals locals
      (code.acts_then s.setting (Ready s) s.function s.room (Ready s) (tick d.line) globals from
      (from + 1) mid locals locals
      locals (frames.ticks_alone s.setting (Ready s) s.function s.room d.line from locals has)
      (λ a b u good is. (spends_tick s scene d.line a b u good is).0) first)
      (λ a b u good is. (one a b u good is).0) second
