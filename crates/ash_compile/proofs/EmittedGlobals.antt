-- Emitted code of the initializers of a module, put together.
use Rattle.std.proofs.Common.{◌≡◌, ℕ, ◌+◌, List, [], ◌∷◌, ◌++◌, map, length, sym, subst, arith}
use Rattle.std.specs.Prelude.{Option, Some, None, slice_get}
use Rattle.std.specs.Option.{option_map_or}
use Rattle.ash_typed.specs.TypedTree.{Expr}
use Rattle.ash_typed.specs.StatementTree.{Initialization}
use Rattle.ash_typed.specs.Modules.{Variables}
use Rattle.ash_typed.specs.Signatures.{type_declared, types_of_globals}
use Rattle.ash_typed.specs.SoundExpressions.{Fits, fits}
use Rattle.ash_typed.specs.SoundStatements.{IsSoundBeginning}
use Rattle.ash_meaning.specs.Runs.{skip, ◌>>=◌}
use Rattle.ash_meaning.specs.Releases.{full}
use Rattle.ash_meaning.specs.Locations.{Global, write}
use Rattle.ash_meaning.specs.ExpressionMeaning.{expression}
use Rattle.ash_meaning.specs.Functions.{initialize_global, initialize_globals, initialize_module}
use Rattle.ash_soundness.proofs.Bodies.{begins_fitting}
use Rattle.ash_code.specs.declared.instruction.Instruction.TheVariants as i
use Rattle.ash_compile.specs.declared.builder.Written.{Written}
use Rattle.ash_compile.specs.Performances.{Acts}
use Rattle.ash_compile.specs.Emission.{end_of, Puts, Scene, IsScene, calls_of, Good}
use Rattle.ash_compile.specs.EmittedParts.{IsWritten, ActsFrom, Initializes, EmitsGlobal, EmitsGlobals}
use Rattle.ash_compile.specs.EmittedParts.{EmitsDeclarations}
use Rattle.ash_compile.proofs.Statements as code
use Rattle.ash_compile.proofs.Emission.{keeps_on, put_one, put_keeps, has_put}
use Rattle.ash_compile.proofs.TypedStatements.{ranked_of}
use Rattle.ash_compile.proofs.GlobalCode.{type_here, types_next, types_behind, does_global, does_globals}
use Rattle.ash_compile.proofs.GlobalCode.{does_variables}
use Rattle.ash_compile.proofs.EmittedFields.{keeps_itself, written_first, written_second, StoresValue, stored_keeps}
use Rattle.ash_compile.proofs.EmittedFields.{has_stored}

-- one global

pub global_without : (b : Written) (place : ℕ) (v : Initialization) → v.value ≡ None → EmitsGlobal b b place v
global_without b place v none = record {
  keeps = keeps_itself b;
  does = λ s initializes at sound written.
      subst (λ (o : Option Expr). ActsFrom s b b 0
      (option_map_or (λ e. full (expression (calls_of s) e >>= write (Global place))) o skip)) (sym none)
      (code.acts_none s.setting (Good s) s.function s.room (end_of b) 0);
}

global_here : (s : Scene) (old new : Written) (place : ℕ) (v : Initialization) (e : Expr)
    → IsScene s
    → slice_get (types_of_globals (((s.context).program).tree).globals) place ≡ Some v.of
    → Fits s.env v.of e
    → IsWritten s old new
    → StoresValue old new e (length (s.env).locals) (i.WriteGlobal place (length (s.env).locals))
    → ActsFrom s old new (length (s.env).locals) (full (expression (calls_of s) e >>= write (Global place)))
global_here s old new place v e scene at (fits {actual = from} typed subtype) written x =
    let locals = length (s.env).locals in
    let run = full (expression (calls_of s) e >>= write (Global place)) in
    let has = has_stored s old new e locals (i.WriteGlobal place locals) from scene typed x written in
    subst (λ (to : ℕ). Acts s.setting (Good s) s.function s.room run (end_of old) to locals locals) (sym has.to)
    (does_global s scene (ranked_of s scene) place v.of e (end_of old) has.mid at
    (fits typed subtype) has.value has.stores
    has.ends)

global_does : (s : Scene) (old new : Written) (place : ℕ) (v : Initialization) (e : Expr)
    → v.value ≡ Some e
    → StoresValue old new e 0 (i.WriteGlobal place 0)
    → Initializes s
    → slice_get (types_of_globals (((s.context).program).tree).globals) place ≡ Some v.of
    → IsSoundBeginning s.env v.of v.value
    → IsWritten s old new
    → ActsFrom s old new 0 (initialize_global (calls_of s) place v)
global_does s old new place v e some x initializes at begins written =
    let fit = begins_fitting (subst (λ (o : Option Expr). IsSoundBeginning s.env v.of o) some begins) in
    let run = full (expression (calls_of s) e >>= write (Global place)) in
    subst (λ (o : Option Expr). ActsFrom s old new 0
    (option_map_or (λ d. full (expression (calls_of s) d >>= write (Global place))) o skip)) (sym some)
    (subst (λ (n : ℕ). StoresValue old new e n (i.WriteGlobal place n) → ActsFrom s old new n run) initializes.locals
    (λ y. global_here s old new place v e initializes.scene at fit written y) x)

pub global_with : (old new : Written) (place : ℕ) (v : Initialization) (e : Expr) → v.value ≡ Some e
    → StoresValue old new e 0 (i.WriteGlobal place 0) → EmitsGlobal old new place v
global_with old new place v e some x = record {
  keeps = stored_keeps old new e 0 (i.WriteGlobal place 0) x;
  does = λ s initializes at sound written. global_does s old new place v e some x initializes at sound.value written;
}

-- globals, one after another

pub no_globals : (b : Written) (place : ℕ) → EmitsGlobals b b place []
no_globals b place = record {
  keeps = keeps_itself b;
  does = λ s more initializes types sound written. code.acts_none s.setting (Good s) s.function s.room (end_of b) 0;
}

globals_do : (s : Scene) (old mid new : Written) (place : ℕ) (v : Initialization) (vs : List Initialization)
    → Initializes s
    → slice_get (types_of_globals (((s.context).program).tree).globals) place ≡ Some v.of
    → IsSoundBeginning s.env v.of v.value
    → ActsFrom s old mid 0 (initialize_global (calls_of s) place v)
    → ActsFrom s mid new 0 (initialize_globals (calls_of s) (place + 1) vs)
    → ActsFrom s old new 0 (initialize_globals (calls_of s) place (v ∷ vs))
globals_do s old mid new place v vs initializes at begins first second =
    subst (λ (n : ℕ). ActsFrom s old mid n (initialize_global (calls_of s) place v)
    → ActsFrom s mid new n (initialize_globals (calls_of s) (place + 1) vs)
    → ActsFrom s old new n (initialize_globals (calls_of s) place (v ∷ vs))) initializes.locals
    (does_globals s initializes.scene (ranked_of s initializes.scene) place v vs (end_of old) (end_of mid)
    (end_of new) at
    begins) first second

pub more_globals : (old mid new : Written) (place : ℕ) (v : Initialization) (vs : List Initialization)
    → EmitsGlobal old mid place v → EmitsGlobals mid new (place + 1) vs → EmitsGlobals old new place (v ∷ vs)
more_globals old mid new place v vs first second = record {
  keeps = keeps_on old mid new first.keeps second.keeps;
  does = λ s more initializes types sound written.
      let at = type_here s place v.of (map type_declared vs ++ more) types in
      globals_do s old mid new place v vs initializes at (sound.0).value
      (first.does s initializes at sound.0 (written_first s old mid new second.keeps written))
      (second.does s more initializes (types_next s place v.of (map type_declared vs ++ more) types) sound.1
      (written_second s old mid new first.keeps written));
}

-- declarations, one after another

pub no_variables : (b : Written) (place : ℕ) → EmitsDeclarations b b place []
no_variables b place = record {
  keeps = keeps_itself b;
  does = λ s initializes types sound written. code.acts_none s.setting (Good s) s.function s.room (end_of b) 0;
}

pub more_variables : (old ticked mid new : Written) (place : ℕ) (d : Variables) (ds : List Variables)
    → Puts old ticked 0 (i.Tick d.line)
    → EmitsGlobals ticked mid place d.values
    → EmitsDeclarations mid new (place + length d.values) ds
    → EmitsDeclarations old new place (d ∷ ds)
more_variables old ticked mid new place d ds puts first second = record {
  keeps = keeps_on old ticked new (put_keeps old ticked 0 (i.Tick d.line) puts)
      (keeps_on ticked mid new first.keeps second.keeps);
  does = λ s initializes types sound written.
      let tick = put_keeps old ticked 0 (i.Tick d.line) puts in
      let later = keeps_on ticked mid new first.keeps second.keeps in
      let scene = initializes.scene in
      let behind = written_second s old ticked new tick written in
      let has = has_put s old ticked (end_of old) 0 (i.Tick d.line) (omega arith) puts
      (written_first s old ticked new later written).0 in
      let one = first.does s (types_of_globals ds) initializes types sound.0
      (written_first s ticked mid new second.keeps behind) in
      let rest = second.does s initializes (types_behind s place d.values (types_of_globals ds) types) sound.1
      (written_second s ticked mid new first.keeps behind) in
      subst (λ (n : ℕ). Acts s.setting (Good s) s.function s.room (initialize_globals (calls_of s) place d.values)
      (end_of old + 1) (end_of mid) n n
      → ActsFrom s mid new n (initialize_module (calls_of s) (place + length d.values) ds)
      → ActsFrom s old new n (initialize_module (calls_of s) place (d ∷ ds))) initializes.locals
      (does_variables s scene (ranked_of s scene) place d ds (end_of old) (end_of mid) (end_of new) types sound.0 has)
      (subst (λ (from : ℕ). Acts s.setting (Good s) s.function s.room
      (initialize_globals (calls_of s) place d.values) from
      (end_of mid) 0 0) (put_one old ticked 0 (i.Tick d.line) puts) one)
      rest;
}
