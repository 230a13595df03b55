-- Emitted code of the initializers of a module, as a function of its own.
use Rattle.std.proofs.Common.{◌≡◌, ◌≤◌, ℕ, ◌+◌, List, [], length, sym, ap, ◌∙◌, subst, arith}
use Rattle.std.specs.Prelude.{Some, None, slice_get}
use Rattle.std.specs.List.{AllByRecursion}
use Rattle.ash_typed.specs.declared.types.VarType.{VarType}
use Rattle.ash_typed.specs.Modules.{Module}
use Rattle.ash_typed.specs.Signatures.{types_of_globals}
use Rattle.ash_typed.specs.SoundExpressions.{TypedEnvironment}
use Rattle.ash_typed.specs.SoundModules.{AreSoundVariables}
use Rattle.ash_meaning.specs.Functions.{initialize_module}
use Rattle.ash_soundness.specs.WellFormed.{declared}
use Rattle.ash_code.specs.declared.code.FunctionCode.{FunctionCode}
use Rattle.ash_code.specs.declared.instruction.Instruction.{Instruction}
use Rattle.ash_code.specs.declared.instruction.Instruction.TheVariants as i
use Rattle.ash_code.specs.Running as running
use Rattle.ash_compile.specs.declared.builder.Written.{Written}
use Rattle.ash_compile.specs.declared.layout.Layout.{Layout}
use Rattle.ash_compile.specs.Performances.{Acts}
use Rattle.ash_compile.specs.Layout.{IsLayout}
use Rattle.ash_compile.specs.Emission.{code_of, end_of, Keeps, Puts, Scene, IsScene, Suits, calls_of, Good, Stands}
use Rattle.ash_compile.specs.EmittedParts.{AreTypesFrom, EmitsDeclarations}
use Rattle.ash_compile.specs.ValidCode.{IsValidCode}
use Rattle.ash_compile.specs.EmittedFrames.{IsInitCode, IsFinished}
use Rattle.ash_compile.proofs.Emission.{keeps_on, put_keeps, put_there}
use Rattle.ash_compile.proofs.EmittedFields.{written_first}

module _ (begun mid last : Written) (m : Module) (f : FunctionCode) (empty : code_of begun ≡ [])
    (emits : EmitsDeclarations begun mid 0 m.globals) (puts : Puts mid last 0 i.ReturnNothing)
    (finished : IsFinished last 1 0 f) (valid : IsValidCode begun.layout f) where
  keeps : Keeps begun last
  keeps = keeps_on begun mid last emits.keeps (put_keeps mid last 0 i.ReturnNothing puts)

  acts : (s : Scene) → IsScene s
      → s.env ≡ record { signatures = declared s.context; this = None; locals = [] }
      → ((s.context).program).tree ≡ m
      → running.code_of (s.setting).code s.function ≡ f
      → f.slots ≤ s.greatest
      → IsLayout ((s.setting).code).module m begun.layout
      → Acts s.setting (Good s) s.function s.room (initialize_module (calls_of s) 0 m.globals) 0 (end_of mid) 0 0
  acts s scene env tree code slots layout =
      let starts : end_of begun ≡ 0 = ap length empty in
      let stands : Stands s (code_of last) (end_of begun) (end_of last)
      = λ k low high. ap (λ (g : FunctionCode). slice_get (g.instructions).items k) code
      ∙ ap (λ (is : List Instruction). slice_get is k) finished.instructions in
      let places : IsLayout ((s.setting).code).module ((s.context).program).tree begun.layout
      = subst (λ (t : Module). IsLayout ((s.setting).code).module t begun.layout) (sym tree) layout in
      let suits : Suits s last
      = record {
        slots = omega (arith, finished.slots, slots);
        layout = subst (λ (l : Layout). IsLayout ((s.setting).code).module ((s.context).program).tree l)
            (sym keeps.layout) places;
      } in
      let types : AreTypesFrom s 0 (types_of_globals m.globals)
      = λ k of at. nothing_more k of (subst (λ (t : Module). slice_get (types_of_globals t.globals) k ≡ Some of)
      (sym tree) at) in
      let sound : AllByRecursion (AreSoundVariables s.env) m.globals
      = subst (λ (t : Module). AllByRecursion (AreSoundVariables s.env) t.globals) tree
      (subst (λ (e : TypedEnvironment). AllByRecursion (AreSoundVariables e)
      ((s.context).program).tree.globals) (sym env)
      ((scene.sound).sound).globals) in
      subst (λ (n : ℕ). Acts s.setting (Good s) s.function s.room (initialize_module (calls_of s) 0 m.globals) n
      (end_of mid)
      0 0) starts
      (emits.does s (record { scene = scene; locals = ap (λ (e : TypedEnvironment). length e.locals) env }) types sound
      (written_first s begun mid last (put_keeps mid last 0 i.ReturnNothing puts) (stands, suits)))
    where
      nothing_more : (k : ℕ) (of : VarType)
          → slice_get (types_of_globals (((s.context).program).tree).globals) k ≡ Some of
          → slice_get (types_of_globals (((s.context).program).tree).globals) (0 + k) ≡ Some of
      nothing_more k of at =
          let level : k ≡ 0 + k = omega arith in
          subst (λ (n : ℕ). slice_get (types_of_globals (((s.context).program).tree).globals) n ≡ Some of) level at

  pub init_code : IsInitCode begun.layout m f
  init_code = record {
    line = finished.line;
    parameters = finished.parameters;
    valid = valid;
    end = end_of mid;
    ends = ap (λ (is : List Instruction). slice_get is (end_of mid)) finished.instructions
        ∙ put_there mid last 0 i.ReturnNothing puts;
    acts = acts;
  }
