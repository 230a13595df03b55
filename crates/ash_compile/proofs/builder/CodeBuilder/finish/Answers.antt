use Rattle.std.proofs.Common.{arith, refl, ap, ◌∙◌, subst}
use Rattle.ash_code.specs.declared.code.FunctionCode.{FunctionCode}
use Rattle.ash_compile.specs.declared.builder.Written.{Written}
use Rattle.ash_compile.specs.Emission.{code_of}
use Rattle.ash_compile.specs.EmittedFrames.{IsFinished}
use Rattle.ash_compile.specs.ValidCode.{AllPlaced}
use Rattle.ash_compile.proofs.ValidSteps.{valid_code}
use Rattle.ash_compile.proofs.builder.CodeBuilder.finish.Goals as goal

pub returns-clause-finished : goal.returns-clause-finished
returns-clause-finished c = (
  c.put.new.self,
  c.in_ok-put.ensures.puts,
  record {
    line = refl;
    parameters = refl;
    slots = omega (arith, ap (λ (w : Written). w.slots) c.self-2.view_is, c.in_ok-slots.ensures.used);
    instructions = ap (λ (v : _). v.items) c.replace-instructions.ensures.value ∙ ap code_of c.self-2.view_is;
  },
)

pub returns-clause-valid : goal.returns-clause-valid
returns-clause-valid c =
    let last = c.put.new.self in
    let f : FunctionCode = record {
      line = c.args.line;
      parameters = c.args.parameters;
      slots = c.in_ok-slots.slots;
      instructions = c.replace-instructions.result;
    } in
    let finished : IsFinished last c.args.line c.args.parameters f
    = record {
      line = refl;
      parameters = refl;
      slots = omega (arith, ap (λ (w : Written). w.slots) c.self-2.view_is, c.in_ok-slots.ensures.used);
      instructions = ap (λ (v : _). v.items) c.replace-instructions.ensures.value ∙ ap code_of c.self-2.view_is;
    } in
    valid_code c.args.self.now c.put.new.self c.self.inside.highest c.self-2.inside.highest c.args.parameters
    c.args.line
    c.args.end f (subst (λ (w : Written). AllPlaced w c.self.inside.highest) c.self.view_is c.self.invariant)
    (subst (λ (w : Written). AllPlaced w c.self-2.inside.highest) c.self-2.view_is c.self-2.invariant)
    c.in_ok-put.ensures.puts c.requires.ends finished
    c.in_ok-slots.ensures.named.0 c.in_ok-slots.ensures.named.1
