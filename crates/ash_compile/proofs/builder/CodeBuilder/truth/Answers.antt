use Rattle.std.proofs.Common.{subst}
use Rattle.ash_code.specs.declared.instruction.Instruction.{Instruction}
use Rattle.ash_compile.specs.Emission.{Puts}
use Rattle.ash_compile.proofs.EmittedParts as parts
use Rattle.ash_compile.proofs.builder.CodeBuilder.truth.Goals as goal

pub returns : goal.returns
returns c = record {
  emits = λ start e emits.
      parts.truth_tests start c.args.self.now c.put.new.self e c.args.slot c.here-at.result emits
      (subst (λ (j : Instruction). Puts c.args.self.now c.put.new.self c.args.slot j) c.branch_to.ensures.branch
      c.in_ok-put.ensures.puts)
      c.here-at.ensures.place;
}
