use Rattle.std.proofs.Common.{ℕ, ◌≡◌, ◌⊎◌, ◌+◌, sym, ap, subst, ◌∙◌}
use Rattle.ash_typed.specs.TypedTreeViews.{expr_of, all_chained}
use Rattle.ash_typed.specs.TypedTree.{converted}
use Rattle.ash_code.specs.declared.instruction.Instruction.{Instruction}
use Rattle.ash_compile.specs.Emission.{Puts}
use Rattle.ash_compile.specs.Operands.{EmitsIn}
use Rattle.ash_compile.proofs.Operands.{stays_on}
use Rattle.ash_compile.proofs.EmittedTests as tests
use Rattle.ash_compile.proofs.builder.CodeBuilder.comparing.Goals as goal

pub returns : goal.returns
returns c = record {
  emits = λ compares.
      tests.comparison_tests c.args.self.now c.conversion_before.new.self c.value.new.self c.put.new.self
      c.args.last.now.operation c.args.comparison
      (converted c.args.last.now.before (all_chained (expr_of c.args.first.now) c.args.before.now))
      (expr_of c.args.last.now.value) c.args.slot c.in_ok-left-2.left c.in_ok-right.right c.here-at.result
      (c.in_ok-left-2.ensures.emits c.args.self.now (all_chained (expr_of c.args.first.now) c.args.before.now)
      c.in_ok-left.ensures.emits)
      (subst (λ (n : ℕ). EmitsIn c.conversion_before.new.self c.value.new.self (expr_of c.args.last.now.value) n
      c.in_ok-right.right) c.in_ok-next.ensures.more c.in_ok-right.ensures.emits)
      (subst (λ (j : Instruction). Puts c.value.new.self c.put.new.self c.args.slot j) c.branch_to.ensures.branch
      c.in_ok-put.ensures.puts)
      compares (stays_on c.in_ok-left-2.ensures.there c.in_ok-left.ensures.stays) c.here-at.ensures.place;
}
