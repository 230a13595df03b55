use Rattle.std.proofs.Common.{List, sym, subst, ◌∙◌}
use Rattle.ash_typed.specs.declared.tree.expressions.Operand as operand_code
use Rattle.ash_typed.specs.TypedTreeViews.{expr_of, all_chained}
use Rattle.ash_typed.proofs.Rows.{chain_is}
use Rattle.ash_compile.specs.EmittedStatements.{Tests}
use Rattle.ash_compile.proofs.Emitted.{if_ok}
use Rattle.ash_compile.proofs.EmittedTests as tests
use Rattle.ash_compile.proofs.builder.CodeBuilder.condition.Goals as goal

pub returns-in-Chain : goal.returns-in-Chain
returns-in-Chain c = record {
  emits = if_ok c.chain_condition.result
      (λ branch emits. tests.of_kind c.args.self.now c.chain_condition.new.self c.args.expr.now.kind.value _ _ c.args.slot
      branch (sym c.deref.ensures ∙ c.in-Chain.is) (chain_is c.in-Chain.first c.in-Chain.operands)
      (subst (λ (os : List operand_code.Operand). Tests c.args.self.now c.chain_condition.new.self
      (all_chained (expr_of c.in-Chain.first) os) c.args.slot branch) c.deref-in-Chain.ensures.value emits))
      c.chain_condition.ensures.emits;
}

pub returns-in_ok-expression-in_default : goal.returns-in_ok-expression-in_default
returns-in_ok-expression-in_default c = record {
  emits = if_ok c.truth.result
      (λ branch tests. tests c.args.self.now (expr_of c.args.expr.now) c.in_ok-expression-in_default.ensures.emits)
      c.truth.ensures.emits;
}
