use Rattle.std.proofs.Common.{List, sym, ap, refl, subst, ◌∙◌}
use Rattle.ash_typed.specs.declared.tree.expressions.Operand as operand_code
use Rattle.ash_typed.specs.TypedTree.{Expr}
use Rattle.ash_typed.specs.TypedTreeViews.{expr_of, all_chained}
use Rattle.ash_compile.specs.EmittedStatements.{Tests}
use Rattle.ash_compile.proofs.Emitted.{if_ok}
use Rattle.ash_compile.proofs.EmittedRows.{empty_is, chained_after}
use Rattle.ash_compile.proofs.builder.CodeBuilder.chain_condition.Goals as goal

pub returns-in_ok-expression-in-None : goal.returns-in_ok-expression-in-None
returns-in_ok-expression-in-None c =
    let first = expr_of c.args.first.now in
    record {
      emits = if_ok c.truth.result
          (λ branch tests.
          subst (λ (os : List operand_code.Operand). Tests c.args.self.now c.truth.new.self (all_chained first os) c.args.slot
          branch) (empty_is c.args.operands.now c.in-None.ensures.cases)
          (tests c.args.self.now first c.in_ok-expression-in-None.ensures.emits))
          c.truth.ensures.emits;
    }

pub returns-in-Some-comparison_of : goal.returns-in-Some-comparison_of
returns-in-Some-comparison_of c =
    let first = expr_of c.args.first.now in
    record {
      emits = if_ok c.comparing.result
          (λ branch tests.
          subst (λ (x : Expr). Tests c.args.self.now c.comparing.new.self x c.args.slot branch)
          (sym (ap (all_chained first) (c.in-Some.ensures.cases).0
          ∙ chained_after first c.in-Some.before.now c.in-Some.last.now))
          (tests c.in-Some-comparison_of.ensures.compares))
          c.comparing.ensures.emits;
    }

pub returns-in_ok-chain-in-None-comparison_of : goal.returns-in_ok-chain-in-None-comparison_of
returns-in_ok-chain-in-None-comparison_of c = record {
  emits = if_ok c.truth-in-None-comparison_of.result
      (λ branch tests. tests c.args.self.now (all_chained (expr_of c.args.first.now) c.args.operands.now)
      ((c.in_ok-chain-in-None-comparison_of.ensures.emits).in_slot refl))
      c.truth-in-None-comparison_of.ensures.emits;
}
