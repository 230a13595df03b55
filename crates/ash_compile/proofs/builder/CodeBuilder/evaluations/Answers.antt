use Rattle.std.proofs.Common.{List, ◌+◌, drop, map, subst}
use Rattle.ash_typed.specs.declared.tree.expressions.Expr as expr_code
use Rattle.ash_typed.specs.TypedTreeViews.{expr_of}
use Rattle.ash_compile.specs.EmittedStatements.{EmitsEvaluations}
use Rattle.ash_compile.proofs.Remaining.{next_of, none_of}
use Rattle.ash_compile.proofs.EmittedParts as parts
use Rattle.ash_compile.proofs.builder.CodeBuilder.evaluations.Goals as goal

pub loop-expr-init : goal.loop-expr-init
loop-expr-init c = λ end rest. rest

pub loop-expr-preserved : goal.loop-expr-preserved
loop-expr-preserved c = λ end rest.
    c.loop-expr.invariant end
    (subst (λ (xs : List expr_code.Expr). EmitsEvaluations c.loop-expr.self end (map expr_of xs) c.args.slot)
    (next_of c.args.exprs.now c.loop-expr.expr-index c.expr-item.result c.loop-expr-test.true c.expr-item.is)
    (parts.more_evaluations c.loop-expr.self c.evaluation.new.self end (expr_of c.expr-item.result)
    (map expr_of (drop (c.loop-expr.expr-index + 1) c.args.exprs.now)) c.args.slot c.in_ok-evaluation.ensures.emits rest))

pub returns : goal.returns
returns c = record {
  emits = c.loop-expr.invariant c.loop-expr.self
      (subst (λ (xs : List expr_code.Expr). EmitsEvaluations c.loop-expr.self c.loop-expr.self (map expr_of xs) c.args.slot)
      (none_of c.args.exprs.now c.loop-expr.expr-index c.loop-expr-test.false)
      (parts.no_evaluations c.loop-expr.self c.args.slot));
}
