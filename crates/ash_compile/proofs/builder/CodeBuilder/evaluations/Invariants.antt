use Rattle.std.proofs.Common.{drop, map}
use Rattle.ash_typed.specs.TypedTreeViews.{expr_of}
use Rattle.ash_compile.specs.declared.builder.Written.{Written}
use Rattle.ash_compile.specs.EmittedStatements.{EmitsEvaluations}
use Rattle.ash_compile.proofs.builder.CodeBuilder.evaluations.Given as goal

-- With the code of the expressions that are left, it is the code of all.
abbrev pub invariant-loop-expr : goal.invariant-loop-expr
invariant-loop-expr l =
    (end : Written) → EmitsEvaluations l.self end (map expr_of (drop l.expr-index l.exprs)) l.slot
    → EmitsEvaluations l.fn.self end (map expr_of l.exprs) l.slot
