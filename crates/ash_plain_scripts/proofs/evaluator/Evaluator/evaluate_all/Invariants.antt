use Rattle.std.proofs.Common.{◌≡◌, map, drop}
use Rattle.ash_typed.specs.TypedTreeViews.{expr_of}
use Rattle.ash_meaning.specs.StatementMeaning.{evaluate_all}
use Rattle.ash_plain_world.specs.ActivityViews.{activity_seen}
use Rattle.ash_plain_scripts.specs.EvaluatorViews.{calls_seen}
use Rattle.ash_plain_scripts.proofs.evaluator.Evaluator.evaluate_all.Given as goal

-- what is left gives what the whole gives
abbrev pub invariant-loop-expr : goal.invariant-loop-expr
invariant-loop-expr g l =
    evaluate_all (calls_seen l.self) (map expr_of (drop l.expr-index l.exprs)) (activity_seen l.activity) ≡ evaluate_all (calls_seen l.self) (map expr_of l.exprs) (activity_seen l.fn.activity)
