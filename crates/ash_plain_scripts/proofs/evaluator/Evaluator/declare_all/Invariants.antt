use Rattle.std.proofs.Common.{◌≡◌, map, drop}
use Rattle.ash_typed.specs.BodyViews.{value_of}
use Rattle.ash_meaning.specs.StatementMeaning.{declare_all}
use Rattle.ash_plain_world.specs.ActivityViews.{activity_seen}
use Rattle.ash_plain_scripts.specs.EvaluatorViews.{calls_seen}
use Rattle.ash_plain_scripts.proofs.evaluator.Evaluator.declare_all.Given as goal

-- what is left gives what the whole gives
abbrev pub invariant-loop-variable : goal.invariant-loop-variable
invariant-loop-variable g l =
    declare_all (calls_seen l.self) (map value_of (drop l.variable-index l.variables)) (activity_seen l.activity) ≡ declare_all (calls_seen l.self) (map value_of l.variables) (activity_seen l.fn.activity)
