use Rattle.std.proofs.Common.{◌≡◌, map, drop}
use Rattle.ash_typed.specs.BodyViews.{value_of}
use Rattle.ash_meaning.specs.Functions.{initialize_fields}
use Rattle.ash_plain_world.specs.ActivityViews.{activity_seen}
use Rattle.ash_plain_scripts.specs.EvaluatorViews.{calls_seen}
use Rattle.ash_plain_scripts.proofs.evaluator.Evaluator.initialize_fields.Given as goal

-- what is left gives what the whole gives
abbrev pub invariant-loop-place : goal.invariant-loop-place
invariant-loop-place g l =
    initialize_fields (calls_seen l.self) l.place (map value_of (drop l.place l.fields)) (activity_seen l.activity) ≡ initialize_fields (calls_seen l.self) 0 (map value_of l.fields) (activity_seen l.fn.activity)
