use Rattle.std.proofs.Common.{◌≡◌, map, drop}
use Rattle.ash_typed.specs.BodyViews.{value_of}
use Rattle.ash_meaning.specs.Functions.{initialize_globals}
use Rattle.ash_plain_world.specs.ActivityViews.{activity_seen}
use Rattle.ash_plain_scripts.specs.EvaluatorViews.{calls_seen}
use Rattle.ash_plain_scripts.proofs.evaluator.Evaluator.initialize_globals.Given as goal

-- what is left gives what the whole gives
abbrev pub invariant-loop-global : goal.invariant-loop-global
invariant-loop-global g l =
    initialize_globals (calls_seen l.self) l.place (map value_of (drop l.global-index l.globals)) (activity_seen l.activity) ≡ initialize_globals (calls_seen l.self) l.fn.first (map value_of l.globals) (activity_seen l.fn.activity)
