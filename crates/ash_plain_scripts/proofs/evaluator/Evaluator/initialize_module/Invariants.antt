use Rattle.std.proofs.Common.{◌≡◌, map, drop}
use Rattle.ash_typed.specs.Modules.{variables_of}
use Rattle.ash_meaning.specs.Functions.{initialize_module}
use Rattle.ash_plain_world.specs.ActivityViews.{activity_seen}
use Rattle.ash_plain_scripts.specs.EvaluatorViews.{calls_seen}
use Rattle.ash_plain_scripts.proofs.evaluator.Evaluator.initialize_module.Given as goal

-- what is left gives what the whole gives
abbrev pub invariant-loop-declaration : goal.invariant-loop-declaration
invariant-loop-declaration g l =
    initialize_module (calls_seen l.self) l.place (map variables_of (drop l.declaration-index l.declarations)) (activity_seen l.activity) ≡ initialize_module (calls_seen l.self) 0 (map variables_of l.declarations) (activity_seen l.fn.activity)
