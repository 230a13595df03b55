-- What the code's evaluators call.
use Rattle.ash_meaning.specs.CallMeaning.{Calls}
use Rattle.ash_meaning.specs.Functions.{calls_within}
use Rattle.ash_plain_data.specs.ClassViews.{program_seen}
use Rattle.ash_plain_scripts.specs.declared.evaluator.Evaluator as evaluator

unfoldable pub calls_seen : {F : Type 0} → evaluator.Evaluator F → Calls
calls_seen e = calls_within (program_seen e.program.now) e.depth
