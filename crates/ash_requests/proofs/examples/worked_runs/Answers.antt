use Rattle.std.proofs.Common.{refl}
use Rattle.ash_requests.proofs.Computing.{computing}
use Rattle.ash_requests.proofs.examples.worked_runs.Goals as goal

pub returns-clause-loaded_and_called : goal.returns-clause-loaded_and_called
unfolding computing
returns-clause-loaded_and_called c = refl

pub returns-clause-shown_and_discarded : goal.returns-clause-shown_and_discarded
unfolding computing
returns-clause-shown_and_discarded c = refl

pub returns-clause-held_by_another_module : goal.returns-clause-held_by_another_module
unfolding computing
returns-clause-held_by_another_module c = refl

pub returns-clause-not_finished : goal.returns-clause-not_finished
unfolding computing
returns-clause-not_finished c = refl

pub returns-clause-in_order : goal.returns-clause-in_order
unfolding computing
returns-clause-in_order c = refl
