use Rattle.std.proofs.Common.{refl}
use Rattle.ash_requests.proofs.Computing.{computing}
use Rattle.ash_requests.proofs.examples.worked_limit_runs.Goals as goal

pub returns-clause-enough_ticks : goal.returns-clause-enough_ticks
unfolding computing
returns-clause-enough_ticks c = refl

pub returns-clause-one_tick_too_few : goal.returns-clause-one_tick_too_few
unfolding computing
returns-clause-one_tick_too_few c = refl

pub returns-clause-unending_loop : goal.returns-clause-unending_loop
unfolding computing
returns-clause-unending_loop c = refl

pub returns-clause-seventeenth_module : goal.returns-clause-seventeenth_module
unfolding computing
returns-clause-seventeenth_module c = refl

pub returns-clause-last_answer : goal.returns-clause-last_answer
unfolding computing
returns-clause-last_answer c = refl

pub returns-clause-longest_array : goal.returns-clause-longest_array
unfolding computing
returns-clause-longest_array c = refl

pub returns-clause-last_number : goal.returns-clause-last_number
unfolding computing
returns-clause-last_number c = refl

pub returns-clause-all_objects_taken : goal.returns-clause-all_objects_taken
unfolding computing
returns-clause-all_objects_taken c = refl

pub returns-clause-one_object_fewer : goal.returns-clause-one_object_fewer
unfolding computing
returns-clause-one_object_fewer c = refl
