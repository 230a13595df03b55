use Rattle.std.proofs.Common.{refl}
use Rattle.ash_requests.proofs.Computing.{computing}
use Rattle.ash_requests.proofs.host_runs.worked_host_runs.Goals as goal

pub returns-clause-failed_load : goal.returns-clause-failed_load
unfolding computing
returns-clause-failed_load c = refl

pub returns-clause-after_a_failed_load : goal.returns-clause-after_a_failed_load
unfolding computing
returns-clause-after_a_failed_load c = refl

pub returns-clause-aborted_load : goal.returns-clause-aborted_load
unfolding computing
returns-clause-aborted_load c = refl

pub returns-clause-discarded : goal.returns-clause-discarded
unfolding computing
returns-clause-discarded c = refl

pub returns-clause-aborted_call : goal.returns-clause-aborted_call
unfolding computing
returns-clause-aborted_call c = refl

pub returns-clause-numbers_rise : goal.returns-clause-numbers_rise
unfolding computing
returns-clause-numbers_rise c = refl

pub returns-clause-overwritten_in_an_argument : goal.returns-clause-overwritten_in_an_argument
unfolding computing
returns-clause-overwritten_in_an_argument c = refl

pub returns-clause-shared : goal.returns-clause-shared
unfolding computing
returns-clause-shared c = refl

pub returns-clause-raised : goal.returns-clause-raised
unfolding computing
returns-clause-raised c = refl

pub returns-clause-bad_answer : goal.returns-clause-bad_answer
unfolding computing
returns-clause-bad_answer c = refl
