use Rattle.std.proofs.Common.{refl}
use Rattle.ash_requests.proofs.Computing.{computing}
use Rattle.ash_requests.proofs.examples.worked_number_runs.Goals as goal

pub returns-clause-greatest_number : goal.returns-clause-greatest_number
unfolding computing
returns-clause-greatest_number c = refl

pub returns-clause-signs_that_meet : goal.returns-clause-signs_that_meet
unfolding computing
returns-clause-signs_that_meet c = refl

pub returns-clause-shifts : goal.returns-clause-shifts
unfolding computing
returns-clause-shifts c = refl
