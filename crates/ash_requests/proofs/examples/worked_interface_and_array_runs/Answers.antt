use Rattle.std.proofs.Common.{refl}
use Rattle.ash_requests.proofs.Computing.{computing}
use Rattle.ash_requests.proofs.examples.worked_interface_and_array_runs.Goals as goal

pub returns-clause-through_an_interface : goal.returns-clause-through_an_interface
unfolding computing
returns-clause-through_an_interface c = refl

pub returns-clause-in_an_array : goal.returns-clause-in_an_array
unfolding computing
returns-clause-in_an_array c = refl
