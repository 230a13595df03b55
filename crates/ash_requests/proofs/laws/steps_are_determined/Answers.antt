use Rattle.ash_requests.proofs.Determined as determined
use Rattle.ash_requests.proofs.laws.steps_are_determined.Goals as goal

pub returns-clause-steps : goal.returns-clause-steps
returns-clause-steps g c = determined.determined

pub returns-clause-runs : goal.returns-clause-runs
returns-clause-runs g c = determined.is_among_runs
