use Rattle.ash_soundness.proofs.Stepped as stepped
use Rattle.ash_soundness.proofs.First as first
use Rattle.ash_soundness.proofs.state_laws.states_stay_well_formed.Goals as goal

pub returns-clause-first : goal.returns-clause-first
returns-clause-first g c = λ embedding host services fits. first.empty_well embedding host services fits

pub returns-clause-steps : goal.returns-clause-steps
returns-clause-steps g c = λ embedding host. stepped.steps_keep embedding host

pub returns-clause-runs : goal.returns-clause-runs
returns-clause-runs g c = λ embedding host. stepped.runs_keep embedding host
