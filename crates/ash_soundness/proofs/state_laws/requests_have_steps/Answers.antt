use Rattle.ash_soundness.proofs.Ended as ended
use Rattle.ash_soundness.proofs.state_laws.requests_have_steps.Goals as goal

pub returns-clause-steps : goal.returns-clause-steps
returns-clause-steps g c = λ embedding host. ended.have_steps embedding host

pub returns-clause-runs : goal.returns-clause-runs
returns-clause-runs g c = λ embedding host. ended.have_runs embedding host
