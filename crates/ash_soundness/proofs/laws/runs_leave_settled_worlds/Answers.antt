use Rattle.ash_soundness.proofs.Ends as ends
use Rattle.ash_soundness.proofs.laws.runs_leave_settled_worlds.Goals as goal

pub returns-clause-calls : goal.returns-clause-calls
returns-clause-calls g = λ c context. ends.runs_keep context

pub returns-clause-loads : goal.returns-clause-loads
returns-clause-loads g = λ c context. ends.loads_keep context
