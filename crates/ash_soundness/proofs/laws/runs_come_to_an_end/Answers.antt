use Rattle.ash_soundness.proofs.Ends as ends
use Rattle.ash_soundness.proofs.laws.runs_come_to_an_end.Goals as goal

pub returns-clause-calls : goal.returns-clause-calls
returns-clause-calls g = λ c context. ends.calls_come_to_an_end context

pub returns-clause-loads : goal.returns-clause-loads
returns-clause-loads g = λ c context. ends.loads_come_to_an_end context
