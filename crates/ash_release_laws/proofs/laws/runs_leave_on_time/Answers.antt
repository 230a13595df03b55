use Rattle.ash_release_laws.proofs.WholeRuns as whole
use Rattle.ash_release_laws.proofs.laws.runs_leave_on_time.Goals as goal

pub returns : goal.returns
returns c = record { leave = whole.runs_leave_on_time }
