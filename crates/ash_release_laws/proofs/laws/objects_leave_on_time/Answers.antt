use Rattle.ash_release_laws.proofs.Leaving as leaving
use Rattle.ash_release_laws.proofs.laws.objects_leave_on_time.Goals as goal

pub returns : goal.returns
returns c = record { leave = leaving.objects_leave_on_time }
