use Rattle.ash_release_laws.proofs.Leaving as leaving
use Rattle.ash_release_laws.proofs.laws.objects_live_while_reached.Goals as goal

pub returns : goal.returns
returns c = record { reached = leaving.leave_along }
