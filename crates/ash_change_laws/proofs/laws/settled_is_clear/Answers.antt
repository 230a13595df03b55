use Rattle.ash_change_laws.proofs.MarkedObjects as lemmas
use Rattle.ash_change_laws.proofs.laws.settled_is_clear.Goals as goal

pub returns : goal.returns
returns g c = record { clear = lemmas.settled_is_clear g.B.HostObject }
