use Rattle.ash_change_laws.proofs.MarkedObjects as lemmas
use Rattle.ash_change_laws.proofs.laws.marks_name_changes.Goals as goal

pub returns : goal.returns
returns g c = record { named = lemmas.marks_name_changes g.B.HostObject }
