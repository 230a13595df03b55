use Rattle.ash_change_laws.proofs.ChangedStates as lemmas
use Rattle.ash_change_laws.proofs.laws.steps_are_named.Goals as goal

pub returns : goal.returns
returns g c = record { named = lemmas.steps_are_named g.B.HostObject }
