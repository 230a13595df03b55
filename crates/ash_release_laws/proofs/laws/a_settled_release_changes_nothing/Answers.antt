use Rattle.ash_release_laws.proofs.Still as still
use Rattle.ash_release_laws.proofs.laws.a_settled_release_changes_nothing.Goals as goal

pub returns : goal.returns
returns c = record { same = still.release_same }
