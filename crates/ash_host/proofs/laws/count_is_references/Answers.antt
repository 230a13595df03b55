use Rattle.ash_host.proofs.ObjectLaws as laws
use Rattle.ash_host.proofs.laws.count_is_references.Goals as goal

pub returns : goal.returns
returns g c = record { counted = laws.count_is_references _ }
