use Rattle.ash_host.proofs.ObjectLaws as laws
use Rattle.ash_host.proofs.laws.insert_is_exact.Goals as goal

pub returns : goal.returns
returns g c = record { inserted = laws.insert_is_exact _ }
