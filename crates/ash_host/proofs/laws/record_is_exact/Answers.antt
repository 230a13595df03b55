use Rattle.ash_host.proofs.ObjectLaws as laws
use Rattle.ash_host.proofs.laws.record_is_exact.Goals as goal

pub returns : goal.returns
returns c = record { taken = laws.record_is_exact }
