use Rattle.ash_engine.proofs.Admitted.{keep_reached}
use Rattle.ash_engine.proofs.laws.steps_keep_reached.Goals as goal

pub returns : goal.returns
returns c = record { kept = keep_reached }
