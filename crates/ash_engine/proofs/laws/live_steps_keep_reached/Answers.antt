use Rattle.ash_engine.proofs.Admitted.{keep_live}
use Rattle.ash_engine.proofs.laws.live_steps_keep_reached.Goals as goal

pub returns : goal.returns
returns g c = record { kept = keep_live g.B.HostObject }
