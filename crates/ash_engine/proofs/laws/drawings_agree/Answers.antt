use Rattle.ash_engine.proofs.Drawn.{agree}
use Rattle.ash_engine.proofs.laws.drawings_agree.Goals as goal

pub returns : goal.returns
returns g c = record { same = agree g.B.HostObject }
