use Rattle.ash_release_laws.proofs.Settled as laws
use Rattle.ash_release_laws.proofs.laws.release_points_settle.Goals as goal

pub returns : goal.returns
returns c = record { settle = laws.release_points_settle }
