use Rattle.ash_release_laws.proofs.TakenAway as laws
use Rattle.ash_release_laws.proofs.held.jumps_release_once.Goals as goal

pub returns : goal.returns
returns c = record { once = laws.jumps_release_once }
