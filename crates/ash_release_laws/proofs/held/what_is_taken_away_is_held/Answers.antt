use Rattle.ash_release_laws.proofs.TakenAway as laws
use Rattle.ash_release_laws.proofs.held.what_is_taken_away_is_held.Goals as goal

pub returns : goal.returns
returns c = record { held = laws.taken_away_is_held }
