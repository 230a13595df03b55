use Rattle.ash_release_laws.proofs.Settled as laws
use Rattle.ash_release_laws.proofs.laws.what_is_held_stays.Goals as goal

pub returns : goal.returns
returns c = record { held = laws.holds_until_the_end }
