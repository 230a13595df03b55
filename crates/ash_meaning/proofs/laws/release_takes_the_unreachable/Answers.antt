use Rattle.ash_meaning.proofs.Released as released
use Rattle.ash_meaning.proofs.laws.release_takes_the_unreachable.Goals as goal

pub returns : goal.returns
returns c = record { exact = released.released }
