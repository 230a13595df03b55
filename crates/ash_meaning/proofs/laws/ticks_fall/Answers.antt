use Rattle.ash_meaning.proofs.Ticks as ticks
use Rattle.ash_meaning.proofs.laws.ticks_fall.Goals as goal

pub returns : goal.returns
returns c = record { fall = ticks.ticks_fall }
