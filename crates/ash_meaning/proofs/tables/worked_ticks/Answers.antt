use Rattle.std.proofs.Common.{refl}
use Rattle.ash_meaning.proofs.Computing.{computing}
use Rattle.ash_meaning.proofs.tables.worked_ticks.Goals as goal

pub returns : goal.returns
unfolding computing
returns c = record { lines = refl }
