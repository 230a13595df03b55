use Rattle.ash_compile.specs.Effects.{Counts}
use Rattle.ash_compile.proofs.effects.counting.Goals as goal

pub returns-in-Int : goal.returns-in-Int
returns-in-Int c = record { counts = rw c.in-Int.is (Counts.counts_int c.counting_int.ensures.counts) }

pub returns-in_default : goal.returns-in_default
returns-in_default c = record { counts = Counts.counts }
