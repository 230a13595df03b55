use Rattle.ash_compile.specs.Effects.{CountsInt}
use Rattle.ash_compile.proofs.effects.counting_int.Goals as goal

pub returns-in-Increment : goal.returns-in-Increment
returns-in-Increment c = record { counts = rw c.in-Increment.is CountsInt.up }

pub returns-in-IncrementAfter : goal.returns-in-IncrementAfter
returns-in-IncrementAfter c = record { counts = rw c.in-IncrementAfter.is CountsInt.up_after }

pub returns-in-Decrement : goal.returns-in-Decrement
returns-in-Decrement c = record { counts = rw c.in-Decrement.is CountsInt.down }

pub returns-in-DecrementAfter : goal.returns-in-DecrementAfter
returns-in-DecrementAfter c = record { counts = rw c.in-DecrementAfter.is CountsInt.down_after }
