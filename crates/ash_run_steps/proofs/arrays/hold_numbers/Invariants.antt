use Rattle.std.proofs.Common.{take}
use Rattle.ash_run_steps.specs.RunStates.{HoldsMore}
use Rattle.ash_run_steps.proofs.arrays.hold_numbers.Given as goal

abbrev pub invariant-loop-number : goal.invariant-loop-number
invariant-loop-number g l = HoldsMore (take l.number-index l.numbers) l.initial.table l.table
