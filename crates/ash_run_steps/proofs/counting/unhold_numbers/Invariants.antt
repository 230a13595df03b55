use Rattle.std.proofs.Common.{take}
use Rattle.ash_run_steps.specs.RunStates.{HoldsLess}
use Rattle.ash_run_steps.proofs.counting.unhold_numbers.Given as goal

abbrev pub invariant-loop-number : goal.invariant-loop-number
invariant-loop-number g l = HoldsLess (take l.number-index l.numbers) l.initial.table l.table
