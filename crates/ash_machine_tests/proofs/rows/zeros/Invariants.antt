use Rattle.std.proofs.Common.{◌≡◌, length}
use Rattle.ash_machine_tests.proofs.rows.zeros.Given as goal

abbrev pub invariant-loop : goal.invariant-loop
invariant-loop l = length l.states.items ≡ l.counter
