use Rattle.std.proofs.Common.{◌≡◌}
use Rattle.ash_bench.proofs.objects.hold_each.Given as goal

abbrev pub invariant-loop-slot : goal.invariant-loop-slot
invariant-loop-slot l = record { same : l.objects ≡ l.initial.objects }
