use Rattle.std.proofs.Common.{◌<◌, length}
use Rattle.ash_objects_tests.proofs.refusals.check_sums.Given as goal

abbrev pub invariant-loop-sum : goal.invariant-loop-sum
invariant-loop-sum l = record { some : 0 < length l.objects.services }
