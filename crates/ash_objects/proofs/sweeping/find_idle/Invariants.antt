use Rattle.std.proofs.Common.{◌≡◌, []}
use Rattle.ash_objects.specs.Collecting.{HaveGone}
use Rattle.ash_objects.specs.Counting.{living_in}
use Rattle.ash_objects.proofs.sweeping.find_idle.Given as goal

abbrev pub invariant-loop-slot : goal.invariant-loop-slot
invariant-loop-slot g l = record {
  same : living_in l.store.objects ≡ living_in l.initial.store.objects;
  stay : HaveGone l.initial.store.objects l.store.objects [];
}

abbrev pub decreases-loop-slot : goal.decreases-loop-slot
decreases-loop-slot g l = l.store.pending
