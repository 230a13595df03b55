use Rattle.std.proofs.Common.{◌≡◌, ◌+◌, ◌*◌, length, min, vec_capacity}
use Rattle.ash_objects.specs.Collecting.{HaveGone}
use Rattle.ash_objects.proofs.sweeping.collect.Given as goal

abbrev pub invariant-loop-slot : goal.invariant-loop-slot
invariant-loop-slot g l = record {
  gone : HaveGone l.initial.store.objects l.store.objects l.taken.items;
  room : vec_capacity l.taken ≡ vec_capacity l.initial.taken;
}

abbrev pub decreases-loop-slot : goal.decreases-loop-slot
decreases-loop-slot g l = length l.store.objects * (l.store.room + 1) + min l.store.pending l.store.room
