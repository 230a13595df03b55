use Rattle.std.proofs.Common.{◌≡◌, ◌-◌}
use Rattle.ash_image.specs.Fields.{times_at}
use Rattle.ash_image.specs.ImageReading.{object_at}
use Rattle.ash_image.specs.SnapshotViews.{objects_of}
use Rattle.ash_image.proofs.ItemLoop.{with_prefix}
use Rattle.ash_image.proofs.numbered.counted_objects.Given as goal

abbrev pub invariant-loop : goal.invariant-loop
invariant-loop l = with_prefix (objects_of l.objects.items) (times_at (object_at l.version) (l.count - l.counter) l.rest)
    ≡ times_at (object_at l.version) l.count l.bytes
