use Rattle.std.proofs.Common.{◌≡◌, ◌-◌}
use Rattle.ash_image.specs.Fields.{times_at}
use Rattle.ash_image.specs.ImageReading.{module_at}
use Rattle.ash_image.specs.SnapshotViews.{modules_of}
use Rattle.ash_image.proofs.ItemLoop.{with_prefix}
use Rattle.ash_image.proofs.modules.counted_modules.Given as goal

abbrev pub invariant-loop : goal.invariant-loop
invariant-loop l = with_prefix (modules_of l.modules.items) (times_at module_at (l.count - l.counter) l.rest)
    ≡ times_at module_at l.count l.bytes
