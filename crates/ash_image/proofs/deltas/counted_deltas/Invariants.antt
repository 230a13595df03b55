use Rattle.std.proofs.Common.{◌≡◌, ◌-◌}
use Rattle.ash_image.specs.declared.version.Version.TheVariants.{Two}
use Rattle.ash_image.specs.Fields.{times_at}
use Rattle.ash_image.specs.DeltaReading.{delta_at}
use Rattle.ash_image.specs.Deltas.{deltas_of}
use Rattle.ash_image.proofs.ItemLoop.{with_prefix}
use Rattle.ash_image.proofs.deltas.counted_deltas.Given as goal

abbrev pub invariant-loop : goal.invariant-loop
invariant-loop l = with_prefix (deltas_of l.deltas.items) (times_at (delta_at Two) (l.count - l.counter) l.rest)
    ≡ times_at (delta_at Two) l.count l.bytes
