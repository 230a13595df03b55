use Rattle.std.proofs.Common.{◌≡◌, ◌-◌}
use Rattle.ash_image.specs.Fields.{times_at}
use Rattle.ash_image.specs.DeltaReading.{indexed_at}
use Rattle.ash_image.specs.DeltaViews.{all_indexed}
use Rattle.ash_image.proofs.ItemLoop.{with_prefix}
use Rattle.ash_image.proofs.changed_modules.counted_words.Given as goal

abbrev pub invariant-loop : goal.invariant-loop
invariant-loop l = with_prefix (all_indexed l.words.items) (times_at indexed_at (l.count - l.counter) l.rest)
    ≡ times_at indexed_at l.count l.bytes
