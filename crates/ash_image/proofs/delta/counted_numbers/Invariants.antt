use Rattle.std.proofs.Common.{◌≡◌, ◌-◌}
use Rattle.ash_image.specs.Fields.{times_at, number_at}
use Rattle.ash_image.proofs.ItemLoop.{with_prefix}
use Rattle.ash_image.proofs.delta.counted_numbers.Given as goal

abbrev pub invariant-loop : goal.invariant-loop
invariant-loop l = with_prefix l.numbers.items (times_at (number_at 8) (l.count - l.counter) l.rest)
    ≡ times_at (number_at 8) l.count l.bytes
