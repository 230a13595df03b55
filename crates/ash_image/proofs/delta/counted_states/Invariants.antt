use Rattle.std.proofs.Common.{◌≡◌, ◌-◌}
use Rattle.ash_image.specs.Fields.{times_at}
use Rattle.ash_image.specs.ObjectBytes.{kind_and_state_at}
use Rattle.ash_image.specs.DeltaViews.{service_states_of}
use Rattle.ash_image.proofs.ItemLoop.{with_prefix}
use Rattle.ash_image.proofs.delta.counted_states.Given as goal

abbrev pub invariant-loop : goal.invariant-loop
invariant-loop l = with_prefix (service_states_of l.services.items) (times_at kind_and_state_at (l.count - l.counter) l.rest)
    ≡ times_at kind_and_state_at l.count l.bytes
