use Rattle.std.proofs.Common.{ap}
use Rattle.std.specs.Vec.Iter.{into_iter_items}
use Rattle.ash_image.specs.DeltaViews.{delta_of}
use Rattle.ash_image.specs.Deltas.{deltas_of}
use Rattle.ash_image.specs.NamedViews.{state_seen}
use Rattle.ash_replay.proofs.Replaying.{led_one}
use Rattle.ash_replay.proofs.records.lead_one_by_one.Goals as goal

pub loop-delta-preserved : goal.loop-delta-preserved
loop-delta-preserved c =
    led_one (deltas_of c.args.deltas.items) (deltas_of (into_iter_items c.loop-delta.delta-iterator))
    (deltas_of (into_iter_items c.next.new.self)) (delta_of c.in-Some.delta) (state_seen c.args.before)
    (state_seen c.loop-delta.state) (state_seen c.in-Some-2.next) (ap deltas_of c.in-Some.ensures.steps.0)
    c.loop-delta.invariant (rw c.in-Some-2.is at c.in_ok-next.ensures.led) (rw c.in-Some-2.is at c.in_ok-next.ensures.ordered)
