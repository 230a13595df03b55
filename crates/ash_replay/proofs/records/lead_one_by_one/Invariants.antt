use Rattle.std.specs.Vec.Iter.{into_iter_items}
use Rattle.ash_image.specs.Deltas.{deltas_of}
use Rattle.ash_image.specs.NamedViews.{state_seen}
use Rattle.ash_replay.proofs.Replaying.{LeadLikewise}
use Rattle.ash_replay.proofs.records.lead_one_by_one.Given as goal

-- the deltas that are left lead from this state where all lead from the first
abbrev pub invariant-loop-delta : goal.invariant-loop-delta
invariant-loop-delta l =
    LeadLikewise (deltas_of l.fn.deltas.items) (deltas_of (into_iter_items l.delta-iterator)) (state_seen l.fn.before)
    (state_seen l.state)
