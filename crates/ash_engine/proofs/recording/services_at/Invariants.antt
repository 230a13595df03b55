use Rattle.std.proofs.Common.{◌≡◌, ◌++◌, drop, map, slice_get}
use Rattle.ash_image.specs.DeltaViews.{service_states_of}
use Rattle.ash_change_records.specs.ListedChanges.{listed}
use Rattle.ash_engine.proofs.recording.services_at.Given as goal

abbrev pub invariant-loop-place : goal.invariant-loop-place
invariant-loop-place g l = service_states_of l.called.items ++ listed (slice_get (map g.B.HostObject.state l.services)) (drop l.place-index l.places)
    ≡ listed (slice_get (map g.B.HostObject.state l.services)) l.places
