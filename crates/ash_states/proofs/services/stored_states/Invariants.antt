use Rattle.std.proofs.Common.{◌≡◌, ◌++◌, ℕ, List, map}
use Rattle.std.specs.Vec.Iter.{into_iter_items}
use Rattle.ash_image.specs.SnapshotViews.{services_of}
use Rattle.ash_states.proofs.services.stored_states.Given as goal

-- what is listed so far, with what is left
abbrev pub invariant-loop-service : goal.invariant-loop-service
invariant-loop-service l =
    map (λ state. state.items) l.states.items ++ map (λ (service : ℕ × List ℕ). service.1) (services_of (into_iter_items l.service-iterator))
    ≡ map (λ (service : ℕ × List ℕ). service.1) (services_of l.fn.services.items)
