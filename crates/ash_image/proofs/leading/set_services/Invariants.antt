use Rattle.std.proofs.Common.{◌≡◌, ℕ, List, length, map}
use Rattle.ash_image.specs.DeltaViews.{service_states_of}
use Rattle.ash_image.specs.SnapshotViews.{services_of}
use Rattle.ash_image.specs.Leading.{AreThere, values_after}
use Rattle.ash_image.proofs.leading.set_services.Given as goal

abbrev pub invariant-loop-service : goal.invariant-loop-service
invariant-loop-service l = record {
  kinds : map (λ (s : ℕ × List ℕ). s.0) (services_of l.services.items)
      ≡ map (λ (s : ℕ × List ℕ). s.0) (services_of l.initial.services.items);
  states : values_after (service_states_of l.listed.items) (map (λ (s : ℕ × List ℕ). s.1) (services_of l.services.items))
      ≡ values_after (service_states_of l.fn.listed.items)
      (map (λ (s : ℕ × List ℕ). s.1) (services_of l.initial.services.items));
  there : AreThere (service_states_of l.listed.items) (length l.services.items);
}

abbrev pub decreases-loop-service : goal.decreases-loop-service
decreases-loop-service l = length l.listed.items
