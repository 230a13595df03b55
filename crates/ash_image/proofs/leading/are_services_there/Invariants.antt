use Rattle.std.proofs.Common.{◌≡◌, drop}
use Rattle.std.specs.Prelude.{nat_lt}
use Rattle.std.specs.List.{list_all}
use Rattle.ash_image.specs.DeltaViews.{service_states_of}
use Rattle.ash_image.proofs.leading.are_services_there.Given as goal

abbrev pub invariant-loop-service : goal.invariant-loop-service
invariant-loop-service l = list_all (λ e. nat_lt e.0 l.count) (service_states_of (drop l.service-index l.listed))
    ≡ list_all (λ e. nat_lt e.0 l.count) (service_states_of l.listed)
