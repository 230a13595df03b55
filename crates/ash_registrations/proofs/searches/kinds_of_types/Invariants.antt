use Rattle.std.proofs.Common.{◌≡◌, ◌++◌, drop, map}
use Rattle.std.specs.List.{filter_map}
use Rattle.ash_registrations.specs.Registrations as spec
use Rattle.ash_registrations.specs.Registrations.{registration_of}
use Rattle.ash_registrations.proofs.searches.kinds_of_types.Given as goal

abbrev pub invariant-loop-registration : goal.invariant-loop-registration
invariant-loop-registration l =
    l.kinds.items
    ++ filter_map (λ r. spec.constructed_kind (map registration_of l.registrations) (registration_of r)) (drop l.registration-index l.registrations)
    ≡ filter_map (λ r. spec.constructed_kind (map registration_of l.registrations) (registration_of r)) l.registrations
