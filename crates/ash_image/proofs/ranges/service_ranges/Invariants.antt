use Rattle.std.proofs.Common.{drop}
use Rattle.std.specs.List.{AllByRecursion}
use Rattle.std.specs.Prelude.{ℕ, ◌<◌, ◌^◌, List}
use Rattle.ash_image.specs.SnapshotViews.{services_of}
use Rattle.ash_image.proofs.ranges.service_ranges.Given as goal

abbrev pub invariant-loop-service : goal.invariant-loop-service
invariant-loop-service l = AllByRecursion (λ (s : ℕ × List ℕ). s.0 < 2 ^ 16) (services_of (drop l.service-index l.services))
    → AllByRecursion (λ (s : ℕ × List ℕ). s.0 < 2 ^ 16) (services_of l.services)
