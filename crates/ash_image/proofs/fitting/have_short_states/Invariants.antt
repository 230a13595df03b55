use Rattle.std.proofs.Common.{◌≡◌, drop}
use Rattle.std.specs.List.{list_all}
use Rattle.ash_image.specs.SnapshotViews.{services_of}
use Rattle.ash_image.specs.Fitting.{has_short_state}
use Rattle.ash_image.proofs.fitting.have_short_states.Given as goal

abbrev pub invariant-loop-service : goal.invariant-loop-service
invariant-loop-service l = list_all has_short_state (services_of (drop l.service-index l.services)) ≡ list_all has_short_state (services_of l.services)
