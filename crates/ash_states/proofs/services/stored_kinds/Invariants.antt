use Rattle.std.proofs.Common.{◌≡◌, take}
use Rattle.ash_image.specs.SnapshotViews.{services_of}
use Rattle.ash_states.specs.Images.{kinds_in}
use Rattle.ash_states.proofs.services.stored_kinds.Given as goal

abbrev pub invariant-loop-service : goal.invariant-loop-service
invariant-loop-service l = l.kinds.items ≡ kinds_in (services_of (take l.service-index l.services))
