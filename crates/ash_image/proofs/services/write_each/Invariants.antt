use Rattle.std.proofs.Common.{◌≡◌, ◌++◌, take}
use Rattle.std.specs.List.{flat_map}
use Rattle.ash_image.specs.Image.{service}
use Rattle.ash_image.specs.SnapshotViews.{services_in}
use Rattle.ash_image.proofs.services.write_each.Given as goal

abbrev pub invariant-loop-parts : goal.invariant-loop-parts
invariant-loop-parts l = l.out.items ≡ l.initial.out.items ++ flat_map service (services_in (take l.parts-index l.services))
