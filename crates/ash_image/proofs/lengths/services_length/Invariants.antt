use Rattle.std.proofs.Common.{◌≡◌, ◌≤◌, ◌*◌, ◌^◌, length, take}
use Rattle.std.specs.List.{flat_map}
use Rattle.ash_image.specs.Image.{service}
use Rattle.ash_image.specs.SnapshotViews.{services_in}
use Rattle.ash_image.proofs.lengths.services_length.Given as goal

abbrev pub invariant-loop-parts : goal.invariant-loop-parts
invariant-loop-parts l = record {
  exact : l.total ≡ length (flat_map service (services_in (take l.parts-index l.services)));
  most : l.total ≤ 2 ^ 11 * l.parts-index;
}
