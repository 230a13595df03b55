use Rattle.std.proofs.Common.{◌≡◌, ◌≤◌, ◌*◌, ◌^◌, length, take}
use Rattle.std.specs.List.{flat_map}
use Rattle.ash_image.specs.Image.{object}
use Rattle.ash_image.specs.SnapshotViews.{objects_in}
use Rattle.ash_image.proofs.lengths.objects_length.Given as goal

abbrev pub invariant-loop-parts : goal.invariant-loop-parts
invariant-loop-parts l = record {
  exact : l.total ≡ length (flat_map object (objects_in (take l.parts-index l.objects)));
  most : l.total ≤ 2 ^ 20 * l.parts-index;
}
