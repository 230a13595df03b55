use Rattle.std.proofs.Common.{◌≡◌, ◌≤◌, ◌*◌, ◌^◌, length, take}
use Rattle.std.specs.List.{flat_map}
use Rattle.ash_image.specs.Image.{loaded_module}
use Rattle.ash_image.specs.SnapshotViews.{modules_in}
use Rattle.ash_image.proofs.lengths.modules_length.Given as goal

abbrev pub invariant-loop-parts : goal.invariant-loop-parts
invariant-loop-parts l = record {
  exact : l.total ≡ length (flat_map loaded_module (modules_in (take l.parts-index l.modules)));
  most : l.total ≤ 2 ^ 20 * l.parts-index;
}
