use Rattle.std.proofs.Common.{◌≡◌, ◌++◌, take}
use Rattle.std.specs.List.{flat_map}
use Rattle.ash_image.specs.Image.{loaded_module}
use Rattle.ash_image.specs.SnapshotViews.{modules_in}
use Rattle.ash_image.proofs.modules.write_each.Given as goal

abbrev pub invariant-loop-parts : goal.invariant-loop-parts
invariant-loop-parts l = l.out.items ≡ l.initial.out.items ++ flat_map loaded_module (modules_in (take l.parts-index l.modules))
