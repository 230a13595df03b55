use Rattle.std.proofs.Common.{◌≡◌, ◌++◌, take}
use Rattle.std.specs.List.{flat_map}
use Rattle.ash_image.specs.Image.{object}
use Rattle.ash_image.specs.SnapshotViews.{objects_in}
use Rattle.ash_image.proofs.numbered.write_each.Given as goal

abbrev pub invariant-loop-parts : goal.invariant-loop-parts
invariant-loop-parts l = l.out.items ≡ l.initial.out.items ++ flat_map object (objects_in (take l.parts-index l.objects))
