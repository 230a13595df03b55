use Rattle.std.proofs.Common.{◌≡◌, drop}
use Rattle.std.specs.List.{list_all}
use Rattle.ash_image.specs.SnapshotViews.{objects_of}
use Rattle.ash_image.specs.Rules.{object_lives}
use Rattle.ash_image.proofs.rules.objects_live.Given as goal

abbrev pub invariant-loop-object : goal.invariant-loop-object
invariant-loop-object l = list_all (object_lives l.alive) (objects_of (drop l.object-index l.objects)) ≡ list_all (object_lives l.alive) (objects_of l.objects)
