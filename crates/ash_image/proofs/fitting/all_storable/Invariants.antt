use Rattle.std.proofs.Common.{◌≡◌, drop}
use Rattle.std.specs.List.{list_all}
use Rattle.ash_image.specs.SnapshotViews.{objects_of}
use Rattle.ash_image.specs.Fitting.{is_storable}
use Rattle.ash_image.proofs.fitting.all_storable.Given as goal

abbrev pub invariant-loop-object : goal.invariant-loop-object
invariant-loop-object l = list_all (is_storable l.version) (objects_of (drop l.object-index l.objects))
    ≡ list_all (is_storable l.version) (objects_of l.objects)
