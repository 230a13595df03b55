use Rattle.std.proofs.Common.{drop}
use Rattle.std.specs.List.{AllByRecursion}
use Rattle.ash_image.specs.Fitting.{IsRangedEntry}
use Rattle.ash_image.specs.SnapshotViews.{objects_of}
use Rattle.ash_image.proofs.ranges.object_ranges.Given as goal

abbrev pub invariant-loop-object : goal.invariant-loop-object
invariant-loop-object l = AllByRecursion IsRangedEntry (objects_of (drop l.object-index l.objects))
    → AllByRecursion IsRangedEntry (objects_of l.objects)
