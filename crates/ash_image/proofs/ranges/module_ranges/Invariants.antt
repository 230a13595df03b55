use Rattle.std.proofs.Common.{drop}
use Rattle.std.specs.List.{AllByRecursion}
use Rattle.ash_image.specs.ImageWords.{FitsWord}
use Rattle.ash_image.specs.Snapshots.{Loaded}
use Rattle.ash_image.specs.SnapshotViews.{modules_of}
use Rattle.ash_image.proofs.ranges.module_ranges.Given as goal

abbrev pub invariant-loop-loaded : goal.invariant-loop-loaded
invariant-loop-loaded l = AllByRecursion (λ (m : Loaded). AllByRecursion FitsWord m.globals) (modules_of (drop l.loaded-index l.modules))
    → AllByRecursion (λ (m : Loaded). AllByRecursion FitsWord m.globals) (modules_of l.modules)
