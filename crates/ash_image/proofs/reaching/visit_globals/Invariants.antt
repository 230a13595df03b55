use Rattle.std.proofs.Common.{take}
use Rattle.ash_image.specs.Rules.{held_by}
use Rattle.ash_image.specs.SnapshotViews.{modules_of}
use Rattle.ash_image.specs.Search.{Visited, progress_of}
use Rattle.ash_image.proofs.reaching.visit_globals.Given as goal

abbrev pub invariant-loop-module : goal.invariant-loop-module
invariant-loop-module l =
    Visited l.alive (held_by (modules_of (take l.module-index l.modules))) (progress_of l.fn.search) (progress_of l.search)
