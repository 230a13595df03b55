use Rattle.std.proofs.Common.{◌+◌, length}
use Rattle.ash_image.specs.Rules.{held_by}
use Rattle.ash_image.specs.SnapshotViews.{modules_of, objects_of}
use Rattle.ash_image.specs.Search.{Searches, unmarked, progress_of}
use Rattle.ash_image.proofs.reaching.follow.Given as goal

abbrev pub invariant-loop-index : goal.invariant-loop-index
invariant-loop-index l = Searches (held_by (modules_of l.state.modules.items)) (objects_of l.state.objects.items) (progress_of l.search)

abbrev pub decreases-loop-index : goal.decreases-loop-index
decreases-loop-index l = unmarked l.search.marked.items + length l.search.pending.items
