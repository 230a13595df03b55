use Rattle.std.proofs.Common.{◌≡◌, ◌++◌, length}
use Rattle.ash_image.specs.SnapshotViews.{modules_of}
use Rattle.ash_image.specs.NamedViews.{modules_seen}
use Rattle.ash_image.proofs.naming.named_modules.Given as goal

abbrev pub invariant-loop-last : goal.invariant-loop-last
invariant-loop-last l = modules_of l.modules.items ++ modules_seen l.named ≡ modules_of l.fn.modules.items

abbrev pub decreases-loop-last : goal.decreases-loop-last
decreases-loop-last l = length l.modules.items
