use Rattle.std.proofs.Common.{◌≡◌, ◌++◌, length}
use Rattle.ash_image.specs.SnapshotViews.{objects_of}
use Rattle.ash_image.specs.Leading.{objects_named}
use Rattle.ash_image.specs.NamedViews.{modules_seen, objects_seen}
use Rattle.ash_image.proofs.naming.named_objects.Given as goal

abbrev pub invariant-loop-last : goal.invariant-loop-last
invariant-loop-last l = objects_named (modules_seen l.modules) (objects_of l.objects.items) ++ objects_seen l.named
    ≡ objects_named (modules_seen l.modules) (objects_of l.fn.objects.items)

abbrev pub decreases-loop-last : goal.decreases-loop-last
decreases-loop-last l = length l.objects.items
