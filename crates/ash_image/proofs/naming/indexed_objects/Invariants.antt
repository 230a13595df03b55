use Rattle.std.proofs.Common.{◌≡◌, ◌++◌}
use Rattle.std.specs.BTreeMap.{btree_map_len}
use Rattle.ash_image.specs.SnapshotViews.{objects_of}
use Rattle.ash_image.specs.Leading.{objects_indexed}
use Rattle.ash_image.specs.NamedViews.{modules_seen, objects_seen}
use Rattle.ash_image.proofs.naming.indexed_objects.Given as goal

abbrev pub invariant-loop-entry : goal.invariant-loop-entry
invariant-loop-entry l = objects_of l.stored.items ++ objects_indexed (modules_seen l.modules) (objects_seen l.objects)
    ≡ objects_indexed (modules_seen l.modules) (objects_seen l.fn.objects)

abbrev pub decreases-loop-entry : goal.decreases-loop-entry
decreases-loop-entry l = btree_map_len l.objects
