use Rattle.std.proofs.Common.{◌≡◌, ◌++◌}
use Rattle.std.specs.BTreeMap.{btree_map_len}
use Rattle.ash_image.specs.SnapshotViews.{modules_of}
use Rattle.ash_image.specs.NamedViews.{modules_seen}
use Rattle.ash_image.proofs.naming.listed_modules.Given as goal

abbrev pub invariant-loop-entry : goal.invariant-loop-entry
invariant-loop-entry l = modules_of l.stored.items ++ modules_seen l.modules ≡ modules_seen l.fn.modules

abbrev pub decreases-loop-entry : goal.decreases-loop-entry
decreases-loop-entry l = btree_map_len l.modules
