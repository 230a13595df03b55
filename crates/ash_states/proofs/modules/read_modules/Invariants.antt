use Rattle.std.proofs.Common.{◌≡◌, ◌++◌}
use Rattle.std.specs.List.{AllByRecursion}
use Rattle.std.specs.Vec.Iter.{into_iter_items}
use Rattle.ash_plain_steps.specs.StateViews.{modules_seen}
use Rattle.ash_plain_steps.specs.Consistency.{IsReadFromSource}
use Rattle.ash_image.specs.SnapshotViews.{modules_of}
use Rattle.ash_states.specs.Images.{loaded_modules_of}
use Rattle.ash_states.proofs.modules.read_modules.Given as goal

-- what is read so far, with what is left
abbrev pub invariant-loop-module : goal.invariant-loop-module
invariant-loop-module g l = record {
  same : modules_seen l.modules.items ++ loaded_modules_of (modules_of (into_iter_items l.module-iterator)) ≡ loaded_modules_of (modules_of l.fn.stored.items);
  read : AllByRecursion (IsReadFromSource (g.S.SourceReader.embedding l.sources)) l.modules.items;
}
