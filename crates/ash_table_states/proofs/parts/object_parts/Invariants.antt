use Rattle.std.proofs.Common.{◌≡◌, take}
use Rattle.ash_image.specs.SnapshotViews.{objects_in}
use Rattle.ash_states.specs.Writing.{HavePartKinds}
use Rattle.ash_table_states.specs.WrittenObjects.{index_at, objects_written, listed_entries}
use Rattle.ash_table_states.proofs.parts.object_parts.Given as goal

abbrev pub invariant-loop-place : goal.invariant-loop-place
invariant-loop-place g l = record {
  same : objects_in l.parts.items ≡ objects_written g.B.HostObject (index_at l.slots) (listed_entries (take l.place l.objects));
  kinds : HavePartKinds l.parts.items;
}
