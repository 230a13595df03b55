use Rattle.std.proofs.Common.{◌≡◌, [], map}
use Rattle.std.specs.Vec.Iter.{into_iter_items}
use Rattle.ash_plain_steps.specs.StateViews.{modules_seen}
use Rattle.ash_image.specs.SnapshotViews.{objects_of}
use Rattle.ash_states.specs.Images.{name_at, entry_named}
use Rattle.ash_states.specs.StateRestoring.{with_all}
use Rattle.ash_states.proofs.objects.objects_of.Given as goal

-- what is put so far, with what is left
abbrev pub invariant-loop-number : goal.invariant-loop-number
invariant-loop-number l =
    with_all l.objects (map (entry_named (name_at (modules_seen l.modules))) (objects_of (into_iter_items l.number-iterator)))
    ≡ with_all [] (map (entry_named (name_at (modules_seen l.modules))) (objects_of l.fn.stored.items))
