use Rattle.std.proofs.Common.{◌≡◌, ℕ, length}
use Rattle.std.specs.Option.{option_or}
use Rattle.ash_host.specs.Objects.{object_at}
use Rattle.ash_image.specs.SnapshotViews.{objects_of}
use Rattle.ash_image.specs.Leading.{object_by_name}
use Rattle.ash_image.specs.NamedViews.{modules_seen, objects_seen}
use Rattle.ash_image.proofs.leading.put_objects.Given as goal

abbrev pub invariant-loop-object : goal.invariant-loop-object
invariant-loop-object l = (n : ℕ)
    → option_or (object_by_name (modules_seen l.modules) (objects_of l.put.items) n) (object_at n (objects_seen l.objects))
    ≡ option_or (object_by_name (modules_seen l.modules) (objects_of l.fn.put.items) n)
    (object_at n (objects_seen l.initial.objects))

abbrev pub decreases-loop-object : goal.decreases-loop-object
decreases-loop-object l = length l.put.items
