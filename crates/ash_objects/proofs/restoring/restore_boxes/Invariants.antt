use Rattle.std.proofs.Common.{◌≡◌, Some}
use Rattle.std.specs.Prelude.{slice_get}
use Rattle.ash_objects.specs.declared.restoring.SavedObject.{SavedObject}
use Rattle.ash_objects.specs.Restoring.{RestoresBox}
use Rattle.ash_objects.proofs.Pointwise.{IsDone}
use Rattle.ash_objects.proofs.restoring.restore_boxes.Given as goal

abbrev pub invariant-loop-place : goal.invariant-loop-place
invariant-loop-place g l = record {
  done : IsDone (λ place one other. (object : SavedObject) → slice_get l.objects place ≡ Some object
      → RestoresBox g.B.HostObject object.body one other) l.place l.initial.boxes.items l.boxes.items;
}
