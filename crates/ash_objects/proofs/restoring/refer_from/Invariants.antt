use Rattle.std.proofs.Common.{◌≡◌, ◌≤◌, ◌*◌, ℕ, drop}
use Rattle.ash_slots.specs.SlotCounting.{counted}
use Rattle.ash_objects.specs.Counting.{face_at}
use Rattle.ash_objects.specs.Restoring.{refer_objects}
use Rattle.ash_objects.proofs.restoring.refer_from.Given as goal

abbrev pub invariant-loop-number : goal.invariant-loop-number
invariant-loop-number g l = record {
  rest : refer_objects (drop l.number-index l.list) l.store.objects ≡ refer_objects l.list l.initial.store.objects;
  faces : (m : ℕ) → face_at m l.store.objects ≡ face_at m l.initial.store.objects;
  fits : (m : ℕ) → counted m l.store.objects ≤ 4096 * l.number-index;
}
