use Rattle.std.proofs.Common.{◌≡◌, ◌≤◌, ◌+◌, ℕ, drop}
use Rattle.ash_slots.specs.Store.{IsIn}
use Rattle.ash_slots.specs.SlotCounting.{counted}
use Rattle.ash_objects.specs.Counting.{refer_all, words_at, face_at}
use Rattle.ash_objects.proofs.counting.refer_words.Given as goal

abbrev pub invariant-loop-place : goal.invariant-loop-place
invariant-loop-place g l = record {
  rest : (number : ℕ) → IsIn number l.slot l.initial.store.objects
      → refer_all (drop l.place (words_at number l.initial.store.objects)) l.store.objects
      ≡ refer_all (words_at number l.initial.store.objects) l.initial.store.objects;
  faces : (number : ℕ) → face_at number l.store.objects ≡ face_at number l.initial.store.objects;
  fits : (number : ℕ) → counted number l.store.objects ≤ counted number l.initial.store.objects + l.place;
}
