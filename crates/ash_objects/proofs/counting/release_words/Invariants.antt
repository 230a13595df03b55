use Rattle.std.proofs.Common.{◌≡◌, ◌≤◌, ℕ, drop}
use Rattle.ash_host.specs.Objects.{handles_to}
use Rattle.ash_slots.specs.SlotCounting.{counted}
use Rattle.ash_objects.specs.Counting.{release_all}
use Rattle.ash_objects.proofs.counting.release_words.Given as goal

abbrev pub invariant-loop-word : goal.invariant-loop-word
invariant-loop-word g l = record {
  rest : release_all (drop l.word-index l.words) l.store.objects ≡ release_all l.words l.initial.store.objects;
  covers : (number : ℕ) → handles_to number (drop l.word-index l.words) ≤ counted number l.store.objects;
  room : l.store.room ≡ l.initial.store.room;
}
