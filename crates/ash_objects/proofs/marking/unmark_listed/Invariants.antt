use Rattle.std.proofs.Common.{◌≡◌, ◌+◌, ◌≤◌, ℕ, length, vec_len, vec_capacity}
use Rattle.std.specs.Prelude.{sum_by}
use Rattle.std.specs.Option.{option_map}
use Rattle.ash_host.specs.Objects.{object_at, IsInOrder}
use Rattle.ash_objects.specs.Marking.{marked_in, unmarked}
use Rattle.ash_objects.specs.Listing.{AreListed}
use Rattle.ash_objects.proofs.marking.unmark_listed.Given as goal

abbrev pub invariant-loop-slot : goal.invariant-loop-slot
invariant-loop-slot g l = record {
  in_order : IsInOrder l.store.objects;
  listed : AreListed l.store.objects l.marks;
  alike : (m : ℕ) → option_map unmarked (object_at m l.store.objects)
      ≡ option_map unmarked (object_at m l.initial.store.objects);
  sums : (measure : ℕ → ℕ) → sum_by measure l.numbers.items + sum_by measure (marked_in l.store.objects)
      ≡ sum_by measure (marked_in l.initial.store.objects);
  room : vec_len l.numbers + length l.marks.slots ≤ vec_capacity l.numbers;
}

-- each turn takes a slot from the list
abbrev pub decreases-loop-slot : goal.decreases-loop-slot
decreases-loop-slot g l = length l.marks.slots
