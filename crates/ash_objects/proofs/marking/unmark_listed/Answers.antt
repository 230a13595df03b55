use Rattle.std.proofs.Common.{ℕ, List, ◌∷◌, [], length, ap, ◌∙◌, arith}
use Rattle.std.specs.Prelude.{sum_by}
use Rattle.std.proofs.lemmas.List.{length-append}
use Rattle.std.proofs.lemmas.List.Sums.{sum_by-append, sum_by-cons}
use Rattle.ash_slots.proofs.Changing.{in_order-change}
use Rattle.ash_objects.specs.Marking.{marked_in, unmarked}
use Rattle.ash_objects.proofs.Listed.{listed_taken, listed_cleared}
use Rattle.ash_objects.proofs.Touching.{alike_less, marked_less, none_listed, none_marked, all_cleared}
use Rattle.ash_objects.proofs.marking.unmark_listed.Goals as goal

pub loop-slot-preserved-in-Some-unmark : goal.loop-slot-preserved-in-Some-unmark
loop-slot-preserved-in-Some-unmark g c =
    let l = c.loop-slot.store.objects in
    let h = c.loop-slot.invariant in
    let n = c.in-Some-unmark.number in
    let now = c.in-Some-unmark.ensures.unmarked in
    let shorter = ap length c.in-Some.ensures.taken ∙ length-append c.next.new.self.slots (c.in-Some.slot ∷ []) in
    record {
      in_order = rw now (in_order-change n unmarked l h.in_order);
      listed = listed_taken c.in-Some.slot c.unmark.new.store.objects c.loop-slot.marks c.next.new.self c.in-Some.ensures.taken c.in-Some.ensures.room c.in-Some-unmark.ensures.clear (rw now (listed_cleared n l c.loop-slot.marks h.listed));
      alike = λ m. rw now (alike_less n m l ∙ h.alike m);
      sums = λ measure.
          let less = marked_less measure n l h.in_order c.in-Some-unmark.ensures.marked in
          let left = ap (λ k. sum_by measure (marked_in k)) now in
          let items = ap (λ (ns : List ℕ). sum_by measure ns) c.push_reserved.ensures.items in
          let more = sum_by-append measure c.loop-slot.numbers.items (n ∷ []) in
          let one = sum_by-cons measure n [] in
          let sums = h.sums measure in
          omega (arith, less, left, items, more, one, sums);
      room = omega (arith, c.push_reserved.ensures.len, c.push_reserved.ensures.capacity, shorter, h.room);
    }

pub returns-clause-unmarked : goal.returns-clause-unmarked
returns-clause-unmarked g c =
    let h = c.loop-slot.invariant in
    all_cleared c.args.store.now.objects c.loop-slot.store.objects c.requires.in_order h.in_order (none_listed c.loop-slot.store.objects c.loop-slot.marks c.in_default.ensures.none h.listed) h.alike

pub returns-clause-numbers : goal.returns-clause-numbers
returns-clause-numbers g c = λ measure.
    let l = c.loop-slot.store.objects in
    let h = c.loop-slot.invariant in
    let none = none_marked l h.in_order (none_listed l c.loop-slot.marks c.in_default.ensures.none h.listed) in
    let nothing = ap (λ (ns : List ℕ). sum_by measure ns) none in
    let sums = h.sums measure in
    omega (arith, nothing, sums)
