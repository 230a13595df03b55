use Rattle.std.proofs.Common.{map, ◌∙◌, rules}
use Rattle.std.proofs.lemmas.List.Sorted.{IsNonDecreasingBy-from_sort_by_key, sum_by-IsPermutation}
use Rattle.ash_slots.specs.declared.entry.Entry.{Entry}
use Rattle.ash_objects.specs.Collecting.{entry_mark}
use Rattle.ash_objects.proofs.Sorting.{sorted_same}
use Rattle.ash_objects.proofs.Marks.{non_decreasing-marks, sum-marks}
use Rattle.ash_objects.proofs.sweeping.sort_taken.Goals as goal

pub returns-clause-order : goal.returns-clause-order
returns-clause-order g c = λ went same.
    let sorted = c.sort_unstable_by_key.new.self.items in
    let rises = IsNonDecreasingBy-from_sort_by_key (λ (entry : Entry _). entry.number) sorted c.sort_unstable_by_key.ensures.sorted (λ a r q k. search rules) in
    sorted_same (map entry_mark sorted) went (non_decreasing-marks sorted rises) same.in_order
    (λ measure. sum-marks measure sorted ∙ sum_by-IsPermutation (λ entry. measure (entry_mark entry)) c.args.taken.now.items sorted c.sort_unstable_by_key.ensures.permutation ∙ same.same measure)
