use Rattle.std.proofs.Common.{ℕ, ◌∙◌, rules}
use Rattle.std.proofs.lemmas.List.Sorted.{IsNonDecreasingBy-from_sort_by_key, sum_by-IsPermutation}
use Rattle.ash_objects.proofs.Sorting.{sorted_numbers}
use Rattle.ash_objects.proofs.marking.sort_numbers.Goals as goal

pub returns : goal.returns
returns c = record {
  effect =
      λ list increasing same.
      let sorted = c.sort_unstable_by_key.new.self.items in
      let rises = IsNonDecreasingBy-from_sort_by_key (λ (n : ℕ). n) sorted c.sort_unstable_by_key.ensures.sorted (λ a r q k. search rules) in
      sorted_numbers sorted list rises increasing (λ measure. sum_by-IsPermutation measure c.args.numbers.now.items sorted c.sort_unstable_by_key.ensures.permutation ∙ same measure);
}
