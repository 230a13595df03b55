-- Names of what a request changed can be listed, since they ascend.
use Rattle.std.proofs.Common.{◌≡◌, ℕ, Bool, true, false, cond, List, [], ◌∷◌, filter, subst, sym, ap}
use Rattle.std.proofs.Common.{Less, arith}
use Rattle.std.specs.List.{AllByRecursion}
use Rattle.std.specs.List.Sorted.{IsStrictlyIncreasing, IsStrictlySortedBy}
use Rattle.std.specs.Map.{keys_of}
use Rattle.std.specs.Ordering.{nat_cmp}
use Rattle.std.proofs.lemmas.Map.Keys.{IsStrictlyIncreasing-from_sorted, sorted_from_strictly_increasing}
use Rattle.ash_host.specs.Objects.{IsInOrder}
use Rattle.ash_objects.specs.Table.{Living, Table}
use Rattle.ash_objects.specs.Marking.{marked_of}
use Rattle.ash_change_laws.specs.ChangedStates.{Changes, nothing}
use Rattle.ash_soundness.proofs.Values.{none_in}
use Rattle.ash_change_records.specs.ListedChanges.{AreListable}

module _ {A : Type 0} (passes : ℕ × A → Bool) where
  all_above : (n : ℕ) (es : List (ℕ × A)) → AllByRecursion (λ (m : ℕ). nat_cmp n m ≡ Less) (keys_of es) → AllByRecursion (λ (m : ℕ). nat_cmp n m ≡ Less) (keys_of (filter passes es))
  all_above n [] above = tt
  all_above n (e ∷ es) above =
      elim (passes e) as (λ b. AllByRecursion (λ (m : ℕ). nat_cmp n m ≡ Less) (keys_of (cond b (e ∷ filter passes es) (filter passes es)))) [
        | true ↦ (above.0, all_above n es above.1)
        | false ↦ all_above n es above.1
      ]

  still_sorted : (es : List (ℕ × A)) → IsStrictlySortedBy nat_cmp (keys_of es) → IsStrictlySortedBy nat_cmp (keys_of (filter passes es))
  unfolding IsStrictlySortedBy
  still_sorted [] sorted = tt
  still_sorted (e ∷ es) sorted =
      elim (passes e) as (λ b. IsStrictlySortedBy nat_cmp (keys_of (cond b (e ∷ filter passes es) (filter passes es)))) [
        | true ↦ (all_above e.0 es sorted.0, still_sorted es sorted.1)
        | false ↦ still_sorted es sorted.1
      ]

-- the objects that a table marks are by ascending number
pub marked_rise : {B : Type 0} (table : Table B) → IsInOrder table.objects → IsStrictlyIncreasing (marked_of table)
marked_rise {B} table order =
    IsStrictlyIncreasing-from_sorted (marked_of table)
    (still_sorted (λ (e : ℕ × Living B). (e.1).touched) table.objects (sorted_from_strictly_increasing (keys_of table.objects) order))

pub none_rise : IsStrictlyIncreasing []
unfolding IsStrictlySortedBy
none_rise = IsStrictlyIncreasing-from_sorted [] tt

-- nothing can be listed
pub nothing_listable : (c : Changes) → c ≡ nothing → AreListable c
nothing_listable c is = subst (λ (x : Changes). AreListable x) (sym is) (record {
  services = none_rise;
  modules = tt;
  living = none_rise;
  gone = none_rise;
  few = omega arith;
  given = tt;
  apart = λ n i other. absurd (none_in n i);
})
