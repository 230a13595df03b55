-- Numbers that rise one by one are strictly increasing, and a binary search among them finds what is there.
use Rattle.std.proofs.Common.{◌≡◌, ℕ, zero, suc, ◌<◌, ◌≤◌, Bool, true, false, ltb, List, [], ◌∷◌, length, get_or, refl, subst, sym}
use Rattle.std.proofs.Common.{inl, inr, nat_eq, add-one, arith}
use Rattle.std.specs.Prelude.{slice_index, Result, Ok, Err, is_ok}
use Rattle.std.specs.List.Sorted.{IsStrictlyIncreasing}
use Rattle.std.specs.List.Sorted.{IsBinarySearchResult}
use Rattle.std.specs.Ordering.{nat_cmp}
use Rattle.std.proofs.lemmas.Bool.{cases_lt, ltb-true, eqb-true, eq-eqb}
use Rattle.std.proofs.lemmas.List.Sorted.{searched}
use Rattle.ash_host.specs.Reach.{is_among}
use Rattle.ash_host.proofs.Membership.{and_both, or_cases, or_first, or_second}
use Rattle.ash_image.specs.Image.{do_rise}

next_above : (ns : List ℕ) → do_rise ns ≡ true → (k : ℕ) → suc k < length ns → slice_index ns k < slice_index ns (suc k)
next_above [] e k lt = absurd (omega arith)
next_above (n ∷ []) e k lt = absurd (omega arith)
next_above (n ∷ next ∷ more) e zero lt = ltb-true n next (and_both (ltb n next) (do_rise (next ∷ more)) e).0
next_above (n ∷ next ∷ more) e (suc k) lt =
    next_above (next ∷ more) (and_both (ltb n next) (do_rise (next ∷ more)) e).1 k (omega arith)

pub increasing : (ns : List ℕ) → do_rise ns ≡ true → IsStrictlyIncreasing ns
increasing ns e k lt =
    subst (λ (m : ℕ). slice_index ns k < slice_index ns m) (sym (add-one k)) (next_above ns e k (omega arith))

-- ---- by index

pub tail_rises : (n : ℕ) (ns : List ℕ) → do_rise (n ∷ ns) ≡ true → do_rise ns ≡ true
tail_rises n [] e = refl
tail_rises n (m ∷ ms) e = (and_both (ltb n m) (do_rise (m ∷ ms)) e).1

pub rises_from : (n : ℕ) (ns : List ℕ) → do_rise (n ∷ ns) ≡ true → (j : ℕ) → j < length ns → n < get_or ns j 0
rises_from n [] e j lt = absurd (omega arith)
rises_from n (m ∷ ms) e zero lt = ltb-true n m (and_both (ltb n m) (do_rise (m ∷ ms)) e).0
rises_from n (m ∷ ms) e (suc j) lt =
    let both = and_both (ltb n m) (do_rise (m ∷ ms)) e in
    let low : n < m = ltb-true n m both.0 in
    let high : m < get_or ms j 0 = rises_from m ms both.1 j (omega arith) in
    omega arith

not_below : (ns : List ℕ) → do_rise ns ≡ true → (i j : ℕ) → i ≤ j → j < length ns → get_or ns i 0 ≤ get_or ns j 0
not_below [] e i j le lt = absurd (omega arith)
not_below (n ∷ ns) e zero zero le lt = omega arith
not_below (n ∷ ns) e zero (suc j) le lt = let above : n < get_or ns j 0 = rises_from n ns e j (omega arith) in omega arith
not_below (n ∷ ns) e (suc i) zero le lt = absurd (omega arith)
not_below (n ∷ ns) e (suc i) (suc j) le lt = not_below ns (tail_rises n ns e) i j (omega arith) (omega arith)

pub among_at : (ns : List ℕ) (i n : ℕ) → i < length ns → get_or ns i 0 ≡ n → is_among ns n ≡ true
among_at [] i n lt is = absurd (omega arith)
among_at (m ∷ ns) zero n lt is = or_first (nat_eq n m) (is_among ns n) (eq-eqb n m (sym is))
among_at (m ∷ ns) (suc i) n lt is = or_second (nat_eq n m) (is_among ns n) (among_at ns i n (omega arith) is)

pub index_of : (ns : List ℕ) (n : ℕ) → is_among ns n ≡ true → (i : ℕ) × (i < length ns) × (get_or ns i 0 ≡ n)
index_of [] n among = absurd cc
index_of (m ∷ ns) n among =
    elim (or_cases (nat_eq n m) (is_among ns n) among) [
      | inl here ↦ (0, omega arith, sym (eqb-true n m here))
      | inr later ↦ let found = index_of ns n later in (suc found.0, omega (arith, found.1), found.2)
    ]

-- ---- what a search finds

pub search_is : (ns : List ℕ) (n : ℕ) (r : Result ℕ ℕ) → IsBinarySearchResult (λ y. nat_cmp y n) ns r → do_rise ns ≡ true
    → is_ok r ≡ is_among ns n
search_is ns n (Ok i) is e =
    let found = searched ns n (Ok i) is (not_below ns e) in
    sym (among_at ns i n found.0 found.1)
search_is ns n (Err i) is e =
    go (is_among ns n) refl
  where
    apart : (k m : ℕ) → m ≡ n → (k < i → m < n) → (i ≤ k → n < m) → ⊥
    apart k m same low high =
        elim (cases_lt k i) [
          | inl lt ↦ (let less = low lt in omega arith)
          | inr le ↦ (let more = high le in omega arith)
        ]

    go : (b : Bool) → is_among ns n ≡ b → false ≡ b
    go true among =
        let found = searched ns n (Err i) is (not_below ns e) in
        let at = index_of ns n among in
        absurd (apart at.0 (get_or ns at.0 0) at.2 (found.1 at.0) (λ le. found.2 at.0 le at.1))
    go false among = refl

-- the index that a search finds
pub search_found : (ns : List ℕ) (n i : ℕ) → IsBinarySearchResult (λ y. nat_cmp y n) ns (Ok i) → do_rise ns ≡ true
    → (i < length ns) × (get_or ns i 0 ≡ n)
search_found ns n i is e = searched ns n (Ok i) is (not_below ns e)
