-- The flags of slots, and the list of those whose flag is set.
use Rattle.std.proofs.Common.{◌≡◌, ◌≢◌, ℕ, Bool, true, false, cond, not, List, [], ◌∷◌, ◌++◌, inl, inr, refl, sym, subst, ap, ◌∙◌, nat_eq, nat_lt, arith, zero, suc, length, ◌+◌, ◌-◌, ◌<◌, ◌≤◌, get_or, replicate}
use Rattle.std.specs.Prelude.{slice_set}
use Rattle.std.specs.List.{Contains}
use Rattle.std.proofs.lemmas.Bool.{eqb-true, eq-eqb}
use Rattle.std.proofs.lemmas.Bool.Decides.{nat_tests}
use Rattle.std.proofs.lemmas.List.{length-append, length-set, length-replicate, get_or-set_same, get_or-set_other, get_or_append_left, get_or-append_right, get_or_default}
use Rattle.std.proofs.lemmas.List.Sums.{sum_by-set, sum_by-append, count_by-le-length}
use Rattle.std.proofs.lemmas.List.Elements.{Contains-append_left, Contains-append_right, Contains-append_cases}
use Rattle.ash_objects.specs.Listing.{AreFlagged}

apart_from : (x y : ℕ) → nat_eq x y ≡ false → y ≢ x
apart_from x y h = λ same. let yes = eq-eqb x y (sym same) in cc

one_in : (x y : ℕ) → Contains (x ∷ []) y → x ≡ y
one_in x y h = at h.0 h.1 h.2
  where
    at : (k : ℕ) → k < 1 → get_or (x ∷ []) k y ≡ y → x ≡ y
    at zero within found = found
    at (suc k) within found = absurd (omega arith)

-- the last of a list is in it
pub last_in : (slots : List ℕ) (slot : ℕ) → Contains (slots ++ slot ∷ []) slot
last_in slots slot = Contains-append_right slots (slot ∷ []) slot (0, omega arith, refl)

-- a slot of a list is its last, or among the others
pub last_or : (slots : List ℕ) (slot k : ℕ) → k ≢ slot → Contains (slots ++ slot ∷ []) k → Contains slots k
last_or slots slot k apart h =
    elim (Contains-append_cases slots (slot ∷ []) k h) [
      | inl here ↦ here
      | inr last ↦ absurd (apart (sym (one_in slot k last)))
    ]

-- a flag that was read and is set
pub flag_read : (flags : List Bool) (slot : ℕ) (b : Bool) → slot < length flags → b ≡ get_or flags slot b → b ≡ true
    → get_or flags slot false ≡ true
flag_read flags slot true within is set = get_or_default flags slot false true within ∙ sym is
flag_read flags slot false within is set = cc

-- a slot that is listed
pub flag_set : (flags : List Bool) (slots : List ℕ) (room slot : ℕ) → slot < length flags → get_or flags slot false
    ≡ false → AreFlagged flags slots room → AreFlagged (slice_set flags slot true) (slots ++ slot ∷ []) room
flag_set flags slots room slot within clear a =
    let many = length-set flags slot true in
    let sums = sum_by-set (λ (b : Bool). cond {A = ℕ} (not b) 1 0) flags slot true false within in
    let there = ap (λ (b : Bool). cond {A = ℕ} (not b) 1 0) clear in
    let longer = length-append slots (slot ∷ []) in
    let once = a.once in
    let fits = a.fits in
    record {
      listed = λ k is. each k (nat_eq slot k) refl is;
      within = λ k h. rw many (in_both k h);
      once = omega (arith, sums, there, longer, once, many);
      fits = omega (arith, many, fits);
    }
  where
    each : (k : ℕ) (b : Bool) → nat_eq slot k ≡ b → get_or (slice_set flags slot true) k false ≡ true
        → Contains (slots ++ slot ∷ []) k
    each k true same is = subst (λ (j : ℕ). Contains (slots ++ slot ∷ []) j) (eqb-true slot k same) (last_in slots slot)
    each k false same is =
        Contains-append_left slots (slot ∷ []) k
        (a.listed k (sym (get_or-set_other flags slot k true false (apart_from slot k same)) ∙ is))

    in_both : (k : ℕ) → Contains (slots ++ slot ∷ []) k → k < length flags
    in_both k h =
        elim (Contains-append_cases slots (slot ∷ []) k h) [
          | inl here ↦ a.within k here
          | inr last ↦ let same = one_in slot k last in omega (arith, same, within)
        ]

-- a slot that is taken from the list
pub flag_cleared : (flags : List Bool) (slots rest : List ℕ) (room slot : ℕ) → slots ≡ rest ++ slot ∷ []
    → AreFlagged flags slots room → AreFlagged (slice_set flags slot false) rest room
flag_cleared flags slots rest room slot is a =
    let many = length-set flags slot false in
    let within = a.within slot here in
    let sums = sum_by-set (λ (b : Bool). cond {A = ℕ} (not b) 1 0) flags slot false false within in
    let longer = length-append rest (slot ∷ []) in
    let one = ap (λ (l : List ℕ). length l) is in
    let once = a.once in
    let fits = a.fits in
    record {
      listed = λ k set. each k within (nat_eq slot k) refl set;
      within =
          λ k h. rw many (a.within k
          (subst (λ (l : List ℕ). Contains l k) (sym is) (Contains-append_left rest (slot ∷ []) k h)));
      once = omega (arith, sums, longer, one, once, many);
      fits = omega (arith, many, fits);
    }
  where
    here : Contains slots slot
    here = subst (λ (l : List ℕ). Contains l slot) (sym is) (last_in rest slot)

    each : (k : ℕ) → slot < length flags → (b : Bool) → nat_eq slot k ≡ b
        → get_or (slice_set flags slot false) k false ≡ true → Contains rest k
    each k within true same set =
        let slot_is : slot ≡ k = eqb-true slot k same in
        let clear : get_or (slice_set flags slot false) k false ≡ false = sym (ap (λ (j : ℕ). get_or (slice_set flags slot false) j false) slot_is) ∙ get_or-set_same flags slot false false within in
        absurd (cc)
    each k within false same set =
        last_or rest slot k (apart_from slot k same) (subst (λ (l : List ℕ). Contains l k) is (a.listed k (sym (get_or-set_other flags slot k false false (apart_from slot k same)) ∙ set)))

none_set : (m i : ℕ) → get_or (replicate m false) i false ≡ false
none_set zero i = refl
none_set (suc m) zero = refl
none_set (suc m) (suc i) = none_set m i

-- flags for more slots
pub flags_more : (flags : List Bool) (m : ℕ) (slots : List ℕ) (small room : ℕ) → length flags + m ≤ room
    → AreFlagged flags slots small → AreFlagged (flags ++ replicate m false) slots room
flags_more flags m slots small room more a =
    let longer = length-append flags (replicate m false) in
    let many = length-replicate m false in
    let sums = sum_by-append (λ (b : Bool). cond {A = ℕ} (not b) 1 0) flags (replicate m false) in
    let most = count_by-le-length not (replicate m false) in
    let once = a.once in
    record {
      listed = λ k set. a.listed k (each k (nat_lt k (length flags)) refl set);
      within = λ k h. let there = a.within k h in omega (arith, there, longer);
      once = omega (arith, longer, many, sums, most, once);
      fits = omega (arith, longer, many, more);
    }
  where
    each : (k : ℕ) (b : Bool) → nat_lt k (length flags) ≡ b → get_or (flags ++ replicate m false) k false ≡ true
        → get_or flags k false ≡ true
    each k true below set = sym (get_or_append_left flags (replicate m false) false k (grind (arith, nat_tests))) ∙ set
    each k false below set =
        let above : length flags ≤ k = grind (arith, nat_tests) in
        let clear = get_or-append_right flags (replicate m false) (length flags) k false refl above ∙ none_set m (k - length flags) in
        absurd (cc)

-- the same flags with more room
pub flags_room : (flags : List Bool) (slots : List ℕ) (small room : ℕ) → small ≤ room → AreFlagged flags slots small
    → AreFlagged flags slots room
flags_room flags slots small room more a = let fits = a.fits in record {
  listed = a.listed;
  within = a.within;
  once = a.once;
  fits = omega (arith, fits, more);
}
