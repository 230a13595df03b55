-- Lists that are changed place by place, from the first on, and lists that are taken apart from the end.
use Rattle.std.proofs.Common.{◌≡◌, ℕ, List, [], ◌∷◌, refl, sym, ap, ◌∙◌, arith, Some, length, zero, suc, ◌+◌, ◌++◌, ◌≤◌, ◌<◌, ◌⊎◌, inl, inr, set, take, drop, map, min}
use Rattle.std.specs.Prelude.{slice_get}
use Rattle.std.proofs.lemmas.Bool.{cases_lt}
use Rattle.std.proofs.lemmas.List.{length-set, length-take}
use Rattle.std.proofs.lemmas.Option.{slice_get_within}

-- what is at a place of a list that was made item by item
pub got_map : {A C : Type 0} (f : A → C) (xs : List A) (k : ℕ) (x : A) (y : C) → slice_get xs k ≡ Some x
    → slice_get (map f xs) k ≡ Some y → f x ≡ y
got_map f [] k x y was is = absurd (cc)
got_map f (z ∷ xs) zero x y was is =
    let same : z ≡ x = cc in
    let made : f z ≡ y = cc in
    sym (ap f same) ∙ made
got_map f (z ∷ xs) (suc k) x y was is = got_map f xs k x y was is

get_set : {A : Type 0} (xs : List A) (k : ℕ) (y : A) → k < length xs → slice_get (set xs k y) k ≡ Some y
get_set [] k y h = absurd (omega arith)
get_set (x ∷ xs) zero y h = refl
get_set (x ∷ xs) (suc k) y h = get_set xs k y (omega arith)

get_other : {A : Type 0} (xs : List A) (k j : ℕ) (y : A) → (j ≡ k → ⊥) → slice_get (set xs k y) j ≡ slice_get xs j
get_other [] k j y h = refl
get_other (x ∷ xs) zero zero y h = absurd (h refl)
get_other (x ∷ xs) zero (suc j) y h = refl
get_other (x ∷ xs) (suc k) zero y h = refl
get_other (x ∷ xs) (suc k) (suc j) y h = get_other xs k j y (λ same. h (ap suc same))

-- Below a place each item has become another in a way that may depend on the place; from there on all are as they were.
pub record IsDone {A : Type 0} (P : ℕ → A → A → Type 0) (k : ℕ) (old cur : List A) : Type 0 where
  pub many : length cur ≡ length old
  pub done : (place : ℕ) (one other : A) → place < k → slice_get old place ≡ Some one → slice_get cur place
      ≡ Some other → P place one other
  pub rest : (place : ℕ) → k ≤ place → slice_get cur place ≡ slice_get old place

module _ {A : Type 0} (P : ℕ → A → A → Type 0) where
  pub done_none : (xs : List A) → IsDone P 0 xs xs
  done_none xs = record {
    many = refl;
    done = λ place one other below was is. absurd (omega arith);
    rest = λ place above. refl;
  }

  pub done_more : (k : ℕ) (old cur : List A) (x y : A) → IsDone P k old cur → slice_get cur k ≡ Some x → P k x y
      → IsDone P (k + 1) old (set cur k y)
  done_more k old cur x y h there new = record {
    many = length-set cur k y ∙ h.many;
    done = λ place one other below was is. each place one other below was is (cases_lt place k);
    rest = λ place above. get_other cur k place y (λ same. absurd (omega arith)) ∙ h.rest place (omega arith);
  }
    where
      each : (place : ℕ) (one other : A) → place < k + 1 → slice_get old place ≡ Some one
          → slice_get (set cur k y) place ≡ Some other → (place < k) ⊎ (k ≤ place) → P place one other
      each place one other below was is (inl under) =
          h.done place one other under was
          (sym (get_other cur k place y (λ same. absurd (omega (arith, same, under)))) ∙ is)
      each place one other below was is (inr above) =
          let here : place ≡ k = omega (arith, below, above) in
          let now : slice_get (set cur k y) k ≡ Some y = get_set cur k y (slice_get_within cur k x there) in
          let then : slice_get old k ≡ Some x = sym (h.rest k (omega arith)) ∙ there in
          at place one other was is here now then
        where
          at : (place : ℕ) (one other : A) → slice_get old place ≡ Some one → slice_get (set cur k y) place
              ≡ Some other → place ≡ k → slice_get (set cur k y) k ≡ Some y → slice_get old k ≡ Some x
              → P place one other
          at place one other was is here now then =
              let first : slice_get old k ≡ Some one = ap (λ (j : ℕ). slice_get old j) (sym here) ∙ was in
              let second : slice_get (set cur k y) k ≡ Some other = ap (λ (j : ℕ). slice_get (set cur k y) j) (sym here) ∙ is in
              let one_is : x ≡ one = cc in
              let other_is : y ≡ other = cc in
              rw (here, ← one_is, ← other_is) new

  pub done_all : (k : ℕ) (old cur : List A) → IsDone P k old cur → length old ≤ k → (place : ℕ) (one other : A)
      → slice_get old place ≡ Some one → slice_get cur place ≡ Some other → P place one other
  done_all k old cur h over place one other was is =
      let within = slice_get_within old place one was in
      h.done place one other (omega (arith, within, over)) was is

-- what is at a place of a prefix is at that place of the list
pub prefix_at : {A : Type 0} (k : ℕ) (xs : List A) (j : ℕ) (x : A) → slice_get (take k xs) j ≡ Some x → (j < k)
    × (slice_get xs j ≡ Some x)
prefix_at zero xs j x h = absurd (cc)
prefix_at (suc k) [] j x h = absurd (cc)
prefix_at (suc k) (y ∷ xs) zero x h = (omega arith, h)
prefix_at (suc k) (y ∷ xs) (suc j) x h = let later = prefix_at k xs j x h in (omega (arith, later.0), later.1)

module _ {A : Type 0} (P : ℕ → A → A → Type 0) where
  -- the prefix before the place that was reached
  pub prefix_many : (k : ℕ) (old cur : List A) → IsDone P k old cur → length (take k cur) ≡ length (take k old)
  prefix_many k old cur h = length-take k cur ∙ ap (λ (n : ℕ). min k n) h.many ∙ sym (length-take k old)

  pub prefix_done : (k : ℕ) (old cur : List A) → IsDone P k old cur → (place : ℕ) (one other : A)
      → slice_get (take k old) place ≡ Some one → slice_get (take k cur) place ≡ Some other → P place one other
  prefix_done k old cur h place one other was is =
      let before = prefix_at k old place one was in
      let after = prefix_at k cur place other is in
      h.done place one other before.0 before.1 after.1

-- What is left of the prefix of a list once its last item was taken.
pub record IsPopped {A : Type 0} (all rest : List A) (x : A) : Type 0 where
  pub left : rest ≡ take (length rest) all
  pub next : drop (length rest) all ≡ x ∷ drop (length rest + 1) all
  pub there : slice_get all (length rest) ≡ Some x
  pub within : length rest < length all

pub popped : {A : Type 0} (all rest : List A) (x : A) (k : ℕ) → take k all ≡ rest ++ x ∷ [] → IsPopped all rest x
popped [] [] x zero h = absurd (cc)
popped [] [] x (suc k) h = absurd (cc)
popped [] (r ∷ rest) x zero h = absurd (cc)
popped [] (r ∷ rest) x (suc k) h = absurd (cc)
popped (y ∷ all) [] x zero h = absurd (cc)
popped (y ∷ all) (r ∷ rest) x zero h = absurd (cc)
popped (y ∷ all) [] x (suc k) h =
    let same : y ≡ x = cc in
    record {
      left = refl;
      next = ap (λ z. z ∷ all) same;
      there = ap Some same;
      within = omega arith;
    }
popped (y ∷ all) (r ∷ rest) x (suc k) h =
    let same : y ≡ r = cc in
    let after : take k all ≡ rest ++ x ∷ [] = cc in
    let p = popped all rest x k after in
    let more : suc (length rest) + 1 ≡ suc (length rest + 1) = omega arith in
    let inside = p.within in
    record {
      left = ap (λ z. z ∷ rest) (sym same) ∙ ap (λ (l : List _). y ∷ l) p.left;
      next = p.next ∙ ap (λ (n : ℕ). x ∷ drop n (y ∷ all)) (sym more);
      there = p.there;
      within = omega (arith, inside);
    }
