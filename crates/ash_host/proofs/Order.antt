-- Entries by ascending number: what is at each number decides them.
use Rattle.std.proofs.Common.{◌≡◌, ◌<◌, ◌≤◌, ℕ, Bool, true, false, cond, List, [], ◌∷◌, ◌⊎◌, inl, inr, refl, sym, subst, ap, ◌∙◌, nat_eq, nat_lt, arith}
use Rattle.std.specs.Prelude.{None, Some, is_some, IsSome}
use Rattle.std.specs.List.{AllByRecursion}
use Rattle.std.specs.List.Sorted.{IsStrictlySortedBy}
use Rattle.std.specs.Ordering.{nat_cmp, match_ordering}
use Rattle.std.proofs.Common.{Less, Equal, Greater}
use Rattle.std.proofs.lemmas.Bool.Decides.{nat_tests}
use Rattle.std.specs.declared.cmp.Ordering.{Ordering}
use Rattle.std.proofs.lemmas.Bool.{eqb-true, eq-eqb}
use Rattle.std.proofs.lemmas.Map.Keys.{IsStrictlyIncreasing-from_sorted, sorted_from_strictly_increasing}
use Rattle.ash_host.specs.Objects.{object_at, numbers, IsInOrder, with_at}

-- each number is above a bound, and below the next
Rising : {A : Type 0} → ℕ → List (ℕ × A) → Type 0
Rising j [] = Unit {0}
Rising j (e ∷ l) = (j < e.0) × Rising e.0 l

less : (x y : ℕ) → nat_cmp x y ≡ Less → x < y
less x y h = grind (arith, nat_tests)

more : (x y : ℕ) → nat_cmp x y ≡ Greater → y < x
more x y h = grind (arith, nat_tests)

level : (x y : ℕ) → nat_cmp x y ≡ Equal → x ≡ y
level x y h = grind (arith, nat_tests)

rising : {A : Type 0} (e : ℕ × A) (l : List (ℕ × A)) → IsStrictlySortedBy nat_cmp (numbers (e ∷ l)) → Rising e.0 l
unfolding Rising IsStrictlySortedBy
rising e [] h = tt
rising e (f ∷ l) h = (less e.0 f.0 (h.0).0, rising f l h.1)

-- nothing is at a number that is not above the bound
rising_none : {A : Type 0} (j n : ℕ) (l : List (ℕ × A)) → Rising j l → n ≤ j → object_at n l ≡ None
unfolding Rising
rising_none j n [] r h = refl
rising_none j n (e ∷ l) r h =
    go (nat_eq n e.0) refl (let above : j < e.0 = r.0 in rising_none e.0 n l r.1 (omega arith))
  where
    go : (b : Bool) → nat_eq n e.0 ≡ b → object_at n l ≡ None → cond b (Some e.1) (object_at n l) ≡ None
    go true is later = absurd (let same : n ≡ e.0 = eqb-true n e.0 is in let above : j < e.0 = r.0 in omega arith)
    go false is later = later

-- each number is below the next
IsRising : {A : Type 0} → List (ℕ × A) → Type 0
IsRising [] = Unit {0}
IsRising (e ∷ l) = Rising e.0 l

after_bound : {A : Type 0} (j : ℕ) (l : List (ℕ × A)) → Rising j l → IsRising l
unfolding Rising IsRising
after_bound j [] r = tt
after_bound j (e ∷ l) r = r.1

in_order_rises : {A : Type 0} (l : List (ℕ × A)) → IsInOrder l → IsRising l
unfolding IsRising
in_order_rises [] h = tt
in_order_rises (e ∷ l) h = rising e l (sorted_from_strictly_increasing (numbers (e ∷ l)) h)

pub object_here : {A : Type 0} (e : ℕ × A) (l : List (ℕ × A)) → object_at e.0 (e ∷ l) ≡ Some e.1
object_here e l = ap (λ (b : Bool). cond b (Some e.1) (object_at e.0 l)) (eq-eqb e.0 e.0 refl)

pub object_later : {A : Type 0} (n : ℕ) (e : ℕ × A) (l : List (ℕ × A)) → nat_eq n e.0 ≡ false → object_at n (e ∷ l) ≡ object_at n l
object_later n e l h = ap (λ (b : Bool). cond b (Some e.1) (object_at n l)) h

three_ways : (m n : ℕ) → (m < n) ⊎ ((m ≡ n) ⊎ (n < m))
three_ways m n = go (nat_lt m n) (nat_lt n m) refl refl
  where
    go : (b c : Bool) → nat_lt m n ≡ b → nat_lt n m ≡ c → (m < n) ⊎ ((m ≡ n) ⊎ (n < m))
    go true c p q = inl (grind (arith, nat_tests))
    go false true p q = inr (inr (grind (arith, nat_tests)))
    go false false p q = inr (inl (grind (arith, nat_tests)))

pair_same : {A : Type 0} (x y : ℕ × A) → x.0 ≡ y.0 → x.1 ≡ y.1 → x ≡ y
pair_same {A} x y p q = ap (λ (k : ℕ). (k, x.1)) p ∙ ap (λ (v : A). (y.0, v)) q

-- Two lists that rise and in which the same is at each number are one.
rising_same : {A : Type 0} (a b : List (ℕ × A)) → IsRising a → IsRising b → ((n : ℕ) → object_at n a ≡ object_at n b) → a ≡ b
unfolding Rising IsRising
rising_same [] [] ra rb same = refl
rising_same [] (f ∷ b) ra rb same = let here = object_here f b in let at = same f.0 in cc
rising_same (e ∷ a) [] ra rb same = let here = object_here e a in let at = same e.0 in cc
rising_same (e ∷ a) (f ∷ b) ra rb same =
    elim (three_ways e.0 f.0) [
      | inl below ↦ let here = object_here e a in let at = same e.0 in let none = rising_none e.0 e.0 (f ∷ b) (below, rb) (omega arith) in cc
      | inr rest ↦
          elim rest [
            | inl level ↦ together level (rising_same a b (after_bound e.0 a ra) (after_bound f.0 b rb) (tails level))
            | inr above ↦ let here = object_here f b in let at = same f.0 in let none = rising_none f.0 f.0 (e ∷ a) (above, ra) (omega arith) in cc
          ]
    ]
  where
    tails_at : e.0 ≡ f.0 → (n : ℕ) (t : Bool) → nat_eq n e.0 ≡ t → object_at n a ≡ object_at n b
    tails_at level n true is =
        let n_is : n ≡ e.0 = eqb-true n e.0 is in
        rising_none e.0 n a ra (omega arith) ∙ sym (rising_none f.0 n b rb (omega arith))
    tails_at level n false is =
        let other : nat_eq n f.0 ≡ false = subst (λ (k : ℕ). nat_eq n k ≡ false) level is in
        sym (object_later n e a is) ∙ same n ∙ object_later n f b other

    tails : e.0 ≡ f.0 → (n : ℕ) → object_at n a ≡ object_at n b
    tails level n = tails_at level n (nat_eq n e.0) refl

    value : e.0 ≡ f.0 → e.1 ≡ f.1
    value level =
        let mine = object_here e a in
        let yours = object_here f b in
        let at = same e.0 in
        let moved = ap (λ (k : ℕ). object_at k (f ∷ b)) level in
        cc

    together : e.0 ≡ f.0 → a ≡ b → e ∷ a ≡ f ∷ b
    together level rest = let head : e ≡ f = pair_same e f level (value level) in cc

-- entries in order are one with others in order in which the same is at each number
pub same_in_order : {A : Type 0} (a b : List (ℕ × A)) → IsInOrder a → IsInOrder b → ((n : ℕ) → object_at n a ≡ object_at n b) → a ≡ b
same_in_order a b oa ob same = rising_same a b (in_order_rises a oa) (in_order_rises b ob) same

-- after an entry in order its number does not come again
pub none_after : {A : Type 0} (e : ℕ × A) (l : List (ℕ × A)) (n : ℕ) → IsInOrder (e ∷ l) → IsSome (object_at n l) → nat_eq n e.0 ≡ false
none_after e l n o some =
    go (nat_eq n e.0) refl
  where
    go : (b : Bool) → nat_eq n e.0 ≡ b → nat_eq n e.0 ≡ false
    go true is =
        let at : n ≡ e.0 = eqb-true n e.0 is in
        let none = rising_none e.0 n l (rising e l (sorted_from_strictly_increasing (numbers (e ∷ l)) o)) (omega arith) in
        let found_is : is_some (object_at n l) ≡ false = ap is_some none in
        cc
    go false is = is

-- entries in order stay so without the first
pub in_order_after : {A : Type 0} (e : ℕ × A) (l : List (ℕ × A)) → IsInOrder (e ∷ l) → IsInOrder l
unfolding IsStrictlySortedBy
in_order_after e l o = IsStrictlyIncreasing-from_sorted (numbers l) (sorted_from_strictly_increasing (numbers (e ∷ l)) o).1

greater : (x y : ℕ) → x < y → nat_cmp x y ≡ Less
greater x y h = grind (arith, nat_tests)

all_above : {A : Type 0} (x j : ℕ) (l : List (ℕ × A)) → x ≤ j → Rising j l → AllByRecursion (λ y. nat_cmp x y ≡ Less) (numbers l)
unfolding Rising
all_above x j [] le r = tt
all_above x j (e ∷ l) le r = let above : j < e.0 = r.0 in (greater x e.0 (omega arith), all_above x e.0 l (omega arith) r.1)

rises_sorted : {A : Type 0} (l : List (ℕ × A)) → IsRising l → IsStrictlySortedBy nat_cmp (numbers l)
unfolding IsRising Rising IsStrictlySortedBy
rises_sorted [] r = tt
rises_sorted (e ∷ l) r = (all_above e.0 e.0 l (omega arith) r, rises_sorted l (after_bound e.0 l r))

rises_in_order : {A : Type 0} (l : List (ℕ × A)) → IsRising l → IsInOrder l
rises_in_order l r = IsStrictlyIncreasing-from_sorted (numbers l) (rises_sorted l r)

module _ {A : Type 0} (k : ℕ) (v : A) where
  -- what is at each number after a value was put at one
  pub object_at-with_at : (n : ℕ) (l : List (ℕ × A)) → object_at n (with_at k v l) ≡ cond (nat_eq n k) (Some v) (object_at n l)
  object_at-with_at n [] = refl
  object_at-with_at n (e ∷ l) =
      go (nat_cmp k e.0) refl (object_at-with_at n l)
    where
      twice : (b : Bool) → cond b (Some v) (object_at n l) ≡ cond b (Some v) (cond b (Some e.1) (object_at n l))
      twice true = refl
      twice false = refl

      before : (b : Bool) → nat_eq n e.0 ≡ b → e.0 < k → cond b (Some e.1) (cond (nat_eq n k) (Some v) (object_at n l)) ≡ cond (nat_eq n k) (Some v) (cond b (Some e.1) (object_at n l))
      before true is above =
          let n_is : n ≡ e.0 = eqb-true n e.0 is in
          let apart : nat_eq n k ≡ false = grind (arith, nat_tests) in
          ap (λ (b : Bool). cond b (Some v) (Some e.1)) (sym apart)
      before false is above = refl

      go : (o : Ordering) → nat_cmp k e.0 ≡ o → object_at n (with_at k v l) ≡ cond (nat_eq n k) (Some v) (object_at n l) → object_at n (match_ordering o ((k, v) ∷ e ∷ l) ((e.0, v) ∷ l) (e ∷ with_at k v l)) ≡ cond (nat_eq n k) (Some v) (object_at n (e ∷ l))
      go Less is later = refl
      go Equal is later = subst (λ (x : ℕ). cond (nat_eq n e.0) (Some v) (object_at n l) ≡ cond (nat_eq n x) (Some v) (object_at n (e ∷ l))) (sym (level k e.0 is)) (twice (nat_eq n e.0))
      go Greater is later = ap (λ o. cond (nat_eq n e.0) (Some e.1) o) later ∙ before (nat_eq n e.0) refl (more k e.0 is)

  rising_with : (j : ℕ) (l : List (ℕ × A)) → j < k → Rising j l → Rising j (with_at k v l)
  unfolding Rising
  rising_with j [] below r = (below, tt)
  rising_with j (e ∷ l) below r =
      go (nat_cmp k e.0) refl (λ above. rising_with e.0 l above r.1)
    where
      go : (o : Ordering) → nat_cmp k e.0 ≡ o → (e.0 < k → Rising e.0 (with_at k v l)) → Rising j (match_ordering o ((k, v) ∷ e ∷ l) ((e.0, v) ∷ l) (e ∷ with_at k v l))
      go Less is later = (below, (less k e.0 is, r.1))
      go Equal is later = (r.0, r.1)
      go Greater is later = (r.0, later (more k e.0 is))

  rises_with : (l : List (ℕ × A)) → IsRising l → IsRising (with_at k v l)
  unfolding Rising IsRising
  rises_with [] r = tt
  rises_with (e ∷ l) r =
      go (nat_cmp k e.0) refl
    where
      go : (o : Ordering) → nat_cmp k e.0 ≡ o → IsRising (match_ordering o ((k, v) ∷ e ∷ l) ((e.0, v) ∷ l) (e ∷ with_at k v l))
      go Less is = (less k e.0 is, r)
      go Equal is = r
      go Greater is = rising_with e.0 l (more k e.0 is) r

  -- the order stays
  pub in_order-with_at : (l : List (ℕ × A)) → IsInOrder l → IsInOrder (with_at k v l)
  in_order-with_at l o = rises_in_order (with_at k v l) (rises_with l (in_order_rises l o))
