-- What an object that comes or goes leaves of the others.
use Rattle.std.proofs.Common.{◌≡◌, ◌≢◌, ℕ, Bool, true, false, cond, List, [], ◌∷◌, ◌++◌, refl, sym, subst, ap, ◌∙◌, nat_eq, arith, Option, Some, None, length, suc, ◌+◌, ◌≤◌, get_or, set, count_by, not}
use Rattle.std.specs.Prelude.{IsSomeAnd, IsSome, IfSome, is_some}
use Rattle.std.specs.List.{Contains}
use Rattle.std.specs.Map.{remove_entry}
use Rattle.std.specs.Ordering.{nat_cmp, match_ordering}
use Rattle.std.specs.declared.cmp.Ordering.{Ordering}
use Rattle.std.proofs.Common.{Less, Equal, Greater}
use Rattle.std.proofs.lemmas.Bool.{eqb-true, eq-eqb}
use Rattle.std.proofs.lemmas.List.Sums.{sum_by-set, sum_by-cons}
use Rattle.std.proofs.lemmas.List.{length-append}
use Rattle.std.proofs.lemmas.List.Elements.{Contains-append_left, Contains-append_right}
use Rattle.slab.specs.Slab.{Slab, get, slab_len, Updates}
use Rattle.slab.proofs.SlabLemmas.{ContainsKey-within}
use Rattle.ash_host.specs.Objects.{object_at, with_at, IsInOrder}
use Rattle.ash_host.proofs.Order.{in_order_after, in_order-with_at, object_at-with_at}
use Rattle.ash_slots.specs.declared.entry.Entry.{Entry}
use Rattle.ash_slots.specs.Store.{SlotEntry, placed, with_entry, placed_in, ArePlaced, IsStored, is_unlisted}
use Rattle.ash_slots.proofs.Removing.{level, not_first, none_later, object_at-removed}

apart_from : (x y : ℕ) → nat_eq x y ≡ false → y ≢ x
apart_from x y h = λ same. let yes = eq-eqb x y (sym same) in cc

-- lists of slots that are alike for a test that an empty slot fails have as many that pass
pub count_same : {A : Type 0} (p : Option A → Bool) → p None ≡ false → (xs ys : List (Option A))
    → ((k : ℕ) → p (get_or xs k None) ≡ p (get_or ys k None)) → count_by p xs ≡ count_by p ys
count_same p none [] [] h = refl
count_same p none [] (y ∷ ys) h =
    let here : p y ≡ false = sym (h 0) ∙ none in
    let one = ap (λ (b : Bool). cond {A = ℕ} b 1 0) here in
    omega (arith, count_same p none [] ys (λ k. h (suc k)), sum_by-cons (λ o. cond {A = ℕ} (p o) 1 0) y ys, one)
count_same p none (x ∷ xs) [] h =
    let here : p x ≡ false = h 0 ∙ none in
    let one = ap (λ (b : Bool). cond {A = ℕ} b 1 0) here in
    omega (arith, count_same p none xs [] (λ k. h (suc k)), sum_by-cons (λ o. cond {A = ℕ} (p o) 1 0) x xs, one)
count_same p none (x ∷ xs) (y ∷ ys) h =
    let one = ap (λ (b : Bool). cond {A = ℕ} b 1 0) (h 0) in
    omega (arith, count_same p none xs ys (λ k. h (suc k)), sum_by-cons (λ o. cond {A = ℕ} (p o) 1 0) x xs, sum_by-cons (λ o. cond {A = ℕ} (p o) 1 0) y ys, one)

module _ {B : Type 0} where
  -- those that aren't listed are some of all
  pub unlisted_some : (xs : List (Option (Entry B))) → count_by is_unlisted xs ≤ count_by is_some xs
  unlisted_some [] = omega arith
  unlisted_some (x ∷ xs) =
      let a = sum_by-cons (λ (o : Option (Entry B)). cond {A = ℕ} (is_unlisted o) 1 0) x xs in
      let b = sum_by-cons (λ (o : Option (Entry B)). cond {A = ℕ} (is_some o) 1 0) x xs in
      let c = at_most x in
      omega (arith, a, b, c, unlisted_some xs)
    where
      flag : (w : Bool) → cond {A = ℕ} (not w) 1 0 ≤ 1
      flag true = omega arith
      flag false = omega arith

      at_most : (o : Option (Entry B)) → cond {A = ℕ} (is_unlisted o) 1 0 ≤ cond {A = ℕ} (is_some o) 1 0
      at_most None = omega arith
      at_most (Some entry) = flag entry.waiting

  -- the slabs differ in one slot only
  pub record SameBut (old new : Slab (Entry B)) (slot : ℕ) : Type 0 where
    pub same : (s : ℕ) → s ≢ slot → get new s ≡ get old s

  module _ {old new : Slab (Entry B)} {slot : ℕ} (others : SameBut old new slot) where
    -- an entry in another slot is where it was
    at_other : (e : ℕ × ℕ) → (e.1 ≢ slot) → IsSomeAnd (get old e.1) (λ entry. entry.number ≡ e.0)
        → (rest rest' : List (ℕ × SlotEntry B)) → rest' ≡ rest
        → (with_entry e.0 e.1 (get new e.1) rest' ≡ with_entry e.0 e.1 (get old e.1) rest)
        × IsSomeAnd (get new e.1) (λ entry. entry.number ≡ e.0)
    at_other e apart p rest rest' same = (
      ap (λ (o : Option (Entry B)). with_entry e.0 e.1 o rest') (others.same e.1 apart) ∙ ap (λ (l : List (ℕ × SlotEntry B)). with_entry e.0 e.1 (get old e.1) l) same,
      subst (λ (o : Option (Entry B)). IsSomeAnd o (λ entry. entry.number ≡ e.0)) (sym (others.same e.1 apart)) p,
    )

    -- where the slot was empty all stay
    pub all_stay : get old slot ≡ None → (index : List (ℕ × ℕ)) → ArePlaced old index
        → (placed_in new index ≡ placed_in old index) × ArePlaced new index
    all_stay none [] a = (refl, tt)
    all_stay none (e ∷ index) a =
        let later = all_stay none index a.1 in
        let apart : e.1 ≢ slot = λ same. empty e.0 (get old e.1) a.0 (ap (λ (s : ℕ). get old s) same ∙ none) in
        let here = at_other e apart a.0 (placed_in old index) (placed_in new index) later.0 in
        (here.0, (here.1, later.1))
      where
        empty : (n : ℕ) (o : Option (Entry B)) → IsSomeAnd o (λ entry. entry.number ≡ n) → o ≡ None → ⊥
        empty n None h is = h
        empty n (Some x) h is = cc

    module _ (n : ℕ) (entry : Entry B) (was : get old slot ≡ Some entry) (number : entry.number ≡ n) where
      apart_by_number : (e : ℕ × ℕ) → IsSomeAnd (get old e.1) (λ x. x.number ≡ e.0) → nat_eq n e.0 ≡ false → e.1 ≢ slot
      apart_by_number e p differs = λ same.
          let there : get old e.1 ≡ Some entry = ap (λ (s : ℕ). get old s) same ∙ was in
          let its : entry.number ≡ e.0 = subst (λ (o : Option (Entry B)). IsSomeAnd o (λ x. x.number ≡ e.0)) there p in
          let yes = eq-eqb n e.0 (sym number ∙ its) in
          cc

      -- the entries of other numbers stay
      others_stay : (index : List (ℕ × ℕ)) → ArePlaced old index → object_at n index ≡ None
          → (placed_in new index ≡ placed_in old index) × ArePlaced new index
      others_stay [] a none = (refl, tt)
      others_stay (e ∷ index) a none =
          let first = not_first n e index none in
          let later = others_stay index a.1 first.1 in
          let here = at_other e (apart_by_number e a.0 first.0) a.0 (placed_in old index) (placed_in new index) later.0 in
          (here.0, (here.1, later.1))

      -- what is left once an object was taken from its slot
      pub removed_in : (index : List (ℕ × ℕ)) → IsInOrder index → ArePlaced old index
          → (placed_in new (remove_entry (nat_eq n) index) ≡ remove_entry (nat_eq n) (placed_in old index))
          × ArePlaced new (remove_entry (nat_eq n) index)
      removed_in [] o a = (refl, tt)
      removed_in (e ∷ index) o a =
          go (nat_eq n e.0) refl (get old e.1) refl a.0 (removed_in index (in_order_after e index o) a.1)
        where
          rest : List (ℕ × SlotEntry B)
          rest = placed_in old index

          Goal : Bool → Option (Entry B) → Type 0
          Goal b v =
              (placed_in new (cond b index (e ∷ remove_entry (nat_eq n) index))
              ≡ remove_entry (nat_eq n) (with_entry e.0 e.1 v rest))
              × ArePlaced new (cond b index (e ∷ remove_entry (nat_eq n) index))

          go : (b : Bool) → nat_eq n e.0 ≡ b → (v : Option (Entry B)) → get old e.1 ≡ v
              → IsSomeAnd v (λ x. x.number ≡ e.0)
              → (placed_in new (remove_entry (nat_eq n) index) ≡ remove_entry (nat_eq n) rest)
              × ArePlaced new (remove_entry (nat_eq n) index)
              → (placed_in new (cond b index (e ∷ remove_entry (nat_eq n) index))
              ≡ remove_entry (nat_eq n) (with_entry e.0 e.1 v rest))
              × ArePlaced new (cond b index (e ∷ remove_entry (nat_eq n) index))
          go b is None at p later = absurd p
          go true is (Some x) at p later =
              let tail = others_stay index a.1 (none_later n e index o is) in
              (tail.0 ∙ sym (ap (λ (b : Bool). cond b rest ((e.0, placed e.1 x) ∷ remove_entry (nat_eq n) rest)) is), tail.1)
          go false is (Some x) at p later =
              let here = at_other e (apart_by_number e a.0 is) a.0 (remove_entry (nat_eq n) rest) (placed_in new (remove_entry (nat_eq n) index)) later.0 in (
                here.0 ∙ ap (λ (v : Option (Entry B)). with_entry e.0 e.1 v (remove_entry (nat_eq n) rest)) at
                    ∙ sym (ap (λ (b : Bool). cond b rest ((e.0, placed e.1 x) ∷ remove_entry (nat_eq n) rest)) is),
                (here.1, later.1),
              )

    module _ (n : ℕ) (entry : Entry B) (was : get old slot ≡ None) (now : get new slot ≡ Some entry) (number : entry.number ≡ n) where
      new_here : (rest : List (ℕ × SlotEntry B)) → with_entry n slot (get new slot) rest ≡ (n, placed slot entry) ∷ rest
      new_here rest = ap (λ (o : Option (Entry B)). with_entry n slot o rest) now

      new_placed : IsSomeAnd (get new slot) (λ x. x.number ≡ n)
      new_placed = subst (λ (o : Option (Entry B)). IsSomeAnd o (λ x. x.number ≡ n)) (sym now) number

      -- what is once an object came into an empty slot
      pub inserted_in : (index : List (ℕ × ℕ)) → ArePlaced old index → object_at n index ≡ None
          → (placed_in new (with_at n slot index) ≡ with_at n (placed slot entry) (placed_in old index))
          × ArePlaced new (with_at n slot index)
      inserted_in [] a none = (new_here [], (new_placed, tt))
      inserted_in (e ∷ index) a none =
          go (nat_cmp n e.0) refl (get old e.1) refl a.0 (inserted_in index a.1 (not_first n e index none).1)
        where
          rest : List (ℕ × SlotEntry B)
          rest = placed_in old index

          stay : (placed_in new (e ∷ index) ≡ placed_in old (e ∷ index)) × ArePlaced new (e ∷ index)
          stay = all_stay was (e ∷ index) a

          apart : e.1 ≢ slot
          apart = λ same. occupied (get old e.1) a.0 (ap (λ (s : ℕ). get old s) same ∙ was)
            where
              occupied : (o : Option (Entry B)) → IsSomeAnd o (λ x. x.number ≡ e.0) → o ≡ None → ⊥
              occupied None h is = h
              occupied (Some x) h is = cc

          go : (b : Ordering) → nat_cmp n e.0 ≡ b → (v : Option (Entry B)) → get old e.1 ≡ v
              → IsSomeAnd v (λ x. x.number ≡ e.0)
              → (placed_in new (with_at n slot index) ≡ with_at n (placed slot entry) rest)
              × ArePlaced new (with_at n slot index)
              → (placed_in new (match_ordering b ((n, slot) ∷ e ∷ index) ((e.0, slot) ∷ index)
              (e ∷ with_at n slot index)) ≡ with_at n (placed slot entry) (with_entry e.0 e.1 v rest))
              × ArePlaced new (match_ordering b ((n, slot) ∷ e ∷ index) ((e.0, slot) ∷ index)
              (e ∷ with_at n slot index))
          go b is None at p later = absurd p
          go Less is (Some x) at p later =
              let as_was : placed_in new (e ∷ index) ≡ (e.0, placed e.1 x) ∷ rest = stay.0 ∙ ap (λ (v : Option (Entry B)). with_entry e.0 e.1 v rest) at in (
                new_here (placed_in new (e ∷ index)) ∙ ap (λ (l : List (ℕ × SlotEntry B)). (n, placed slot entry) ∷ l) as_was
                    ∙ sym (ap (λ (b : Ordering). match_ordering b ((n, placed slot entry) ∷ (e.0, placed e.1 x) ∷ rest) ((e.0, placed slot entry) ∷ rest) ((e.0, placed e.1 x) ∷ with_at n (placed slot entry) rest)) is),
                (new_placed, stay.1),
              )
          go Equal is (Some x) at p later = let first = not_first n e index none in let same = level n e.0 is in let both : true ≡ false = sym same ∙ first.0 in absurd (cc)
          go Greater is (Some x) at p later =
              let here = at_other e apart a.0 (with_at n (placed slot entry) rest) (placed_in new (with_at n slot index)) later.0 in (
                here.0 ∙ ap (λ (v : Option (Entry B)). with_entry e.0 e.1 v (with_at n (placed slot entry) rest)) at
                    ∙ sym (ap (λ (b : Ordering). match_ordering b ((n, placed slot entry) ∷ (e.0, placed e.1 x) ∷ rest) ((e.0, placed slot entry) ∷ rest) ((e.0, placed e.1 x) ∷ with_at n (placed slot entry) rest)) is),
                (here.1, later.1),
              )

  -- an object that came leaves all in order
  pub inserted_stored : (entries new : Slab (Entry B)) (index : List (ℕ × ℕ)) (idle : List ℕ) (small room slot n : ℕ)
      (entry : Entry B) → get entries slot ≡ None → Updates entries new slot (Some entry) → entry.number ≡ n
      → entry.waiting ≡ true → object_at n index ≡ None → length idle + slab_len entries + 1 ≤ room
      → IsStored entries index idle small → IsStored new (with_at n slot index) (idle ++ slot ∷ []) room
  inserted_stored entries new index idle small room slot n entry was u number waits none fits s =
      let others : SameBut entries new slot = record { same = u.others } in
      let same = count_same is_unlisted refl new.slots entries.slots (λ k. alike k (nat_eq slot k) refl) in
      let longer = length-append idle (slot ∷ []) in
      let some = unlisted_some entries.slots in
      record {
        in_order = in_order-with_at n slot index s.in_order;
        placed = (inserted_in others n entry was u.changed number index s.placed none).1;
        whole = λ k. led k (nat_eq slot k) refl;
        listed = λ k. each k (nat_eq slot k) refl;
        fits = omega (arith, same, longer, some, fits);
      }
    where
      alike : (k : ℕ) (b : Bool) → nat_eq slot k ≡ b → is_unlisted (get new k) ≡ is_unlisted (get entries k)
      alike k true is =
          let slot_is : slot ≡ k = eqb-true slot k is in
          let then : get entries k ≡ None = ap (λ (j : ℕ). get entries j) (sym slot_is) ∙ was in
          let now : get new k ≡ Some entry = ap (λ (j : ℕ). get new j) (sym slot_is) ∙ u.changed in
          ap is_unlisted now ∙ ap not waits ∙ sym (ap is_unlisted then)
      alike k false is = ap is_unlisted (u.others k (apart_from slot k is))

      led_to : (k : ℕ) (o : Option (Entry B)) → IfSome o (λ x. object_at x.number index ≡ Some k)
          → IfSome o (λ x. object_at x.number (with_at n slot index) ≡ Some k)
      led_to k None h = tt
      led_to k (Some x) h = object_at-with_at n slot x.number index ∙ go (nat_eq x.number n) refl
        where
          go : (b : Bool) → nat_eq x.number n ≡ b → cond b (Some slot) (object_at x.number index) ≡ Some k
          go true is = let nothing : object_at x.number index ≡ None = ap (λ (j : ℕ). object_at j index) (eqb-true x.number n is) ∙ none in let both : Some k ≡ None = sym h ∙ nothing in absurd (cc)
          go false is = h

      led : (k : ℕ) (b : Bool) → nat_eq slot k ≡ b
          → IfSome (get new k) (λ x. object_at x.number (with_at n slot index) ≡ Some k)
      led k true is =
          let slot_is : slot ≡ k = eqb-true slot k is in
          let here : object_at entry.number (with_at n slot index) ≡ Some slot =
          ap (λ (j : ℕ). object_at j (with_at n slot index)) number ∙ object_at-with_at n slot n index ∙ ap (λ (b : Bool). cond b (Some slot) (object_at n index)) (eq-eqb n n refl) in
          subst (λ (j : ℕ). IfSome (get new j) (λ x. object_at x.number (with_at n slot index) ≡ Some j)) slot_is
          (subst (λ (o : Option (Entry B)). IfSome o (λ x. object_at x.number (with_at n slot index) ≡ Some slot)) (sym u.changed) here)
      led k false is =
          subst (λ (o : Option (Entry B)). IfSome o (λ x. object_at x.number (with_at n slot index) ≡ Some k))
          (sym (u.others k (apart_from slot k is))) (led_to k (get entries k) (s.whole k))

      more : (k : ℕ) (o : Option (Entry B)) → IfSome o (λ x. x.waiting ≡ true → Contains idle k)
          → IfSome o (λ x. x.waiting ≡ true → Contains (idle ++ slot ∷ []) k)
      more k None h = tt
      more k (Some x) h = λ yes. Contains-append_left idle (slot ∷ []) k (h yes)

      each : (k : ℕ) (b : Bool) → nat_eq slot k ≡ b
          → IfSome (get new k) (λ x. x.waiting ≡ true → Contains (idle ++ slot ∷ []) k)
      each k true is =
          let slot_is : slot ≡ k = eqb-true slot k is in
          subst (λ (j : ℕ). IfSome (get new j) (λ x. x.waiting ≡ true → Contains (idle ++ slot ∷ []) j)) slot_is
          (subst (λ (o : Option (Entry B)). IfSome o (λ x. x.waiting ≡ true → Contains (idle ++ slot ∷ []) slot)) (sym u.changed) (λ yes. Contains-append_right idle (slot ∷ []) slot (0, omega arith, refl)))
      each k false is =
          subst (λ (o : Option (Entry B)). IfSome o (λ x. x.waiting ≡ true → Contains (idle ++ slot ∷ []) k))
          (sym (u.others k (apart_from slot k is))) (more k (get entries k) (s.listed k))

  -- an object that went leaves all in order
  pub removed_stored : (entries new : Slab (Entry B)) (index index' : List (ℕ × ℕ)) (idle : List ℕ) (room slot : ℕ)
      (entry : Entry B) → get entries slot ≡ Some entry → Updates entries new slot None
      → new.slots ≡ set entries.slots slot None → IsInOrder index' → index' ≡ remove_entry (nat_eq entry.number) index
      → IsStored entries index idle room → IsStored new index' idle room
  removed_stored entries new index index' idle room slot entry was u slots o is s =
      let others : SameBut entries new slot = record { same = u.others } in
      let within = ContainsKey-within entries slot (subst (λ (v : Option (Entry B)). IsSome v) (sym was) refl) in
      let sums = sum_by-set (λ (v : Option (Entry B)). cond {A = ℕ} (is_unlisted v) 1 0) entries.slots slot None None within in
      let count = ap (λ (l : List (Option (Entry B))). count_by is_unlisted l) slots in
      let fits = s.fits in
      record {
        in_order = o;
        placed =
            subst (λ (l : List (ℕ × ℕ)). ArePlaced new l) (sym is)
            (removed_in others entry.number entry was refl index s.in_order s.placed).1;
        whole = λ k. led k (nat_eq slot k) refl;
        listed = λ k. each k (nat_eq slot k) refl;
        fits = omega (arith, sums, count, fits);
      }
    where
      mine : object_at entry.number index ≡ Some slot
      mine = subst (λ (v : Option (Entry B)). IfSome v (λ x. object_at x.number index ≡ Some slot)) was (s.whole slot)

      led_to : (k : ℕ) → nat_eq slot k ≡ false → (v : Option (Entry B))
          → IfSome v (λ x. object_at x.number index ≡ Some k) → IfSome v (λ x. object_at x.number index' ≡ Some k)
      led_to k apart None h = tt
      led_to k apart (Some x) h = ap (λ (l : List (ℕ × ℕ)). object_at x.number l) is ∙ object_at-removed entry.number x.number index s.in_order ∙ go (nat_eq entry.number x.number) refl
        where
          go : (b : Bool) → nat_eq entry.number x.number ≡ b → cond b None (object_at x.number index) ≡ Some k
          go true same =
              let one : Some slot ≡ Some k = sym mine ∙ ap (λ (j : ℕ). object_at j index) (eqb-true entry.number x.number same) ∙ h in
              let slots : slot ≡ k = cc in
              let yes = eq-eqb slot k slots in
              absurd (cc)
          go false same = h

      led : (k : ℕ) (b : Bool) → nat_eq slot k ≡ b → IfSome (get new k) (λ x. object_at x.number index' ≡ Some k)
      led k true same =
          let slot_is : slot ≡ k = eqb-true slot k same in
          subst (λ (j : ℕ). IfSome (get new j) (λ x. object_at x.number index' ≡ Some j)) slot_is
          (subst (λ (v : Option (Entry B)). IfSome v (λ x. object_at x.number index' ≡ Some slot)) (sym u.changed) tt)
      led k false same =
          subst (λ (v : Option (Entry B)). IfSome v (λ x. object_at x.number index' ≡ Some k))
          (sym (u.others k (apart_from slot k same))) (led_to k same (get entries k) (s.whole k))

      each : (k : ℕ) (b : Bool) → nat_eq slot k ≡ b → IfSome (get new k) (λ x. x.waiting ≡ true → Contains idle k)
      each k true is =
          let slot_is : slot ≡ k = eqb-true slot k is in
          subst (λ (j : ℕ). IfSome (get new j) (λ x. x.waiting ≡ true → Contains idle j)) slot_is
          (subst (λ (v : Option (Entry B)). IfSome v (λ x. x.waiting ≡ true → Contains idle slot)) (sym u.changed) tt)
      each k false is =
          subst (λ (v : Option (Entry B)). IfSome v (λ x. x.waiting ≡ true → Contains idle k))
          (sym (u.others k (apart_from slot k is))) (s.listed k)

-- a list of no items
pub nothing_in : {A : Type 0} (l : List A) → length l ≡ 0 → l ≡ []
nothing_in [] h = refl
nothing_in (x ∷ l) h = cc

module _ {B : Type 0} where
  -- a slab that grew has the same entries
  pub placed_regrown : (entries : Slab (Entry B)) (capacity : ℕ) (index : List (ℕ × ℕ)) → placed_in (record entries { capacity = capacity }) index ≡ placed_in entries index
  placed_regrown entries capacity [] = refl
  placed_regrown entries capacity (e ∷ index) =
      ap (λ (l : List (ℕ × SlotEntry B)). with_entry e.0 e.1 (get entries e.1) l) (placed_regrown entries capacity index)

  still_placed_regrown : (entries : Slab (Entry B)) (capacity : ℕ) (index : List (ℕ × ℕ)) → ArePlaced entries index → ArePlaced (record entries { capacity = capacity }) index
  still_placed_regrown entries capacity [] a = tt
  still_placed_regrown entries capacity (e ∷ index) a = (a.0, still_placed_regrown entries capacity index a.1)

  pub stored_regrown : (entries new : Slab (Entry B)) (capacity : ℕ) (index : List (ℕ × ℕ)) (idle : List ℕ) (small room : ℕ) → new ≡ record entries { capacity = capacity } → small ≤ room → IsStored entries index idle small → IsStored new index idle room
  stored_regrown entries new capacity index idle small room is more s =
      subst (λ (k : Slab (Entry B)). IsStored k index idle room) (sym is)
      (let fits = s.fits in record {
        in_order = s.in_order;
        placed = still_placed_regrown entries capacity index s.placed;
        whole = s.whole;
        listed = s.listed;
        fits = omega (arith, fits, more);
      })
