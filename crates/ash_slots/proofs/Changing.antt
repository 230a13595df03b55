-- Entries by number: what a change of one leaves.
use Rattle.std.proofs.Common.{◌≡◌, ℕ, Bool, true, false, cond, List, [], ◌∷◌, refl, sym, subst, ap, ◌∙◌, nat_eq, arith, Option, Some, None, length, suc, ◌+◌}
use Rattle.std.specs.Prelude.{IsSomeAnd, IsSome, sum_by}
use Rattle.std.specs.Option.{option_map, option_map_or}
use Rattle.std.specs.Map.{values_of}
use Rattle.std.proofs.lemmas.Bool.{eqb-true, eq-eqb}
use Rattle.std.proofs.lemmas.List.Sums.{sum_by-cons}
use Rattle.ash_host.specs.Objects.{object_at, numbers, IsInOrder}
use Rattle.ash_host.proofs.Order.{none_after, in_order_after, same_in_order}
use Rattle.ash_slots.specs.Store.{SlotEntry, AreStored, IsIn, change_in, change_at}

module _ {A : Type 0} where
  -- what is at each number after a change at one
  pub object_at-change : (n : ℕ) (f : A → A) (m : ℕ) (l : List (ℕ × A)) → object_at m (change_at n f l)
      ≡ cond (nat_eq n m) (option_map f (object_at m l)) (object_at m l)
  object_at-change n f m [] = go (nat_eq n m)
    where
      go : (b : Bool) → None ≡ cond {A = Option A} b None None
      go true = refl
      go false = refl
  object_at-change n f m (e ∷ l) =
      go (nat_eq m e.0) refl (object_at-change n f m l)
    where
      here : (b : Bool) → Some (cond b (f e.1) e.1) ≡ cond {A = Option A} b (Some (f e.1)) (Some e.1)
      here true = refl
      here false = refl

      go : (b : Bool) → nat_eq m e.0 ≡ b → object_at m (change_at n f l)
          ≡ cond (nat_eq n m) (option_map f (object_at m l)) (object_at m l)
          → cond b (Some (cond (nat_eq n e.0) (f e.1) e.1)) (object_at m (change_at n f l))
          ≡ cond (nat_eq n m) (option_map f (cond b (Some e.1) (object_at m l))) (cond b (Some e.1) (object_at m l))
      go true is later =
          let same : e.0 ≡ m = sym (eqb-true m e.0 is) in
          ap (λ (k : ℕ). Some (cond (nat_eq n k) (f e.1) e.1)) same ∙ here (nat_eq n m)
      go false is later = later

  -- the numbers stay
  pub numbers-change : (n : ℕ) (f : A → A) (l : List (ℕ × A)) → numbers (change_at n f l) ≡ numbers l
  numbers-change n f [] = refl
  numbers-change n f (e ∷ l) = ap (λ (ns : List ℕ). e.0 ∷ ns) (numbers-change n f l)

  pub length-change : (n : ℕ) (f : A → A) (l : List (ℕ × A)) → length (change_at n f l) ≡ length l
  length-change n f [] = refl
  length-change n f (e ∷ l) = ap suc (length-change n f l)

  pub in_order-change : (n : ℕ) (f : A → A) (l : List (ℕ × A)) → IsInOrder l → IsInOrder (change_at n f l)
  in_order-change n f l o = rw (numbers-change n f l) o

  -- where nothing is nothing changes
  pub change_none : (n : ℕ) (f : A → A) (l : List (ℕ × A)) → object_at n l ≡ None → change_at n f l ≡ l
  change_none n f [] h = refl
  change_none n f (e ∷ l) h =
      go (nat_eq n e.0) refl (λ later. change_none n f l later)
    where
      go : (b : Bool) → nat_eq n e.0 ≡ b → (object_at n l ≡ None → change_at n f l ≡ l)
          → (e.0, cond b (f e.1) e.1) ∷ change_at n f l ≡ e ∷ l
      go true is later = let here = sym (ap (λ (b : Bool). cond b (Some e.1) (object_at n l)) is) ∙ h in absurd (cc)
      go false is later =
          ap (λ (t : List (ℕ × A)). e ∷ t) (later (sym (ap (λ (b : Bool). cond b (Some e.1) (object_at n l)) is) ∙ h))

  -- a number is there once
  pub none_later : (n : ℕ) (e : ℕ × A) (l : List (ℕ × A)) → IsInOrder (e ∷ l) → nat_eq n e.0 ≡ true
      → object_at n l ≡ None
  none_later n e l o same = go (object_at n l) refl
    where
      go : (v : Option A) → object_at n l ≡ v → object_at n l ≡ None
      go None is = is
      go (Some x) is = let not_here = none_after e l n o (subst (λ (v : Option A). IsSome v) (sym is) refl) in absurd (cc)

  -- a sum over the values, after a change
  pub sum-change : (g : A → ℕ) (n : ℕ) (f : A → A) (l : List (ℕ × A)) → IsInOrder l
      → sum_by g (values_of (change_at n f l)) + option_map_or g (object_at n l) 0
      ≡ sum_by g (values_of l) + option_map_or (λ x. g (f x)) (object_at n l) 0
  sum-change g n f [] o = refl
  sum-change g n f (e ∷ l) o =
      go (nat_eq n e.0) refl (sum-change g n f l (in_order_after e l o))
    where
      was : sum_by g (values_of (e ∷ l)) ≡ g e.1 + sum_by g (values_of l)
      was = sum_by-cons g e.1 (values_of l)

      go : (b : Bool) → nat_eq n e.0 ≡ b → sum_by g (values_of (change_at n f l)) + option_map_or g (object_at n l) 0
          ≡ sum_by g (values_of l) + option_map_or (λ x. g (f x)) (object_at n l) 0
          → sum_by g (cond b (f e.1) e.1 ∷ values_of (change_at n f l))
          + option_map_or g (cond b (Some e.1) (object_at n l)) 0 ≡ sum_by g (e.1 ∷ values_of l) + option_map_or
          (λ x. g (f x)) (cond b (Some e.1) (object_at n l)) 0
      go true is later =
          let same = ap (λ (t : List (ℕ × A)). sum_by g (values_of t)) (change_none n f l (none_later n e l o is)) in
          omega (arith, was, same, sum_by-cons g (f e.1) (values_of (change_at n f l)))
      go false is later = omega (arith, was, later, sum_by-cons g e.1 (values_of (change_at n f l)))

  -- a change that leaves what is summed leaves the sum
  pub sum_same-change : (g : A → ℕ) (n : ℕ) (f : A → A) → ((x : A) → g (f x) ≡ g x) → (l : List (ℕ × A))
      → sum_by g (values_of (change_at n f l)) ≡ sum_by g (values_of l)
  sum_same-change g n f same [] = refl
  sum_same-change g n f same (e ∷ l) =
      go (nat_eq n e.0) (sum_same-change g n f same l)
    where
      go : (b : Bool) → sum_by g (values_of (change_at n f l)) ≡ sum_by g (values_of l)
          → sum_by g (cond b (f e.1) e.1 ∷ values_of (change_at n f l)) ≡ sum_by g (e.1 ∷ values_of l)
      go true later =
          omega (
            arith,
            later,
            same e.1,
            sum_by-cons g (f e.1) (values_of (change_at n f l)),
            sum_by-cons g e.1
                (values_of l),
          )
      go false later =
          omega (arith, later, sum_by-cons g e.1 (values_of (change_at n f l)), sum_by-cons g e.1 (values_of l))

module _ {B : Type 0} where
  -- what is at each number after a change in a slot
  pub object_at-change_in : (slot : ℕ) (f : SlotEntry B → SlotEntry B) (m : ℕ) (l : List (ℕ × SlotEntry B))
      → object_at m (change_in slot f l) ≡ option_map (λ object. cond (nat_eq slot object.slot) (f object) object)
      (object_at m l)
  object_at-change_in slot f m [] = refl
  object_at-change_in slot f m (e ∷ l) =
      go (nat_eq m e.0) (object_at-change_in slot f m l)
    where
      go : (b : Bool) → object_at m (change_in slot f l)
          ≡ option_map (λ object. cond (nat_eq slot object.slot) (f object) object) (object_at m l)
          → cond b (Some (cond (nat_eq slot (e.1).slot) (f e.1) e.1)) (object_at m (change_in slot f l))
          ≡ option_map (λ object. cond (nat_eq slot object.slot) (f object) object)
          (cond b (Some e.1) (object_at m l))
      go true later = refl
      go false later = later

  pub numbers-change_in : (slot : ℕ) (f : SlotEntry B → SlotEntry B) (l : List (ℕ × SlotEntry B))
      → numbers (change_in slot f l) ≡ numbers l
  numbers-change_in slot f [] = refl
  numbers-change_in slot f (e ∷ l) = ap (λ (ns : List ℕ). e.0 ∷ ns) (numbers-change_in slot f l)

  -- a change in a slot is one at the number of the object there
  pub change_in_is : (slot n : ℕ) (f : SlotEntry B → SlotEntry B) (l : List (ℕ × SlotEntry B)) → AreStored l → IsIn n slot l
      → change_in slot f l ≡ change_at n f l
  change_in_is slot n f l s here =
      same_in_order (change_in slot f l) (change_at n f l) (rw (numbers-change_in slot f l) s.in_order) (in_order-change n f l s.in_order) (λ m. object_at-change_in slot f m l ∙ each m (object_at m l) refl ∙ sym (object_at-change n f m l))
    where
      each : (m : ℕ) (o : Option (SlotEntry B)) → object_at m l ≡ o
          → option_map (λ object. cond (nat_eq slot object.slot) (f object) object) o
          ≡ cond (nat_eq n m) (option_map f o) o
      each m None is = none (nat_eq n m)
        where
          none : (b : Bool) → None ≡ cond {A = Option (SlotEntry B)} b None None
          none true = refl
          none false = refl
      each m (Some x) is = some (nat_eq n m) refl (nat_eq slot x.slot) refl
        where
          in_slot : x.slot ≡ slot → IsIn m slot l
          in_slot at = subst (λ (o : Option (SlotEntry B)). IsSomeAnd o (λ object. object.slot ≡ slot)) (sym is) at

          some : (b : Bool) → nat_eq n m ≡ b → (c : Bool) → nat_eq slot x.slot ≡ c → Some (cond c (f x) x) ≡ cond {A = Option (SlotEntry B)} b (Some (f x)) (Some x)
          some true p true q = refl
          some false p false q = refl
          some true p false q =
              let n_is : n ≡ m = eqb-true n m p in
              let at : x.slot ≡ slot = subst (λ (o : Option (SlotEntry B)). IsSomeAnd o (λ object. object.slot ≡ slot)) (ap (λ (k : ℕ). object_at k l) n_is ∙ is) here in
              let yes = eq-eqb slot x.slot (sym at) in
              absurd (cc)
          some false p true q =
              let same = s.apart slot n m here (in_slot (sym (eqb-true slot x.slot q))) in
              let yes = eq-eqb n m same in
              absurd (cc)

module _ {A : Type 0} where
  pub change_id : (n : ℕ) (l : List (ℕ × A)) → change_at n (λ x. x) l ≡ l
  change_id n [] = refl
  change_id n (e ∷ l) =
      ap (λ (x : A). (e.0, x) ∷ change_at n (λ x. x) l) (go (nat_eq n e.0)) ∙ ap (λ (t : List (ℕ × A)). e ∷ t) (change_id n l)
    where
      go : (b : Bool) → cond b e.1 e.1 ≡ e.1
      go true = refl
      go false = refl

  -- a change over another is one
  pub change_over : (n : ℕ) (f g h : A → A) → ((x : A) → f (g x) ≡ h x) → (l : List (ℕ × A))
      → change_at n f (change_at n g l) ≡ change_at n h l
  change_over n f g h same [] = refl
  change_over n f g h same (e ∷ l) =
      ap (λ (x : A). (e.0, x) ∷ change_at n f (change_at n g l)) (go (nat_eq n e.0)) ∙ ap (λ (t : List (ℕ × A)). (e.0, cond (nat_eq n e.0) (h e.1) e.1) ∷ t) (change_over n f g h same l)
    where
      go : (b : Bool) → cond b (f (cond b (g e.1) e.1)) (cond b (g e.1) e.1) ≡ cond b (h e.1) e.1
      go true = same e.1
      go false = refl
