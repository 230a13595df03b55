-- The counts that are stored, and what a contract sees of them.
use Rattle.std.proofs.Common.{◌≡◌, ℕ, Bool, true, false, cond, List, [], ◌∷◌, refl, sym, subst, ap, ◌∙◌, nat_eq, arith, Option, Some, None, length, ◌+◌, ◌-◌, ◌≤◌, ◌<◌, ◌^◌, ◌*◌}
use Rattle.std.specs.Prelude.{IsSome, IfSome}
use Rattle.std.specs.Option.{option_map, option_map_or}
use Rattle.std.specs.Map.{values_of}
use Rattle.std.proofs.lemmas.Bool.{eqb-true, eq-eqb}
use Rattle.std.proofs.lemmas.List.Sums.{sum_by-cons, count_by-le-length}
use Rattle.ash_host.specs.Objects.{object_at, numbers, IsInOrder, handles_to, is_handle_to}
use Rattle.ash_host.proofs.Order.{none_after, in_order_after, same_in_order}
use Rattle.ash_slots.specs.Bodies.{words_of}
use Rattle.ash_slots.specs.Store.{SlotEntry, change_at}
use Rattle.ash_objects.specs.Table.{Living, fields_holding, held, unheld}
use Rattle.ash_objects.specs.Counting.{holding, fields_in, living, living_among, living_in, AreCounted, AreGiven}
use Rattle.ash_slots.specs.SlotCounting.{counted, incremented, decremented}
use Rattle.ash_slots.proofs.Changing.{object_at-change, length-change, in_order-change, sum_same-change}

module _ {B : Type 0} where
  -- what a contract sees at a number
  pub object_at-living : (n : ℕ) (all l : List (ℕ × SlotEntry B)) → object_at n (living_among all l)
      ≡ option_map (living (fields_in n all)) (object_at n l)
  object_at-living n all [] = refl
  object_at-living n all (e ∷ l) =
      go (nat_eq n e.0) refl (object_at-living n all l)
    where
      go : (b : Bool) → nat_eq n e.0 ≡ b → object_at n (living_among all l)
          ≡ option_map (living (fields_in n all)) (object_at n l)
          → cond b (Some (living (fields_in e.0 all) e.1)) (object_at n (living_among all l))
          ≡ option_map (living (fields_in n all)) (cond b (Some e.1) (object_at n l))
      go true is later = ap (λ (k : ℕ). Some (living (fields_in k all) e.1)) (sym (eqb-true n e.0 is))
      go false is later = later

  pub numbers-living : (all l : List (ℕ × SlotEntry B)) → numbers (living_among all l) ≡ numbers l
  numbers-living all [] = refl
  numbers-living all (e ∷ l) = ap (λ (ns : List ℕ). e.0 ∷ ns) (numbers-living all l)

  pub fields-living : (n : ℕ) (all l : List (ℕ × SlotEntry B)) → fields_holding n (living_among all l) ≡ fields_in n l
  fields-living n all [] = refl
  fields-living n all (e ∷ l) =
      let a = sum_by-cons (λ (object : Living B). handles_to n (words_of object.body)) (living (fields_in e.0 all) e.1) (values_of (living_among all l)) in
      let b = sum_by-cons (holding n) e.1 (values_of l) in
      omega (arith, a, b, fields-living n all l)

  -- what a contract sees of two stores differs at one number only
  pub view_change : (old new : List (ℕ × SlotEntry B)) (n : ℕ) (f : Living B → Living B) → IsInOrder old → IsInOrder new
      → ((m : ℕ) → option_map (living (fields_in m new)) (object_at m new)
      ≡ cond (nat_eq n m) (option_map f (option_map (living (fields_in m old)) (object_at m old)))
      (option_map (living (fields_in m old)) (object_at m old))) → living_in new ≡ change_at n f (living_in old)
  view_change old new n f o p each =
      same_in_order (living_in new) (change_at n f (living_in old)) (rw (numbers-living new new) p) (in_order-change n f (living_in old) (rw (numbers-living old old) o))
      (λ m. object_at-living m new new ∙ each m ∙ sym (object_at-change n f m (living_in old) ∙ ap (λ (v : Option (Living B)). cond (nat_eq n m) (option_map f v) v) (object_at-living m old old)))

  -- what the words of an object hold is at most their number, and so for all
  pub fields_small : (n : ℕ) (l : List (ℕ × SlotEntry B)) → IsInOrder l
      → ((m : ℕ) → IfSome (object_at m l) (λ object. length (words_of (object.item).body) ≤ 4096))
      → fields_in n l ≤ 4096 * length l
  fields_small n [] o short = omega arith
  fields_small n (e ∷ l) o short =
      let here : length (words_of (e.1.item).body) ≤ 4096 = subst (λ (v : Option (SlotEntry B)). IfSome v (λ object. length (words_of (object.item).body) ≤ 4096)) (ap (λ (b : Bool). cond b (Some e.1) (object_at e.0 l)) (eq-eqb e.0 e.0 refl)) (short e.0) in
      let some = count_by-le-length (is_handle_to n) (words_of (e.1.item).body) in
      let later = fields_small n l (in_order_after e l o) (λ m. tail m (object_at m l) refl) in
      let both = sum_by-cons (holding n) e.1 (values_of l) in
      omega (arith, here, some, later, both)
    where
      tail : (m : ℕ) (v : Option (SlotEntry B)) → object_at m l ≡ v
          → IfSome (object_at m l) (λ object. length (words_of (object.item).body) ≤ 4096)
      tail m None is =
          subst (λ (v : Option (SlotEntry B)). IfSome v (λ object. length (words_of (object.item).body) ≤ 4096))
          (sym is) tt
      tail m (Some x) is =
          let apart = none_after e l m o (subst (λ (v : Option (SlotEntry B)). IsSome v) (sym is) refl) in
          subst (λ (v : Option (SlotEntry B)). IfSome v (λ object. length (words_of (object.item).body) ≤ 4096)) (ap (λ (b : Bool). cond b (Some e.1) (object_at m l)) apart) (short m)

  -- no count comes near what the code can hold
  pub counted_fits : (n : ℕ) (l : List (ℕ × SlotEntry B)) → IsInOrder l → AreCounted l → counted n l ≤ 2 ^ 127 + 2 ^ 24
  counted_fits n l o s = omega (arith, s.bounded n, s.few, fields_small n l o s.short)

  -- the count that is stored is the one that a contract sees
  pub count_is : (n : ℕ) (l : List (ℕ × SlotEntry B)) → AreCounted l
      → option_map_or (λ object. object.holds) (object_at n (living_in l)) 0 + fields_holding n (living_in l)
      ≡ counted n l
  count_is n l s =
      go (object_at n l) refl
    where
      go : (o : Option (SlotEntry B)) → object_at n l ≡ o
          → option_map_or (λ object. object.holds) (object_at n (living_in l)) 0 + fields_holding n (living_in l)
          ≡ counted n l
      go None is =
          let view = ap (λ (v : Option (Living B)). option_map_or (λ object. object.holds) v 0) (object_at-living n l l ∙ ap (λ (v : Option (SlotEntry B)). option_map (living (fields_in n l)) v) is) in
          let mine = ap (λ (v : Option (SlotEntry B)). option_map_or (λ object. (object.item).count) v 0) is in
          omega (arith, view, mine, fields-living n l l, s.covered n)
      go (Some p) is =
          let view = ap (λ (v : Option (Living B)). option_map_or (λ object. object.holds) v 0) (object_at-living n l l ∙ ap (λ (v : Option (SlotEntry B)). option_map (living (fields_in n l)) v) is) in
          let mine = ap (λ (v : Option (SlotEntry B)). option_map_or (λ object. (object.item).count) v 0) is in
          omega (arith, view, mine, fields-living n l l, s.covered n)

  -- the count at each number, after a change at one
  pub counted-change : (n : ℕ) (f : SlotEntry B → SlotEntry B) (m : ℕ) (l : List (ℕ × SlotEntry B))
      → counted m (change_at n f l)
      ≡ option_map_or (λ object. (object.item).count)
      (cond (nat_eq n m) (option_map f (object_at m l)) (object_at m l)) 0
  counted-change n f m l =
      ap (λ (v : Option (SlotEntry B)). option_map_or (λ object. (object.item).count) v 0) (object_at-change n f m l)

  -- what is true of each object stays so where a change keeps it
  pub each-change : (P : SlotEntry B → Type 0) (n : ℕ) (f : SlotEntry B → SlotEntry B) (l : List (ℕ × SlotEntry B))
      → ((p : SlotEntry B) → object_at n l ≡ Some p → P p → P (f p)) → ((m : ℕ) → IfSome (object_at m l) P) → (m : ℕ)
      → IfSome (object_at m (change_at n f l)) P
  each-change P n f l keeps each m =
      subst (λ (v : Option (SlotEntry B)). IfSome v P) (sym (object_at-change n f m l)) (go (nat_eq n m) refl (object_at m l) refl (each m))
    where
      go : (b : Bool) → nat_eq n m ≡ b → (o : Option (SlotEntry B)) → object_at m l ≡ o → IfSome o P
          → IfSome (cond b (option_map f o) o) P
      go true p None is h = tt
      go true p (Some x) is h = keeps x (ap (λ (k : ℕ). object_at k l) (eqb-true n m p) ∙ is) h
      go false p o is h = h

  -- counting once more
  module _ (n : ℕ) (l : List (ℕ × SlotEntry B)) (o : IsInOrder l) (s : AreCounted l) where
    more_fields : (m : ℕ) → fields_in m (change_at n incremented l) ≡ fields_in m l
    more_fields m = sum_same-change (holding m) n incremented (λ x. refl) l

    less_fields : (m : ℕ) → fields_in m (change_at n decremented l) ≡ fields_in m l
    less_fields m = sum_same-change (holding m) n decremented (λ x. refl) l

    -- a hold
    pub view_more : living_in (change_at n incremented l) ≡ change_at n held (living_in l)
    view_more =
        view_change l (change_at n incremented l) n held o (in_order-change n incremented l o)
        (λ m. ap (λ (k : ℕ). option_map (living k) (object_at m (change_at n incremented l))) (more_fields m) ∙ ap (λ (v : Option (SlotEntry B)). option_map (living (fields_in m l)) v) (object_at-change n incremented m l) ∙ each m (nat_eq n m) (object_at m l) refl)
      where
        each : (m : ℕ) (b : Bool) (v : Option (SlotEntry B)) → object_at m l ≡ v
            → option_map (living (fields_in m l)) (cond b (option_map incremented v) v)
            ≡ cond b (option_map held (option_map (living (fields_in m l)) v)) (option_map (living (fields_in m l)) v)
        each m true None is = refl
        each m false v is = refl
        each m true (Some p) is =
            let mine = ap (λ (v : Option (SlotEntry B)). option_map_or (λ object. (object.item).count) v 0) is in
            let holds : (p.item).count + 1 - fields_in m l ≡ ((p.item).count - fields_in m l) + 1 = omega (arith, mine, s.covered m) in
            ap (λ (k : ℕ). Some (record { slot = p.slot; holds = k; touched = (p.item).touched; body = (p.item).body })) holds

    -- an undone hold
    pub view_less : living_in (change_at n decremented l) ≡ change_at n unheld (living_in l)
    view_less =
        view_change l (change_at n decremented l) n unheld o (in_order-change n decremented l o)
        (λ m. ap (λ (k : ℕ). option_map (living k) (object_at m (change_at n decremented l))) (less_fields m) ∙ ap (λ (v : Option (SlotEntry B)). option_map (living (fields_in m l)) v) (object_at-change n decremented m l) ∙ each m (nat_eq n m) (object_at m l))
      where
        each : (m : ℕ) (b : Bool) (v : Option (SlotEntry B))
            → option_map (living (fields_in m l)) (cond b (option_map decremented v) v)
            ≡ cond b (option_map unheld (option_map (living (fields_in m l)) v))
            (option_map (living (fields_in m l)) v)
        each m true None = refl
        each m false v = refl
        each m true (Some p) =
            let holds : ((p.item).count - 1) - fields_in m l ≡ ((p.item).count - fields_in m l) - 1 = omega arith in
            ap (λ (k : ℕ). Some (record { slot = p.slot; holds = k; touched = (p.item).touched; body = (p.item).body })) holds

    -- one count more, and the others
    more_counts : (m : ℕ) → (counted m l ≤ counted m (change_at n incremented l))
        × (counted m (change_at n incremented l) ≤ counted m l + 1)
        × (nat_eq n m ≡ false → counted m (change_at n incremented l) ≡ counted m l)
    more_counts m =
        let at = counted-change n incremented m l in go (nat_eq n m) refl (object_at m l) refl at
      where
        go : (b : Bool) → nat_eq n m ≡ b → (v : Option (SlotEntry B)) → object_at m l ≡ v
            → counted m (change_at n incremented l)
            ≡ option_map_or (λ object. (object.item).count) (cond b (option_map incremented v) v) 0
            → (counted m l ≤ counted m (change_at n incremented l))
            × (counted m (change_at n incremented l) ≤ counted m l + 1)
            × (nat_eq n m ≡ false → counted m (change_at n incremented l) ≡ counted m l)
        go true p None is at = let mine = ap (λ (v : Option (SlotEntry B)). option_map_or (λ object. (object.item).count) v 0) is in (omega (arith, at, mine), omega (arith, at, mine), λ no. absurd (cc))
        go true p (Some x) is at = let mine = ap (λ (v : Option (SlotEntry B)). option_map_or (λ object. (object.item).count) v 0) is in (omega (arith, at, mine), omega (arith, at, mine), λ no. absurd (cc))
        go false p v is at = let mine = ap (λ (v : Option (SlotEntry B)). option_map_or (λ object. (object.item).count) v 0) is in (omega (arith, at, mine), omega (arith, at, mine), λ no. omega (arith, at, mine))

    pub sound_more : counted n l < fields_in n l + 2 ^ 127 → AreCounted (change_at n incremented l)
    sound_more below = record {
      covered = λ m. omega (arith, more_fields m, (more_counts m).0, s.covered m);
      bounded = λ m. bound m (nat_eq n m) refl;
      waiting =
          each-change (λ object. (object.item).count ≡ 0 → object.waiting ≡ true) n incremented l
          (λ p is h none. absurd (omega arith)) s.waiting;
      short = each-change (λ object. length (words_of (object.item).body) ≤ 4096) n incremented l (λ p is h. h) s.short;
      few = omega (arith, length-change n incremented l, s.few);
    }
      where
        bound : (m : ℕ) (b : Bool) → nat_eq n m ≡ b
            → counted m (change_at n incremented l) ≤ fields_in m (change_at n incremented l) + 2 ^ 127
        bound m true p =
            let same = ap (λ (k : ℕ). counted k l) (eqb-true n m p) in
            let fields = ap (λ (k : ℕ). fields_in k l) (eqb-true n m p) in
            omega (arith, same, fields, more_fields m, (more_counts m).1, below)
        bound m false p = omega (arith, more_fields m, (more_counts m).2 p, s.bounded m)

    less_counts : (m : ℕ) → (counted m (change_at n decremented l) ≤ counted m l)
        × (counted m l ≤ counted m (change_at n decremented l) + 1)
        × (nat_eq n m ≡ false → counted m (change_at n decremented l) ≡ counted m l)
    less_counts m =
        let at = counted-change n decremented m l in go (nat_eq n m) refl (object_at m l) refl at
      where
        go : (b : Bool) → nat_eq n m ≡ b → (v : Option (SlotEntry B)) → object_at m l ≡ v
            → counted m (change_at n decremented l)
            ≡ option_map_or (λ object. (object.item).count) (cond b (option_map decremented v) v) 0
            → (counted m (change_at n decremented l) ≤ counted m l)
            × (counted m l ≤ counted m (change_at n decremented l) + 1)
            × (nat_eq n m ≡ false → counted m (change_at n decremented l) ≡ counted m l)
        go true p None is at = let mine = ap (λ (v : Option (SlotEntry B)). option_map_or (λ object. (object.item).count) v 0) is in (omega (arith, at, mine), omega (arith, at, mine), λ no. absurd (cc))
        go true p (Some x) is at = let mine = ap (λ (v : Option (SlotEntry B)). option_map_or (λ object. (object.item).count) v 0) is in (omega (arith, at, mine), omega (arith, at, mine), λ no. absurd (cc))
        go false p v is at = let mine = ap (λ (v : Option (SlotEntry B)). option_map_or (λ object. (object.item).count) v 0) is in (omega (arith, at, mine), omega (arith, at, mine), λ no. omega (arith, at, mine))

    less_waits : (p : SlotEntry B) → 0 < (p.item).count → ((p.item).count ≡ 0 → p.waiting ≡ true)
        → ((decremented p).item).count ≡ 0 → (decremented p).waiting ≡ true
    less_waits p some was none =
        let one : (p.item).count ≡ 1 = omega arith in
        ap (λ (b : Bool). cond b true p.waiting) (eq-eqb (p.item).count 1 one)

    pub sound_less : fields_in n l < counted n l → AreCounted (change_at n decremented l)
    sound_less below = record {
      covered = λ m. cover m (nat_eq n m) refl;
      bounded = λ m. omega (arith, less_fields m, (less_counts m).0, s.bounded m);
      waiting = each-change (λ object. (object.item).count ≡ 0 → object.waiting ≡ true) n decremented l (λ p is h. less_waits p (let mine = ap (λ (v : Option (SlotEntry B)). option_map_or (λ object. (object.item).count) v 0) is in omega (arith, mine, below)) h) s.waiting;
      short = each-change (λ object. length (words_of (object.item).body) ≤ 4096) n decremented l (λ p is h. h) s.short;
      few = omega (arith, length-change n decremented l, s.few);
    }
      where
        cover : (m : ℕ) (b : Bool) → nat_eq n m ≡ b
            → fields_in m (change_at n decremented l) ≤ counted m (change_at n decremented l)
        cover m true p =
            let same = ap (λ (k : ℕ). counted k l) (eqb-true n m p) in
            let fields = ap (λ (k : ℕ). fields_in k l) (eqb-true n m p) in
            omega (arith, same, fields, less_fields m, (less_counts m).1, below)
        cover m false p = omega (arith, less_fields m, (less_counts m).2 p, s.covered m)

  -- the numbers that were given stay given
  pub given-change : (last n : ℕ) (f : SlotEntry B → SlotEntry B) (l : List (ℕ × SlotEntry B)) → AreGiven last l
      → AreGiven last (change_at n f l)
  given-change last n f l given m lives =
      given m (go (nat_eq n m) (object_at m l) (subst (λ (v : Option (SlotEntry B)). IsSome v) (object_at-change n f m l) lives))
    where
      go : (b : Bool) (o : Option (SlotEntry B)) → IsSome (cond b (option_map f o) o) → IsSome o
      go true None h = h
      go true (Some x) h = refl
      go false o h = h
