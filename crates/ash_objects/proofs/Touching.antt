-- The marks of objects, and what clearing them leaves.
use Rattle.std.proofs.Common.{◌≡◌, ℕ, Bool, true, false, cond, List, [], ◌∷◌, refl, sym, subst, ap, ◌∙◌, nat_eq, arith, Option, Some, None, length, ◌≤◌, ◌<◌, ◌+◌, map, ◌||◌}
use Rattle.std.specs.Prelude.{IsSomeAnd, IsSome, IfSome, filter, is_some, sum_by}
use Rattle.std.specs.Option.{option_map}
use Rattle.std.specs.List.{Contains, AllByRecursion}
use Rattle.std.specs.List.Sorted.{IsStrictlyIncreasing, IsStrictlySortedBy}
use Rattle.std.specs.Ordering.{nat_cmp}
use Rattle.std.proofs.Common.{Less}
use Rattle.std.proofs.lemmas.Map.Keys.{sorted_from_strictly_increasing, IsStrictlyIncreasing-from_sorted}
use Rattle.std.specs.Map.{keys_of}
use Rattle.std.proofs.lemmas.Bool.{eqb-true, eq-eqb}
use Rattle.std.proofs.lemmas.List.Sums.{sum_by-cons}
use Rattle.ash_host.specs.Objects.{object_at, numbers, IsInOrder}
use Rattle.ash_host.specs.Reach.{is_among}
use Rattle.ash_host.proofs.Membership.{is_among-numbers}
use Rattle.ash_host.proofs.Order.{same_in_order, object_here, object_later, none_after, in_order_after}
use Rattle.ash_slots.specs.declared.entry.Occupant.{Occupant}
use Rattle.ash_slots.specs.Bodies.{words_of}
use Rattle.ash_slots.specs.Store.{SlotEntry, AreStored, IsIn, change_in, with_item, change_at}
use Rattle.ash_objects.specs.Table.{Living}
use Rattle.ash_objects.specs.Listing.{Marks, AreListed}
use Rattle.ash_objects.specs.Counting.{holding, fields_in, living, living_among, living_in, IsTable}
use Rattle.ash_slots.specs.SlotCounting.{counted}
use Rattle.ash_objects.specs.Marking.{settled_object, marked_in, NoneMarked, unmarked, unmark_all}
use Rattle.ash_slots.proofs.Changing.{object_at-change, length-change, in_order-change, sum_same-change, object_at-change_in, change_in_is, none_later, change_none}
use Rattle.ash_objects.proofs.Counts.{object_at-living, numbers-living, each-change, given-change}
use Rattle.ash_objects.proofs.Fields.{counted_same}
use Rattle.ash_objects.proofs.Marks.{object_at-mapped, in_order-mapped}
use Rattle.ash_slots.proofs.Steps.{change_same}

same_test : (a b : ℕ) → nat_eq a b ≡ nat_eq b a
same_test a b = go (nat_eq a b) (nat_eq b a) refl refl
  where
    go : (x y : Bool) → nat_eq a b ≡ x → nat_eq b a ≡ y → x ≡ y
    go true true p q = refl
    go false false p q = refl
    go true false p q = let yes = eq-eqb b a (sym (eqb-true a b p)) in absurd (cc)
    go false true p q = let yes = eq-eqb a b (sym (eqb-true b a q)) in absurd (cc)

module _ {B : Type 0} where
  cons_marked : (n : ℕ) (p : SlotEntry B) (rest : List (ℕ × SlotEntry B)) → marked_in ((n, p) ∷ rest)
      ≡ cond (p.item).touched (n ∷ marked_in rest) (marked_in rest)
  cons_marked n p rest = go (p.item).touched
    where
      go : (b : Bool) → keys_of
          (cond b ((n, p) ∷ filter (λ e. (e.1.item).touched) rest) (filter (λ e. (e.1.item).touched) rest))
          ≡ cond b (n ∷ marked_in rest) (marked_in rest)
      go true = refl
      go false = refl

  -- what is written in a slot is a change at a number
  pub unmarked_at : (slot n : ℕ) (l : List (ℕ × SlotEntry B)) (it : Occupant B) → AreStored l → IsIn n slot l → IsSomeAnd (object_at n l) (λ object. object.item ≡ it) → change_in slot (with_item (record { count = it.count; touched = false; body = it.body })) l ≡ change_at n unmarked l
  unmarked_at slot n l it s here mine =
      change_in_is slot n _ l s here
      ∙ change_same n _ unmarked l s.in_order (λ p is. ap (λ (i : Occupant B). with_item (record { count = i.count; touched = false; body = i.body }) p) (sym (subst (λ (v : Option (SlotEntry B)). IsSomeAnd v (λ object. object.item ≡ it)) is mine)))

  -- no object in a slot has a mark after it was cleared there
  pub clear_after : (slot : ℕ) (it : Occupant B) (l : List (ℕ × SlotEntry B)) → it.touched ≡ false → (m : ℕ)
      → IfSome (object_at m (change_in slot (with_item it) l)) (λ object. object.slot ≡ slot → (object.item).touched
      ≡ false)
  clear_after slot it l clear m =
      subst (λ (v : Option (SlotEntry B)). IfSome v (λ object. object.slot ≡ slot → (object.item).touched ≡ false)) (sym (object_at-change_in slot (with_item it) m l)) (go (object_at m l))
    where
      each : (p : SlotEntry B) (b : Bool) → nat_eq slot p.slot ≡ b → (cond b (with_item it p) p).slot ≡ slot
          → ((cond b (with_item it p) p).item).touched ≡ false
      each p true same at = clear
      each p false same at = let yes = eq-eqb slot p.slot (sym at) in absurd (cc)

      go : (v : Option (SlotEntry B))
          → IfSome (option_map (λ object. cond (nat_eq slot object.slot) (with_item it object) object) v)
          (λ object. object.slot ≡ slot → (object.item).touched ≡ false)
      go None = tt
      go (Some p) = each p (nat_eq slot p.slot) refl

  -- nor where there is no object
  pub clear_empty : (slot : ℕ) (l : List (ℕ × SlotEntry B)) → ((n : ℕ) → IsIn n slot l → ⊥) → (m : ℕ)
      → IfSome (object_at m l) (λ object. object.slot ≡ slot → (object.item).touched ≡ false)
  clear_empty slot l empty m = go (object_at m l) refl
    where
      go : (v : Option (SlotEntry B)) → object_at m l ≡ v
          → IfSome v (λ object. object.slot ≡ slot → (object.item).touched ≡ false)
      go None is = tt
      go (Some p) is =
          λ at. absurd (empty m (subst (λ (v : Option (SlotEntry B)). IsSomeAnd v (λ object. object.slot ≡ slot))
          (sym is) at))

  -- the marks that a contract sees
  pub marked_is : (all l : List (ℕ × SlotEntry B)) → keys_of (filter (λ e. (e.1).touched) (living_among all l))
      ≡ marked_in l
  marked_is all [] = refl
  marked_is all (e ∷ l) = go (e.1.item).touched (marked_is all l) ∙ sym (cons_marked e.0 e.1 l)
    where
      go : (b : Bool) → keys_of (filter (λ e. (e.1).touched) (living_among all l)) ≡ marked_in l
          → keys_of (cond b ((e.0, living (fields_in e.0 all) e.1) ∷ filter (λ e. (e.1).touched) (living_among all l))
          (filter (λ e. (e.1).touched) (living_among all l))) ≡ cond b (e.0 ∷ marked_in l) (marked_in l)
      go true later = ap (λ (ns : List ℕ). e.0 ∷ ns) later
      go false later = later

  -- clearing one mark keeps all but the mark
  unmark_table : (n : ℕ) (l : List (ℕ × SlotEntry B)) (last settled : ℕ) → IsTable l last settled
      → IsTable (change_at n unmarked l) last settled
  unmark_table n l last settled t = record {
    in_order = in_order-change n unmarked l t.in_order;
    counted = record {
      covered =
          λ m. omega (
            arith,
            sum_same-change (holding m) n unmarked (λ p. refl) l,
            counted_same n unmarked
                (λ p. refl) m l,
            t.counted.covered m,
          );
      bounded =
          λ m. omega (
            arith,
            sum_same-change (holding m) n unmarked (λ p. refl) l,
            counted_same n unmarked
                (λ p. refl) m l,
            t.counted.bounded m,
          );
      waiting = each-change (λ p. (p.item).count ≡ 0 → p.waiting ≡ true) n unmarked l (λ p is h. h) t.counted.waiting;
      short = each-change (λ p. length (words_of (p.item).body) ≤ 4096) n unmarked l (λ p is h. h) t.counted.short;
      few = omega (arith, length-change n unmarked l, t.counted.few);
    };
    given = given-change last n unmarked l t.given;
    cleared = t.cleared;
  }

  unmarked_table : (ns : List ℕ) (l : List (ℕ × SlotEntry B)) (last settled : ℕ) → IsTable l last settled
      → IsTable (unmark_all ns l) last settled
  unmarked_table [] l last settled t = t
  unmarked_table (n ∷ ns) l last settled t =
      unmarked_table ns (change_at n unmarked l) last settled (unmark_table n l last settled t)

  -- the table once the marks were cleared
  pub cleared_table : (ns : List ℕ) (l : List (ℕ × SlotEntry B)) (last settled : ℕ) → IsTable l last settled
      → IsTable (unmark_all ns l) last last
  cleared_table ns l last settled t = let u = unmarked_table ns l last settled t in record {
    in_order = u.in_order;
    counted = u.counted;
    given = u.given;
    cleared = omega arith;
  }

  unmarked_counted : (ns : List ℕ) (m : ℕ) (l : List (ℕ × SlotEntry B)) → counted m (unmark_all ns l) ≡ counted m l
  unmarked_counted [] m l = refl
  unmarked_counted (n ∷ ns) m l =
      unmarked_counted ns m (change_at n unmarked l) ∙ counted_same n unmarked (λ p. refl) m l

  unmarked_fields : (ns : List ℕ) (m : ℕ) (l : List (ℕ × SlotEntry B)) → fields_in m (unmark_all ns l) ≡ fields_in m l
  unmarked_fields [] m l = refl
  unmarked_fields (n ∷ ns) m l =
      unmarked_fields ns m (change_at n unmarked l) ∙ sum_same-change (holding m) n unmarked (λ p. refl) l

  unmarked_order : (ns : List ℕ) (l : List (ℕ × SlotEntry B)) → IsInOrder l → IsInOrder (unmark_all ns l)
  unmarked_order [] l o = o
  unmarked_order (n ∷ ns) l o = unmarked_order ns (change_at n unmarked l) (in_order-change n unmarked l o)

  -- what is at each number
  at_unmarked : (ns : List ℕ) (m : ℕ) (l : List (ℕ × SlotEntry B)) → object_at m (unmark_all ns l)
      ≡ cond (is_among ns m) (option_map unmarked (object_at m l)) (object_at m l)
  at_unmarked [] m l = refl
  at_unmarked (n ∷ ns) m l =
      at_unmarked ns m (change_at n unmarked l)
      ∙ ap (λ (v : Option (SlotEntry B)). cond (is_among ns m) (option_map unmarked v) v) (object_at-change n unmarked m l ∙ ap (λ (b : Bool). cond b (option_map unmarked (object_at m l)) (object_at m l)) (same_test n m))
      ∙ go (nat_eq m n) (is_among ns m) (object_at m l)
    where
      go : (b c : Bool) (v : Option (SlotEntry B)) → cond c (option_map unmarked (cond b (option_map unmarked v) v)) (cond b (option_map unmarked v) v) ≡ cond (b || c) (option_map unmarked v) v
      go true true None = refl
      go true true (Some p) = refl
      go true false v = refl
      go false c v = refl

  is_touched : Option (SlotEntry B) → Bool
  is_touched None = false
  is_touched (Some p) = (p.item).touched

  -- an object is among those that are marked where it has a mark
  among_marked : (m : ℕ) (l : List (ℕ × SlotEntry B)) → IsInOrder l
      → is_some (object_at m (filter (λ e. (e.1.item).touched) l)) ≡ is_touched (object_at m l)
  unfolding is_touched
  among_marked m [] o = refl
  among_marked m (e ∷ l) o =
      go (e.1.item).touched refl (nat_eq m e.0) refl (among_marked m l (in_order_after e l o))
    where
      rest : List (ℕ × SlotEntry B)
      rest = filter (λ e. (e.1.item).touched) l

      go : (t : Bool) → (e.1.item).touched ≡ t → (b : Bool) → nat_eq m e.0 ≡ b
          → is_some (object_at m (filter (λ e. (e.1.item).touched) l)) ≡ is_touched (object_at m l)
          → is_some (object_at m
          (cond t (e ∷ filter (λ e. (e.1.item).touched) l) (filter (λ e. (e.1.item).touched) l)))
          ≡ is_touched (cond b (Some e.1) (object_at m l))
      go true is true at later =
          ap (λ (b : Bool). is_some (cond b (Some e.1) (object_at m (filter (λ e. (e.1.item).touched) l)))) at
          ∙ sym is
      go true is false at later =
          ap (λ (b : Bool). is_some (cond b (Some e.1) (object_at m (filter (λ e. (e.1.item).touched) l)))) at ∙ later
      go false is true at later = later ∙ ap is_touched (none_later m e l o at) ∙ sym is
      go false is false at later = later

  -- clearing the marks of all that are marked clears them of all
  at_cleared : (m : ℕ) (l : List (ℕ × SlotEntry B)) → IsInOrder l → object_at m (unmark_all (marked_in l) l)
      ≡ option_map unmarked (object_at m l)
  unfolding is_touched
  at_cleared m l o =
      at_unmarked (marked_in l) m l
      ∙ ap (λ (b : Bool). cond b (option_map unmarked (object_at m l)) (object_at m l)) (is_among-numbers m (filter (λ e. (e.1.item).touched) l) ∙ among_marked m l o)
      ∙ go (object_at m l)
    where
      each : (b : Bool) (p : SlotEntry B) → (p.item).touched ≡ b → cond b (Some (unmarked p)) (Some p) ≡ Some (unmarked p)
      each true p is = refl
      each false p is = ap (λ (t : Bool). Some (record { slot = p.slot; waiting = p.waiting; item = record { count = (p.item).count; touched = t; body = (p.item).body } })) is

      go : (v : Option (SlotEntry B)) → cond (is_touched v) (option_map unmarked v) v ≡ option_map unmarked v
      go None = refl
      go (Some p) = each (p.item).touched p refl

  -- what a contract sees of it
  pub cleared_view : (l : List (ℕ × SlotEntry B)) → IsInOrder l → living_in (unmark_all (marked_in l) l)
      ≡ map (λ e. (e.0, settled_object e.1)) (living_in l)
  cleared_view l o =
      same_in_order (living_in (unmark_all (marked_in l) l)) (map (λ e. (e.0, settled_object e.1)) (living_in l)) (rw (numbers-living (unmark_all (marked_in l) l) (unmark_all (marked_in l) l)) (unmarked_order (marked_in l) l o)) (in_order-mapped settled_object (living_in l) (rw (numbers-living l l) o))
      (λ m.
      object_at-living m (unmark_all (marked_in l) l) (unmark_all (marked_in l) l)
      ∙ ap (λ (k : ℕ). option_map (living k) (object_at m (unmark_all (marked_in l) l))) (unmarked_fields (marked_in l) m l)
      ∙ ap (λ (v : Option (SlotEntry B)). option_map (living (fields_in m l)) v) (at_cleared m l o)
      ∙ go (fields_in m l) (object_at m l)
      ∙ sym (object_at-mapped settled_object m (living_in l) ∙ ap (λ (v : Option (Living B)). option_map settled_object v) (object_at-living m l l)))
    where
      go : (k : ℕ) (v : Option (SlotEntry B)) → option_map (living k) (option_map unmarked v)
          ≡ option_map settled_object (option_map (living k) v)
      go k None = refl
      go k (Some p) = refl

  -- one that had a mark was taken from those that have one
  pub marked_less : (f : ℕ → ℕ) (n : ℕ) (l : List (ℕ × SlotEntry B)) → IsInOrder l
      → IsSomeAnd (object_at n l) (λ object. (object.item).touched ≡ true) → sum_by f (marked_in l)
      ≡ f n + sum_by f (marked_in (change_at n unmarked l))
  marked_less f n [] o h = absurd h
  marked_less f n (e ∷ l) o h =
      go (nat_eq n e.0) refl h (λ later. marked_less f n l (in_order_after e l o) later)
    where
      now : (b : Bool) → marked_in ((e.0, cond b (unmarked e.1) e.1) ∷ change_at n unmarked l)
          ≡ cond ((cond b (unmarked e.1) e.1).item).touched (e.0 ∷ marked_in (change_at n unmarked l))
          (marked_in (change_at n unmarked l))
      now b = cons_marked e.0 (cond b (unmarked e.1) e.1) (change_at n unmarked l)

      flagged : (t : Bool) (rest others : List ℕ) → sum_by f rest ≡ f n + sum_by f others
          → sum_by f (cond t (e.0 ∷ rest) rest) ≡ f n + sum_by f (cond t (e.0 ∷ others) others)
      flagged true rest others h = omega (arith, sum_by-cons f e.0 rest, sum_by-cons f e.0 others, h)
      flagged false rest others h = h

      go : (b : Bool) → nat_eq n e.0 ≡ b
          → IsSomeAnd (cond b (Some e.1) (object_at n l)) (λ object. (object.item).touched ≡ true)
          → (IsSomeAnd (object_at n l) (λ object. (object.item).touched ≡ true) → sum_by f (marked_in l)
          ≡ f n + sum_by f (marked_in (change_at n unmarked l))) → sum_by f (marked_in (e ∷ l))
          ≡ f n + sum_by f (marked_in ((e.0, cond b (unmarked e.1) e.1) ∷ change_at n unmarked l))
      go true is h later =
          let n_is : n ≡ e.0 = eqb-true n e.0 is in
          let was : marked_in (e ∷ l) ≡ e.0 ∷ marked_in l = cons_marked e.0 e.1 l ∙ ap (λ (t : Bool). cond t (e.0 ∷ marked_in l) (marked_in l)) h in
          let none = change_none n unmarked l (none_later n e l o is) in
          let same : marked_in (change_at n unmarked l) ≡ marked_in l = ap (λ (k : List (ℕ × SlotEntry B)). marked_in k) none in
          let value = ap f n_is in
          let sums = sum_by-cons f e.0 (marked_in l) in
          let one = ap (λ (k : List ℕ). sum_by f k) was in
          let two = ap (λ (k : List ℕ). sum_by f k) (now true ∙ same) in
          omega (arith, value, sums, one, two)
      go false is h later =
          let rest = later h in
          let one = ap (λ (k : List ℕ). sum_by f k) (cons_marked e.0 e.1 l) in
          let two = ap (λ (k : List ℕ). sum_by f k) (now false) in
          let both = flagged (e.1.item).touched (marked_in l) (marked_in (change_at n unmarked l)) rest in
          omega (arith, one, two, both)

  -- where no object has a mark none is named
  pub none_marked : (l : List (ℕ × SlotEntry B)) → IsInOrder l → NoneMarked l → marked_in l ≡ []
  none_marked [] o none = refl
  none_marked (e ∷ l) o none =
      cons_marked e.0 e.1 l ∙ ap (λ (t : Bool). cond t (e.0 ∷ marked_in l) (marked_in l)) here ∙ none_marked l (in_order_after e l o) (λ m. after m (object_at m l) refl)
    where
      here : (e.1.item).touched ≡ false
      here =
          subst (λ (v : Option (SlotEntry B)). IfSome v (λ object. (object.item).touched ≡ false)) (object_here e l)
          (none e.0)

      after : (m : ℕ) (v : Option (SlotEntry B)) → object_at m l ≡ v
          → IfSome (object_at m l) (λ object. (object.item).touched ≡ false)
      after m None is =
          subst (λ (v : Option (SlotEntry B)). IfSome v (λ object. (object.item).touched ≡ false)) (sym is) tt
      after m (Some p) is =
          let apart = none_after e l m o (subst (λ (v : Option (SlotEntry B)). IsSome v) (sym is) refl) in
          subst (λ (v : Option (SlotEntry B)). IfSome v (λ object. (object.item).touched ≡ false)) (object_later m e l apart) (none m)

  -- one mark less to clear
  pub alike_less : (n m : ℕ) (l : List (ℕ × SlotEntry B)) → option_map unmarked (object_at m (change_at n unmarked l))
      ≡ option_map unmarked (object_at m l)
  alike_less n m l = ap (λ (v : Option (SlotEntry B)). option_map unmarked v) (object_at-change n unmarked m l) ∙ go (nat_eq n m) (object_at m l)
    where
      go : (b : Bool) (v : Option (SlotEntry B)) → option_map unmarked (cond b (option_map unmarked v) v)
          ≡ option_map unmarked v
      go false v = refl
      go true None = refl
      go true (Some p) = refl

  -- all marks were cleared
  pub all_cleared : (old now : List (ℕ × SlotEntry B)) → IsInOrder old → IsInOrder now → NoneMarked now
      → ((m : ℕ) → option_map unmarked (object_at m now) ≡ option_map unmarked (object_at m old))
      → now ≡ unmark_all (marked_in old) old
  all_cleared old now o p none alike =
      same_in_order now (unmark_all (marked_in old) old) p (unmarked_order (marked_in old) old o)
      (λ m. go (object_at m now) (none m) ∙ alike m ∙ sym (at_cleared m old o))
    where
      go : (v : Option (SlotEntry B)) → IfSome v (λ object. (object.item).touched ≡ false) → v ≡ option_map unmarked v
      go None h = refl
      go (Some x) h = ap (λ (t : Bool). Some (record { slot = x.slot; waiting = x.waiting; item = record { count = (x.item).count; touched = t; body = (x.item).body } })) h

  marked_above : (j : ℕ) (l : List (ℕ × SlotEntry B)) → AllByRecursion (λ y. nat_cmp j y ≡ Less) (numbers l)
      → AllByRecursion (λ y. nat_cmp j y ≡ Less) (marked_in l)
  marked_above j [] h = tt
  marked_above j (e ∷ l) h = subst (λ (ns : List ℕ). AllByRecursion (λ y. nat_cmp j y ≡ Less) ns) (sym (cons_marked e.0 e.1 l)) (go (e.1.item).touched (marked_above j l h.1))
    where
      go : (b : Bool) → AllByRecursion (λ y. nat_cmp j y ≡ Less) (marked_in l)
          → AllByRecursion (λ y. nat_cmp j y ≡ Less) (cond b (e.0 ∷ marked_in l) (marked_in l))
      go true rest = (h.0, rest)
      go false rest = rest

  marked_sorted : (l : List (ℕ × SlotEntry B)) → IsStrictlySortedBy nat_cmp (numbers l)
      → IsStrictlySortedBy nat_cmp (marked_in l)
  unfolding IsStrictlySortedBy
  marked_sorted [] h = tt
  marked_sorted (e ∷ l) h = subst (λ (ns : List ℕ). IsStrictlySortedBy nat_cmp ns) (sym (cons_marked e.0 e.1 l)) (go (e.1.item).touched (marked_sorted l h.1))
    where
      go : (b : Bool) → IsStrictlySortedBy nat_cmp (marked_in l)
          → IsStrictlySortedBy nat_cmp (cond b (e.0 ∷ marked_in l) (marked_in l))
      go true rest = (marked_above e.0 l h.0, rest)
      go false rest = rest

  -- the numbers of those that have a mark rise
  pub marked_rise : (l : List (ℕ × SlotEntry B)) → IsInOrder l → IsStrictlyIncreasing (marked_in l)
  marked_rise l o =
      IsStrictlyIncreasing-from_sorted (marked_in l) (marked_sorted l (sorted_from_strictly_increasing (numbers l) o))

  -- where no slot is listed no object has a mark
  pub none_listed : (l : List (ℕ × SlotEntry B)) (marks : Marks) → marks.slots ≡ [] → AreListed l marks → NoneMarked l
  none_listed l marks none h m = go (object_at m l) (h m)
    where
      flag : (p : SlotEntry B) → ((p.item).touched ≡ true → Contains marks.slots p.slot) → (b : Bool)
          → (p.item).touched ≡ b → (p.item).touched ≡ false
      flag p h false is = is
      flag p h true is = let here = subst (λ (k : List ℕ). Contains k p.slot) none (h is) in absurd (let k = here.1 in omega (arith, k))

      go : (v : Option (SlotEntry B))
          → IfSome v (λ object. (object.slot < marks.room)
          × ((object.item).touched ≡ true → Contains marks.slots object.slot))
          → IfSome v (λ object. (object.item).touched ≡ false)
      go None h = tt
      go (Some p) h = flag p h.1 (p.item).touched refl
