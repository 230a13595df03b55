-- What a new object leaves of the table.
use Rattle.std.proofs.Common.{◌≡◌, ℕ, Bool, true, false, cond, List, [], ◌∷◌, refl, sym, subst, ap, ◌∙◌, nat_eq, arith, Option, Some, None, length, zero, suc, ◌+◌, ◌-◌, ◌≤◌, ◌<◌, ◌^◌, Less, Equal, Greater, get_or}
use Rattle.std.specs.Prelude.{IsSomeAnd, IsSome, IfSome, slice_get}
use Rattle.std.specs.Option.{option_map, option_map_or, unwrap_or}
use Rattle.std.specs.Ordering.{nat_cmp, match_ordering}
use Rattle.std.specs.declared.cmp.Ordering.{Ordering}
use Rattle.std.proofs.lemmas.Bool.{eqb-true, eq-eqb}
use Rattle.std.proofs.lemmas.Cmp.{nat_cmp_total}
use Rattle.std.proofs.lemmas.Map.Entries.{sum_by-insert_entry}
use Rattle.std.proofs.lemmas.Map.Keys.{sorted_from_strictly_increasing}
use Rattle.ash_host.specs.Objects.{object_at, numbers, IsInOrder, Lives, with_at, handle, handles_to}
use Rattle.ash_host.proofs.Order.{object_at-with_at, in_order-with_at, same_in_order}
use Rattle.ash_slots.specs.Bodies.{words_of}
use Rattle.ash_slots.specs.Store.{SlotEntry, IsIn}
use Rattle.ash_objects.specs.Table.{Living, Table, slot_of}
use Rattle.ash_objects.specs.Making.{new_object, with_new_object}
use Rattle.std.specs.List.{remove}
use Rattle.ash_slots.specs.declared.body.Body.{Body}
use Rattle.ash_slots.specs.declared.body.Body.TheVariants.{Host}
use Rattle.ash_objects.specs.Counting.{holding, fields_in, living_among, living_in, words_at, AllLive, refer_all, AreCounted, AreGiven, IsTable, face, face_at}
use Rattle.ash_slots.specs.SlotCounting.{counted}
use Rattle.ash_slots.proofs.Placing.{found_by_number}
use Rattle.ash_objects.proofs.Counts.{object_at-living, numbers-living, counted_fits}
use Rattle.ash_objects.proofs.Fields.{with_holds, living_face}
use Rattle.ash_objects.proofs.Referring.{all_face, all_fields, all_order, all_length, all_each, all_given, all_counted}

length-with_at : {A : Type 0} (n : ℕ) (v : A) (l : List (ℕ × A)) → length (with_at n v l) ≤ length l + 1
length-with_at n v [] = omega arith
length-with_at {A} n v (e ∷ l) =
    go (nat_cmp n e.0) (length-with_at n v l)
  where
    go : (b : Ordering) → length (with_at n v l) ≤ length l + 1
        → length (match_ordering b ((n, v) ∷ e ∷ l) ((e.0, v) ∷ l) (e ∷ with_at n v l)) ≤ suc (length l) + 1
    go Less later = omega arith
    go Equal later = omega arith
    go Greater later = omega (arith, later)

-- A new object under a number that is not in use yet, counted nowhere, and each object that its words refer to
-- counted once more.
module _ {B : Type 0} (n : ℕ) (p : SlotEntry B) (l : List (ℕ × SlotEntry B)) (o : IsInOrder l) (s : AreCounted l) (none : object_at n l ≡ None) (alive : AllLive l (words_of (p.item).body)) (fresh : (p.item).count ≡ 0) where
  at_new : (m : ℕ) → object_at m (with_at n p l) ≡ cond (nat_eq m n) (Some p) (object_at m l)
  at_new m = object_at-with_at n p m l

  -- where it is
  pub words_new : words_at n (with_at n p l) ≡ words_of (p.item).body
  words_new =
      ap (λ (v : Option (SlotEntry B)). option_map_or (λ object. words_of (object.item).body) v []) (at_new n
      ∙ ap (λ (b : Bool). cond b (Some p) (object_at n l)) (eq-eqb n n refl))

  pub slot_new : IsIn n p.slot (with_at n p l)
  slot_new =
      subst (λ (v : Option (SlotEntry B)). IsSomeAnd v (λ object. object.slot ≡ p.slot))
      (sym (at_new n ∙ ap (λ (b : Bool). cond b (Some p) (object_at n l)) (eq-eqb n n refl))) refl

  -- what lived lives
  alive_more : (h : Option ℕ) → IfSome h (Lives l) → IfSome h (Lives (with_at n p l))
  alive_more None h = tt
  alive_more (Some m) h = subst (λ (v : Option (SlotEntry B)). IsSome v) (sym (at_new m)) (go (nat_eq m n) (object_at m l) h)
    where
      go : (b : Bool) (v : Option (SlotEntry B)) → IsSome v → IsSome (cond b (Some p) v)
      go true v h = refl
      go false v h = h

  pub alive_new : AllLive (with_at n p l) (words_of (p.item).body)
  alive_new = λ k d within. alive_more (handle (get_or (words_of (p.item).body) k d)) (alive k d within)

  fields_new : (m : ℕ) → fields_in m (with_at n p l) ≡ fields_in m l + handles_to m (words_of (p.item).body)
  fields_new m =
      let sums = sum_by-insert_entry (holding m) nat_cmp_total l n p (sorted_from_strictly_increasing (numbers l) o) in
      let there = ap (λ (v : Option (SlotEntry B)). unwrap_or (option_map (holding m) v) 0) (found_by_number n l ∙ none) in
      omega (arith, sums, there)

  counted_new : (m : ℕ) → counted m (with_at n p l) ≡ counted m l
  counted_new m = ap (λ (v : Option (SlotEntry B)). option_map_or (λ object. (object.item).count) v 0) (at_new m) ∙ go (nat_eq m n) refl
    where
      go : (b : Bool) → nat_eq m n ≡ b
          → option_map_or (λ object. (object.item).count) (cond b (Some p) (object_at m l)) 0 ≡ counted m l
      go false is = refl
      go true is =
          let nothing : object_at m l ≡ None = ap (λ (k : ℕ). object_at k l) (eqb-true m n is) ∙ none in
          fresh ∙ sym (ap (λ (v : Option (SlotEntry B)). option_map_or (λ object. (object.item).count) v 0) nothing)

  -- no count comes near what the code can hold
  pub fits_new : (m : ℕ) → length (words_of (p.item).body) ≤ 4096
      → counted m (with_at n p l) + length (words_at n (with_at n p l)) < 2 ^ 128
  fits_new m short =
      let words = ap length words_new in
      let small = counted_fits m l o s in
      omega (arith, counted_new m, words, short, small)

  -- the objects once it is there
  abbrev pub after_new : List (ℕ × SlotEntry B)
  after_new = refer_all (words_of (p.item).body) (with_at n p l)

  count_after : (m : ℕ) → counted m (refer_all (words_of (p.item).body) (with_at n p l))
      ≡ counted m l + handles_to m (words_of (p.item).body)
  count_after m = omega (arith, all_counted (words_of (p.item).body) m (with_at n p l) alive_new, counted_new m)

  fields_after : (m : ℕ) → fields_in m (refer_all (words_of (p.item).body) (with_at n p l))
      ≡ fields_in m l + handles_to m (words_of (p.item).body)
  fields_after m = omega (arith, all_fields (words_of (p.item).body) m (with_at n p l), fields_new m)

  -- what a contract sees: one object more, which nothing holds
  pub view_new : (p.item).touched ≡ true → living_in (refer_all (words_of (p.item).body) (with_at n p l))
      ≡ with_at n (new_object p.slot (p.item).body) (living_in l)
  view_new touched =
      same_in_order (living_in after_new) (with_at n (new_object p.slot (p.item).body) (living_in l)) (rw (numbers-living after_new after_new) (all_order (words_of (p.item).body) (with_at n p l) (in_order-with_at n p l o))) (in_order-with_at n (new_object p.slot (p.item).body) (living_in l) (rw (numbers-living l l) o))
      (λ m.
      object_at-living m after_new after_new
      ∙ living_face m after_new (fields_in m after_new)
      ∙ ap (λ (v : Option (Living B)). option_map (with_holds (counted m after_new - fields_in m after_new)) v) (all_face (words_of (p.item).body) m (with_at n p l) ∙ ap (λ (v : Option (SlotEntry B)). option_map face v) (at_new m))
      ∙ ap (λ (k : ℕ). option_map (with_holds k) (option_map face (cond (nat_eq m n) (Some p) (object_at m l)))) (holds m)
      ∙ each m (nat_eq m n) refl
      ∙ ap (λ (v : Option (Living B)). cond (nat_eq m n) (Some (new_object p.slot (p.item).body)) v) (sym (object_at-living m l l ∙ living_face m l (fields_in m l)))
      ∙ sym (object_at-with_at n (new_object p.slot (p.item).body) m (living_in l)))
    where
      holds : (m : ℕ) → counted m after_new - fields_in m after_new ≡ counted m l - fields_in m l
      holds m = omega (arith, count_after m, fields_after m, s.covered m)

      here : (k : ℕ) → k ≡ 0 → with_holds k (face p) ≡ new_object p.slot (p.item).body
      here k is =
          ap (λ (h : ℕ). record { slot = p.slot; holds = h; touched = (p.item).touched; body = (p.item).body }) is
          ∙ ap (λ (t : Bool). record { slot = p.slot; holds = 0; touched = t; body = (p.item).body }) touched

      each : (m : ℕ) (b : Bool) → nat_eq m n ≡ b
          → option_map (with_holds (counted m l - fields_in m l)) (option_map face (cond b (Some p) (object_at m l)))
          ≡ cond b (Some (new_object p.slot (p.item).body))
          (option_map (with_holds (counted m l - fields_in m l)) (face_at m l))
      each m false is = refl
      each m true is =
          let nothing : object_at m l ≡ None = ap (λ (k : ℕ). object_at k l) (eqb-true m n is) ∙ none in
          let zero_count : counted m l ≡ 0 = ap (λ (v : Option (SlotEntry B)). option_map_or (λ object. (object.item).count) v 0) nothing in
          ap Some (here (counted m l - fields_in m l) (omega (arith, zero_count)))

  each_new : (P : SlotEntry B → Type 0) → P p → ((m : ℕ) → IfSome (object_at m l) P) → (m : ℕ)
      → IfSome (object_at m (with_at n p l)) P
  each_new P mine each m = subst (λ (v : Option (SlotEntry B)). IfSome v P) (sym (at_new m)) (go (nat_eq m n) (each m))
    where
      go : (b : Bool) → IfSome (object_at m l) P → IfSome (cond b (Some p) (object_at m l)) P
      go true h = mine
      go false h = h

  given_new : (last : ℕ) → AreGiven last l → last < n → AreGiven n (with_at n p l)
  given_new last given later m lives =
      go (nat_eq m n) refl (subst (λ (v : Option (SlotEntry B)). IsSome v) (at_new m) lives)
    where
      go : (b : Bool) → nat_eq m n ≡ b → IsSome (cond b (Some p) (object_at m l)) → (0 < m) × (m ≤ n)
      go true is h = let same = eqb-true m n is in (omega (arith, same, later), omega (arith, same))
      go false is h = let g = given m h in (g.0, let g1 = g.1 in omega (arith, g1, later))

  pub table_new : (last settled : ℕ) → AreGiven last l → settled ≤ last → p.waiting ≡ true
      → length (words_of (p.item).body) ≤ 4096 → length l < 4096 → last < n
      → IsTable (refer_all (words_of (p.item).body) (with_at n p l)) n settled
  table_new last settled given cleared waits short few later = record {
    in_order = all_order (words_of (p.item).body) (with_at n p l) (in_order-with_at n p l o);
    counted = record {
      covered = λ m. omega (arith, fields_after m, count_after m, s.covered m);
      bounded = λ m. omega (arith, fields_after m, count_after m, s.bounded m);
      waiting =
          all_each (λ x. (x.item).count ≡ 0 → x.waiting ≡ true) (words_of (p.item).body) (with_at n p l)
          (λ x h zero. absurd (omega arith)) (each_new (λ x. (x.item).count ≡ 0 → x.waiting ≡ true)
          (λ zero. waits) s.waiting);
      short =
          all_each (λ x. length (words_of (x.item).body) ≤ 4096) (words_of (p.item).body) (with_at n p l)
          (λ x h. h) (each_new (λ x. length (words_of (x.item).body) ≤ 4096) short s.short);
      few = let longer = length-with_at n p l in omega (arith, all_length (words_of (p.item).body) (with_at n p l), longer, few);
    };
    given = all_given n (words_of (p.item).body) (with_at n p l) (given_new last given later);
    cleared = omega (arith, cleared, later);
  }

-- a number above the last is new
pub absent : {B : Type 0} (l : List (ℕ × SlotEntry B)) (last n : ℕ) → AreGiven last l → last < n → object_at n l ≡ None
absent {B} l last n given later = go (object_at n l) refl
  where
    go : (v : Option (SlotEntry B)) → object_at n l ≡ v → object_at n l ≡ None
    go None is = is
    go (Some p) is = let g = given n (subst (λ (v : Option (SlotEntry B)). IsSome v) (sym is) refl) in let g1 = g.1 in absurd (omega (arith, g1, later))

-- a contract sees as many objects as there are
pub length-living : {B : Type 0} (all l : List (ℕ × SlotEntry B)) → length (living_among all l) ≡ length l
length-living all [] = refl
length-living all (e ∷ l) = ap suc (length-living all l)

-- what a look-up within a list finds
pub got : {A : Type 0} (xs : List A) (i : ℕ) (x : A) → i < length xs → x ≡ get_or xs i x → slice_get xs i ≡ Some x
got [] i x within is = absurd (omega arith)
got (y ∷ xs) zero x within is = ap Some (sym is)
got (y ∷ xs) (suc i) x within is = got xs i x (omega arith) is

-- what a box that is drawn leaves
pub drawn_is : {B : Type 0} (t : Table B) (n slot place : ℕ) (box : B) (objects : List (ℕ × Living B)) (pool : List B) → slice_get t.pool place ≡ Some box → n ≡ t.last + 1 → objects ≡ with_at n (new_object slot (Host box)) t.objects → pool ≡ remove t.pool place → IsSomeAnd (slice_get t.pool place) (λ box. IsSomeAnd (slot_of n (record t { objects = objects; pool = pool; last = n })) (λ slot. record t { objects = objects; pool = pool; last = n } ≡ record (with_new_object slot (Host box) t) { pool = remove t.pool place }))
drawn_is {B} t n slot place box objects pool there number put taken =
    rw (there, slot_is) final
  where
    slot_is : slot_of n (record t { objects = objects; pool = pool; last = n }) ≡ Some slot
    slot_is =
        ap (λ (l : List (ℕ × Living B)). option_map (λ object. object.slot) (object_at n l)) put
        ∙ ap (λ (v : Option (Living B)). option_map (λ object. object.slot) v) (object_at-with_at n (new_object slot (Host box)) n t.objects)
        ∙ ap (λ (b : Bool). option_map (λ object. object.slot) (cond b (Some (new_object slot (Host box))) (object_at n t.objects))) (eq-eqb n n refl)

    final : record t { objects = objects; pool = pool; last = n } ≡ record (with_new_object slot (Host box) t) { pool = remove t.pool place }
    final =
        ap (λ (l : List (ℕ × Living B)). record t { objects = l; pool = pool; last = n }) put
        ∙ ap (λ (p : List B). record t { objects = with_at n (new_object slot (Host box)) t.objects; pool = p; last = n }) taken
        ∙ ap (λ (k : ℕ). record t { objects = with_at k (new_object slot (Host box)) t.objects; pool = remove t.pool place; last = k }) number

-- what an object that is made leaves
pub made_is : {B : Type 0} (t : Table B) (n slot : ℕ) (body : Body B) (objects : List (ℕ × Living B)) → n ≡ t.last + 1 → objects ≡ with_at n (new_object slot body) t.objects → IsSomeAnd (slot_of n (record t { objects = objects; last = n })) (λ slot. record t { objects = objects; last = n } ≡ with_new_object slot body t)
made_is {B} t n slot body objects number put =
    rw slot_is final
  where
    slot_is : slot_of n (record t { objects = objects; last = n }) ≡ Some slot
    slot_is =
        ap (λ (l : List (ℕ × Living B)). option_map (λ object. object.slot) (object_at n l)) put
        ∙ ap (λ (v : Option (Living B)). option_map (λ object. object.slot) v) (object_at-with_at n (new_object slot body) n t.objects)
        ∙ ap (λ (b : Bool). option_map (λ object. object.slot) (cond b (Some (new_object slot body)) (object_at n t.objects))) (eq-eqb n n refl)

    final : record t { objects = objects; last = n } ≡ with_new_object slot body t
    final =
        ap (λ (l : List (ℕ × Living B)). record t { objects = l; last = n }) put
        ∙ ap (λ (k : ℕ). record t { objects = with_at k (new_object slot body) t.objects; last = k }) number
