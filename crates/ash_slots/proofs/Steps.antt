-- What the code does in a slot, as changes at a number.
use Rattle.std.proofs.Common.{◌≡◌, ℕ, Bool, true, false, cond, List, [], ◌∷◌, refl, sym, subst, ap, ◌∙◌, nat_eq, arith, Option, Some, None, ◌+◌, ◌-◌, ◌<◌}
use Rattle.std.specs.Prelude.{IsSomeAnd, ◌==◌, slice_set}
use Rattle.std.specs.Option.{option_map, option_map_or}
use Rattle.std.proofs.lemmas.Bool.{eqb-true, eq-eqb}
use Rattle.ash_host.specs.Objects.{object_at, IsInOrder}
use Rattle.ash_host.proofs.Order.{same_in_order}
use Rattle.ash_host.specs.declared.word.Word.{Word}
use Rattle.ash_slots.specs.declared.entry.Occupant.{Occupant}
use Rattle.ash_slots.specs.declared.body.Body.{Body}
use Rattle.ash_slots.specs.declared.body.Body.TheVariants.{Script, Array}
use Rattle.ash_slots.specs.declared.body.Script as scripts
use Rattle.ash_slots.specs.declared.body.Array as arrays
use Rattle.ash_slots.specs.Bodies.{with_word}
use Rattle.ash_slots.specs.Store.{SlotEntry, AreStored, IsIn, IsOccupied, change_in, with_item, with_waiting, change_at}
use Rattle.ash_slots.specs.SlotCounting.{counted, incremented, decremented, with_count, written}
use Rattle.ash_slots.proofs.Changing.{object_at-change, object_at-change_in, in_order-change, change_in_is}

module _ {A : Type 0} where
  -- changes that do the same to what is there are one
  pub change_same : (n : ℕ) (f g : A → A) (l : List (ℕ × A)) → IsInOrder l
      → ((x : A) → object_at n l ≡ Some x → f x ≡ g x) → change_at n f l ≡ change_at n g l
  change_same n f g l o same =
      same_in_order (change_at n f l) (change_at n g l) (in_order-change n f l o) (in_order-change n g l o) (λ m. object_at-change n f m l ∙ each m (nat_eq n m) refl (object_at m l) refl ∙ sym (object_at-change n g m l))
    where
      each : (m : ℕ) (b : Bool) → nat_eq n m ≡ b → (v : Option A) → object_at m l ≡ v → cond b (option_map f v) v
          ≡ cond b (option_map g v) v
      each m false p v is = refl
      each m true p None is = refl
      each m true p (Some x) is = ap Some (same x (ap (λ (k : ℕ). object_at k l) (eqb-true n m p) ∙ is))

module _ {B : Type 0} where
  -- what an object's item is, once the object is named
  item_is : (n : ℕ) (l : List (ℕ × SlotEntry B)) (it : Occupant B) → IsSomeAnd (object_at n l) (λ object. object.item ≡ it)
      → (p : SlotEntry B) → object_at n l ≡ Some p → p.item ≡ it
  item_is n l it h p is = subst (λ (v : Option (SlotEntry B)). IsSomeAnd v (λ object. object.item ≡ it)) is h

  -- the count of an object is that of its item
  pub counted_item : (n : ℕ) (l : List (ℕ × SlotEntry B)) (it : Occupant B)
      → IsSomeAnd (object_at n l) (λ object. object.item ≡ it) → counted n l ≡ it.count
  counted_item n l it h = go (object_at n l) h
    where
      go : (v : Option (SlotEntry B)) → IsSomeAnd v (λ object. object.item ≡ it)
          → option_map_or (λ object. (object.item).count) v 0 ≡ it.count
      go None h = absurd h
      go (Some p) h = ap (λ (i : Occupant B). i.count) h

  -- the items in a slot, before and after a change that leaves slots
  pub occupied-change : (slot s : ℕ) (f : SlotEntry B → SlotEntry B) (l : List (ℕ × SlotEntry B))
      → ((p : SlotEntry B) → (f p).slot ≡ p.slot) → IsOccupied slot l → IsOccupied slot (change_in s f l)
  occupied-change slot s f l keeps h =
      (h.0, subst (λ (v : Option (SlotEntry B)). IsSomeAnd v (λ object. object.slot ≡ slot)) (sym (object_at-change_in s f h.0 l)) (go (object_at h.0 l) h.1))
    where
      both : (b : Bool) (p : SlotEntry B) → p.slot ≡ slot → (cond b (f p) p).slot ≡ slot
      both true p is = keeps p ∙ is
      both false p is = is

      go : (v : Option (SlotEntry B)) → IsSomeAnd v (λ object. object.slot ≡ slot)
          → IsSomeAnd (option_map (λ object. cond (nat_eq s object.slot) (f object) object) v)
          (λ object. object.slot ≡ slot)
      go None h = h
      go (Some p) h = both (nat_eq s p.slot) p h

  -- two changes in one slot are one
  pub change_twice : (slot : ℕ) (f g : SlotEntry B → SlotEntry B) → ((p : SlotEntry B) → (f p).slot ≡ p.slot)
      → (l : List (ℕ × SlotEntry B)) → change_in slot g (change_in slot f l) ≡ change_in slot (λ p. g (f p)) l
  change_twice slot f g keeps [] = refl
  change_twice slot f g keeps (e ∷ l) =
      go (nat_eq slot (e.1).slot) refl (change_twice slot f g keeps l)
    where
      go : (b : Bool) → nat_eq slot (e.1).slot ≡ b → change_in slot g (change_in slot f l)
          ≡ change_in slot (λ p. g (f p)) l
          → (e.0, cond (nat_eq slot (cond b (f e.1) e.1).slot) (g (cond b (f e.1) e.1)) (cond b (f e.1) e.1))
          ∷ change_in slot g (change_in slot f l) ≡ (e.0, cond b (g (f e.1)) e.1) ∷ change_in slot (λ p. g (f p)) l
      go true is later =
          let at : nat_eq slot (f e.1).slot ≡ true = ap (λ (s : ℕ). nat_eq slot s) (keeps e.1) ∙ is in
          ap (λ (b : Bool). (e.0, cond b (g (f e.1)) (f e.1)) ∷ change_in slot g (change_in slot f l)) at ∙ ap (λ (t : List (ℕ × SlotEntry B)). (e.0, g (f e.1)) ∷ t) later
      go false is later =
          ap (λ (b : Bool). (e.0, cond b (g e.1) e.1) ∷ change_in slot g (change_in slot f l)) is ∙ ap (λ (t : List (ℕ × SlotEntry B)). (e.0, e.1) ∷ t) later

  module _ (slot n : ℕ) (l : List (ℕ × SlotEntry B)) (it : Occupant B) (s : AreStored l) (here : IsIn n slot l) (mine : IsSomeAnd (object_at n l) (λ object. object.item ≡ it)) where
    pub more_at : change_in slot (with_item (with_count (it.count + 1) it)) l ≡ change_at n incremented l
    more_at =
        change_in_is slot n _ l s here
        ∙ change_same n _ incremented l s.in_order (λ p is. ap (λ (i : Occupant B). with_item (with_count (i.count + 1) i) p) (sym (item_is n l it mine p is)))

    -- nothing is left
    pub none_at : 0 < it.count → it.count - 1 ≡ 0
        → change_in slot (with_waiting true) (change_in slot (with_item (with_count (it.count - 1) it)) l)
        ≡ change_at n decremented l
    none_at some none =
        change_twice slot (with_item (with_count (it.count - 1) it)) (with_waiting true) (λ p. refl) l
        ∙ change_in_is slot n _ l s here
        ∙ change_same n _ decremented l s.in_order (λ p is. each p (item_is n l it mine p is))
      where
        each : (p : SlotEntry B) → p.item ≡ it → with_waiting true (with_item (with_count (it.count - 1) it) p)
            ≡ decremented p
        each p is =
            let one : it.count ≡ 1 = omega arith in
            let test : (p.item).count == 1 ≡ true = eq-eqb (p.item).count 1 (ap (λ (i : Occupant B). i.count) is ∙ one) in
            ap (λ (i : Occupant B). record { slot = p.slot; waiting = true; item = with_count (i.count - 1) i }) (sym is)
            ∙ ap (λ (b : Bool). record { slot = p.slot; waiting = cond b true p.waiting; item = with_count ((p.item).count - 1) p.item }) (sym test)

    -- something is left
    pub some_at : (it.count - 1 ≡ 0 → ⊥) → change_in slot (with_item (with_count (it.count - 1) it)) l
        ≡ change_at n decremented l
    some_at some =
        change_in_is slot n _ l s here
        ∙ change_same n _ decremented l s.in_order (λ p is. each p (item_is n l it mine p is) ((p.item).count == 1) refl)
      where
        each : (p : SlotEntry B) → p.item ≡ it → (b : Bool) → (p.item).count == 1 ≡ b
            → with_item (with_count (it.count - 1) it) p ≡ decremented p
        each p is true test =
            let one : (p.item).count ≡ 1 = eqb-true (p.item).count 1 test in
            let same = ap (λ (i : Occupant B). i.count) is in
            absurd (some (omega arith))
        each p is false test =
            ap (λ (i : Occupant B). record { slot = p.slot; waiting = p.waiting; item = with_count (i.count - 1) i }) (sym is)
            ∙ ap (λ (b : Bool). record { slot = p.slot; waiting = cond b true p.waiting; item = with_count ((p.item).count - 1) p.item }) (sym test)

    -- a word was written
    pub written_at : (place : ℕ) (word : Word) (script : scripts.Script) (fields : List Word) → it.body ≡ Script script → fields ≡ slice_set script.fields place word → change_in slot (with_item (record { count = it.count; touched = true; body = Script (record script { fields = fields }) })) l ≡ change_at n (written place word) l
    written_at place word script fields is now =
        change_in_is slot n _ l s here
        ∙ change_same n _ (written place word) l s.in_order (λ p at. each p (item_is n l it mine p at))
      where
        body_is : Script (record script { fields = fields }) ≡ with_word place word it.body
        body_is =
            ap (λ (fs : List Word). Script (record script { fields = fs })) now
            ∙ sym (ap (λ (b : Body B). with_word place word b) is)

        each : (p : SlotEntry B) → p.item ≡ it → with_item (record { count = it.count; touched = true; body = Script (record script { fields = fields }) }) p ≡ written place word p
        each p same =
            ap (λ (b : Body B). with_item (record { count = it.count; touched = true; body = b }) p) body_is
            ∙ ap (λ (i : Occupant B). with_item (record { count = i.count; touched = true; body = with_word place word i.body }) p) (sym same)

    pub element_written : (place : ℕ) (word : Word) (array : arrays.Array) (elements : List Word) → it.body ≡ Array array → elements ≡ slice_set array.elements place word → change_in slot (with_item (record { count = it.count; touched = true; body = Array (record array { elements = elements }) })) l ≡ change_at n (written place word) l
    element_written place word array elements is now =
        change_in_is slot n _ l s here
        ∙ change_same n _ (written place word) l s.in_order (λ p at. each p (item_is n l it mine p at))
      where
        body_is : Array (record array { elements = elements }) ≡ with_word place word it.body
        body_is =
            ap (λ (es : List Word). Array (record array { elements = es })) now
            ∙ sym (ap (λ (b : Body B). with_word place word b) is)

        each : (p : SlotEntry B) → p.item ≡ it → with_item (record { count = it.count; touched = true; body = Array (record array { elements = elements }) }) p ≡ written place word p
        each p same =
            ap (λ (b : Body B). with_item (record { count = it.count; touched = true; body = b }) p) body_is
            ∙ ap (λ (i : Occupant B). with_item (record { count = i.count; touched = true; body = with_word place word i.body }) p) (sym same)

  -- the slot that a look-up gives has the object
  pub is_in_from : (n slot : ℕ) (l : List (ℕ × SlotEntry B)) → option_map (λ object. object.slot) (object_at n l)
      ≡ Some slot → IsIn n slot l
  is_in_from n slot l h = go (object_at n l) h
    where
      go : (v : Option (SlotEntry B)) → option_map (λ object. object.slot) v ≡ Some slot
          → IsSomeAnd v (λ object. object.slot ≡ slot)
      go None h = cc
      go (Some p) h = cc

  pub none_from : (n : ℕ) (l : List (ℕ × SlotEntry B)) → option_map (λ object. object.slot) (object_at n l) ≡ None
      → object_at n l ≡ None
  none_from n l h = go (object_at n l) h
    where
      go : (v : Option (SlotEntry B)) → option_map (λ object. object.slot) v ≡ None → v ≡ None
      go None h = refl
      go (Some p) h = absurd (cc)
