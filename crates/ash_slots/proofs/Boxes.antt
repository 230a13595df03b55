-- What a call of the host object in a slot leaves: its box, and nothing else.
use Rattle.std.proofs.Common.{◌≡◌, ℕ, true, List, sym, subst, ap, ◌∙◌, Option, Some, None}
use Rattle.std.specs.Prelude.{IsSomeAnd, IsSome}
use Rattle.std.specs.Option.{option_and_then}
use Rattle.ash_host.specs.Objects.{object_at}
use Rattle.ash_slots.specs.declared.entry.Occupant.{Occupant}
use Rattle.ash_slots.specs.declared.body.Body.TheVariants.{Script, Array, Host}
use Rattle.ash_slots.specs.declared.body.Script as scripts
use Rattle.ash_slots.specs.declared.body.Array as arrays
use Rattle.ash_slots.specs.Store.{SlotEntry, AreStored, IsIn, change_in, with_item, change_at}
use Rattle.ash_slots.specs.SlotResponses.{box_of, stored_box, boxed}
use Rattle.ash_slots.proofs.Changing.{change_in_is}
use Rattle.ash_slots.proofs.Steps.{change_same}

module _ {B : Type 0} where
  item_same : (n : ℕ) (l : List (ℕ × SlotEntry B)) (it : Occupant B) → IsSomeAnd (object_at n l) (λ object. object.item ≡ it)
      → (p : SlotEntry B) → object_at n l ≡ Some p → p.item ≡ it
  item_same n l it h p is = subst (λ (v : Option (SlotEntry B)). IsSomeAnd v (λ object. object.item ≡ it)) is h

  module _ (n : ℕ) (l : List (ℕ × SlotEntry B)) (it : Occupant B) (mine : IsSomeAnd (object_at n l) (λ object. object.item ≡ it)) where
    stored_is : stored_box n l ≡ box_of it.body
    stored_is = go (object_at n l) mine
      where
        go : (v : Option (SlotEntry B)) → IsSomeAnd v (λ object. object.item ≡ it)
            → option_and_then (λ object. box_of (object.item).body) v ≡ box_of it.body
        go None h = absurd h
        go (Some p) h = ap (λ (i : Occupant B). box_of i.body) h

    -- the box that is called is that of the number
    pub box_was : (box : B) → it.body ≡ Host box → stored_box n l ≡ Some box
    box_was box is = stored_is ∙ ap box_of is

    pub no_script : (script : scripts.Script) → it.body ≡ Script script → IsSome (stored_box n l) → ⊥
    no_script script is some =
        let none : stored_box n l ≡ None = stored_is ∙ ap box_of is in
        let no = subst (λ (v : Option B). IsSome v) none some in
        cc

    pub no_array : (array : arrays.Array) → it.body ≡ Array array → IsSome (stored_box n l) → ⊥
    no_array array is some =
        let none : stored_box n l ≡ None = stored_is ∙ ap box_of is in
        let no = subst (λ (v : Option B). IsSome v) none some in
        cc

    pub boxed_at : (slot : ℕ) (s : AreStored l) (here : IsIn n slot l) (after : B) → change_in slot (with_item (record { count = it.count; touched = true; body = Host after })) l ≡ change_at n (boxed after) l
    boxed_at slot s here after =
        change_in_is slot n _ l s here
        ∙ change_same n _ (boxed after) l s.in_order (λ p at. ap (λ (i : Occupant B). with_item (record { count = i.count; touched = true; body = Host after }) p) (sym (item_same n l it mine p at)))
