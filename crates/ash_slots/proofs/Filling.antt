-- What is written to the elements of the array in a slot.
use Rattle.std.proofs.Common.{◌≡◌, ℕ, true, List, refl, sym, subst, ap, ◌∙◌, Option, Some, None}
use Rattle.std.specs.Prelude.{IsSomeAnd}
use Rattle.std.specs.Option.{option_and_then}
use Rattle.ash_host.specs.declared.word.Word.{Word}
use Rattle.ash_host.specs.Objects.{object_at}
use Rattle.ash_slots.specs.declared.entry.Occupant.{Occupant}
use Rattle.ash_slots.specs.declared.body.Body.{Body}
use Rattle.ash_slots.specs.declared.body.Body.TheVariants.{Array}
use Rattle.ash_slots.specs.declared.body.Array as arrays
use Rattle.ash_slots.specs.SlotArrays.{array_of, with_words, stored_array, refilled}
use Rattle.ash_slots.specs.Store.{SlotEntry, AreStored, IsIn, change_in, with_item, change_at}
use Rattle.ash_slots.proofs.Changing.{change_in_is, change_id}
use Rattle.ash_slots.proofs.Steps.{change_same}

module _ {B : Type 0} where
  -- what is written in a slot is a change at a number
  module _ (slot n : ℕ) (l : List (ℕ × SlotEntry B)) (it : Occupant B) (s : AreStored l) (here : IsIn n slot l) (mine : IsSomeAnd (object_at n l) (λ object. object.item ≡ it)) where
    own : (p : SlotEntry B) → object_at n l ≡ Some p → p.item ≡ it
    own p is = subst (λ (v : Option (SlotEntry B)). IsSomeAnd v (λ object. object.item ≡ it)) is mine

    pub refilled_at : (array : arrays.Array) (ws now : List Word) → it.body ≡ Array array → now ≡ ws → change_in slot (with_item (record { count = it.count; touched = true; body = Array (record array { elements = now }) })) l ≡ change_at n (refilled ws) l
    refilled_at array ws now is same =
        change_in_is slot n _ l s here
        ∙ change_same n _ (refilled ws) l s.in_order (λ p at. each p (own p at))
      where
        body_is : Array (record array { elements = now }) ≡ with_words ws it.body
        body_is =
            ap (λ (es : List Word). Array (record array { elements = es })) same
            ∙ sym (ap (λ (b : Body B). with_words ws b) is)

        each : (p : SlotEntry B) → p.item ≡ it → with_item (record { count = it.count; touched = true; body = Array (record array { elements = now }) }) p ≡ refilled ws p
        each p at =
            ap (λ (b : Body B). with_item (record { count = it.count; touched = true; body = b }) p) body_is
            ∙ ap (λ (i : Occupant B). with_item (record { count = i.count; touched = true; body = with_words ws i.body }) p) (sym at)

    pub item_same : (array : arrays.Array) (now : List Word) → it.body ≡ Array array → now ≡ array.elements → change_in slot (with_item (record { count = it.count; touched = it.touched; body = Array (record array { elements = now }) })) l ≡ l
    item_same array now is same =
        change_in_is slot n _ l s here
        ∙ change_same n _ (λ p. p) l s.in_order (λ p at. each p (own p at))
        ∙ change_id n l
      where
        body_is : Array (record array { elements = now }) ≡ it.body
        body_is = ap (λ (es : List Word). Array (record array { elements = es })) same ∙ sym is

        each : (p : SlotEntry B) → p.item ≡ it → with_item (record { count = it.count; touched = it.touched; body = Array (record array { elements = now }) }) p ≡ p
        each p at =
            ap (λ (b : Body B). with_item (record { count = it.count; touched = it.touched; body = b }) p) body_is
            ∙ ap (λ (i : Occupant B). with_item i p) (sym at)

    pub array_mine : (array : arrays.Array) → it.body ≡ Array array → stored_array n l ≡ Some array
    array_mine array is = go (object_at n l) refl
      where
        go : (v : Option (SlotEntry B)) → object_at n l ≡ v → option_and_then (λ object. array_of (object.item).body) v
            ≡ Some array
        go None at = absurd (subst (λ (v : Option (SlotEntry B)). IsSomeAnd v (λ object. object.item ≡ it)) at mine)
        go (Some p) at = ap (λ (i : Occupant B). array_of i.body) (own p at) ∙ ap (λ (b : Body B). array_of b) is
