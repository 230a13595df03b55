-- What an array is with an element at its end.
use Rattle.std.proofs.Common.{◌≡◌, ℕ, Bool, true, false, cond, List, [], ◌∷◌, ◌++◌, refl, sym, subst, ap, ◌∙◌, nat_eq, arith, Option, Some, None, length, ◌+◌, ◌-◌, replicate}
use Rattle.std.specs.Prelude.{IsSome, IfSome, slice_get, slice_set}
use Rattle.std.specs.Option.{option_map, option_and_then}
use Rattle.std.proofs.lemmas.Bool.{eq-eqb}
use Rattle.ash_host.specs.declared.word.Word.{Word}
use Rattle.ash_host.specs.Objects.{object_at, IsInOrder, Lives}
use Rattle.ash_slots.specs.declared.body.Body.{Body}
use Rattle.ash_slots.specs.declared.body.Body.TheVariants.{Script, Array, Host}
use Rattle.ash_slots.specs.declared.body.Array as arrays
use Rattle.ash_host.specs.ElementTags.{initial_of}
use Rattle.ash_slots.specs.Bodies.{words_of, with_word}
use Rattle.ash_slots.specs.SlotArrays.{array_of, with_words, lengthened}
use Rattle.ash_objects.specs.Arrays.{array_at, with_elements}
use Rattle.ash_objects.specs.Table.{Living, Table, slot_of, field_of, with_object, with_field}
use Rattle.ash_slots.proofs.Changing.{object_at-change, change_over}
use Rattle.ash_slots.proofs.Steps.{change_same}
use Rattle.ash_objects.proofs.Refilling.{words_filled}

got_last : (ws : List Word) (w : Word) → IsSome (slice_get (ws ++ w ∷ []) (length ws))
got_last [] w = refl
got_last (x ∷ ws) w = got_last ws w

set_last : (ws : List Word) (first word : Word) → slice_set (ws ++ first ∷ []) (length ws) word ≡ ws ++ word ∷ []
set_last [] first word = refl
set_last (x ∷ ws) first word = ap (λ (l : List Word). x ∷ l) (set_last ws first word)

-- one initial value more
pub one_longer : (k : ℕ) (array : arrays.Array) → k ≡ length array.elements → lengthened (k + 1) array
    ≡ array.elements ++ initial_of array.element ∷ []
one_longer k array is =
    let one : (k + 1) - length array.elements ≡ 1 = omega arith in
    ap (λ (j : ℕ). array.elements ++ replicate j (initial_of array.element)) one

module _ {B : Type 0} where
  -- an element was appended, and then written
  module _ (n : ℕ) (t : Table B) (o : IsInOrder t.objects) (array : arrays.Array) (there : array_at n t ≡ Some array) (word first : Word) where
    abbrev pub with_first : Table B
    with_first = with_object n (with_elements (array.elements ++ first ∷ [])) t

    it_is : (x : Living B) → object_at n t.objects ≡ Some x → array_of x.body ≡ Some array
    it_is x is =
        sym (ap (λ (v : Option (Living B)). option_and_then array_of (option_map (λ object. object.body) v)) is)
        ∙ there

    at_first : object_at n with_first.objects
        ≡ option_map (with_elements (array.elements ++ first ∷ [])) (object_at n t.objects)
    at_first =
        object_at-change n (with_elements (array.elements ++ first ∷ [])) n t.objects
        ∙ ap (λ (b : Bool). cond b
        (option_map (with_elements (array.elements ++ first ∷ [])) (object_at n t.objects))
        (object_at n t.objects)) (eq-eqb n n refl)

    pub field_there : IsSome (field_of n (length array.elements) with_first)
    field_there = subst (λ (v : Option (Living B)). IsSome (option_and_then (λ object. slice_get (words_of object.body) (length array.elements)) v)) (sym at_first) (go (object_at n t.objects) refl)
      where
        go : (v : Option (Living B)) → object_at n t.objects ≡ v
            → IsSome (option_and_then (λ object. slice_get (words_of object.body) (length array.elements))
            (option_map (with_elements (array.elements ++ first ∷ [])) v))
        go None is = let none = sym (ap (λ (v : Option (Living B)). option_and_then array_of (option_map (λ object. object.body) v)) is) ∙ there in absurd (cc)
        go (Some x) is =
            subst (λ (ws : List Word). IsSome (slice_get ws (length array.elements)))
            (sym (words_filled (array.elements ++ first ∷ []) x.body array (it_is x is)))
            (got_last array.elements first)

    pub slot_there : slot_of n with_first ≡ slot_of n t
    slot_there = ap (λ (v : Option (Living B)). option_map (λ object. object.slot) v) at_first ∙ go (object_at n t.objects)
      where
        go : (v : Option (Living B))
            → option_map (λ object. object.slot) (option_map (with_elements (array.elements ++ first ∷ [])) v)
            ≡ option_map (λ object. object.slot) v
        go None = refl
        go (Some x) = refl

    pub alive_there : (h : Option ℕ) → IfSome h (Lives t.objects) → IfSome h (Lives with_first.objects)
    alive_there None h = tt
    alive_there (Some m) h = subst (λ (v : Option (Living B)). IsSome v) (sym (object_at-change n (with_elements (array.elements ++ first ∷ [])) m t.objects)) (go (nat_eq n m) (object_at m t.objects) h)
      where
        go : (b : Bool) (v : Option (Living B)) → IsSome v
            → IsSome (cond b (option_map (with_elements (array.elements ++ first ∷ [])) v) v)
        go true None h = h
        go true (Some x) h = refl
        go false v h = h

    pub written_there : with_object n (with_field (length array.elements) word) with_first
        ≡ with_object n (with_elements (array.elements ++ word ∷ [])) t
    written_there =
        ap (λ (l : List (ℕ × Living B)). record t { objects = l })
        (change_over n (with_field (length array.elements) word) (with_elements (array.elements ++ first ∷ [])) (λ x. with_field (length array.elements) word (with_elements (array.elements ++ first ∷ []) x)) (λ x. refl) t.objects
        ∙ change_same n (λ x. with_field (length array.elements) word (with_elements (array.elements ++ first ∷ []) x)) (with_elements (array.elements ++ word ∷ [])) t.objects o (λ x is. ap (λ (b : Body B). record { slot = x.slot; holds = x.holds; touched = true; body = b }) (body x.body (it_is x is))))
      where
        body : (b : Body B) → array_of b ≡ Some array
            → with_word (length array.elements) word (with_words (array.elements ++ first ∷ []) b)
            ≡ with_words (array.elements ++ word ∷ []) b
        body (Script script) h = cc
        body (Array own) h =
            ap (λ (ws : List Word). Array (record own { elements = ws })) (set_last array.elements first word)
        body (Host box) h = cc
