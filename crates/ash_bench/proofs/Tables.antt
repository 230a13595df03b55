-- What calls of a table leave of what further calls need.
use Rattle.std.proofs.Common.{◌≡◌, ℕ, Bool, true, false, cond, List, [], ◌∷◌, refl, sym, subst, ap, ◌∙◌, nat_eq, arith, Option, Some, None, ◌+◌, ◌-◌, ◌<◌, set}
use Rattle.std.specs.Prelude.{IsSome, IfSome, slice_get}
use Rattle.std.specs.Option.{option_map, option_map_or, option_and_then}
use Rattle.std.proofs.lemmas.Bool.{eq-eqb}
use Rattle.ash_host.specs.declared.word.Word.{Word}
use Rattle.ash_host.specs.Objects.{object_at, Lives, handle}
use Rattle.ash_slots.specs.declared.body.Body.{Body}
use Rattle.ash_slots.specs.declared.body.Body.TheVariants.{Script, Array, Host}
use Rattle.ash_slots.specs.Bodies.{words_of, with_word}
use Rattle.ash_slots.specs.Store.{change_at}
use Rattle.ash_slots.proofs.Changing.{object_at-change}
use Rattle.ash_objects.specs.Table.{Living, Table, slot_of, field_of, holds_of, held, unheld, with_object, with_field, IsAlive}
use Rattle.ash_bench.specs.Uses.{HasField}

first_stays : (ws : List Word) (word : Word) → IsSome (slice_get ws 0) → IsSome (slice_get (set ws 0 word) 0)
first_stays [] word h = h
first_stays (w ∷ ws) word h = refl

module _ {B : Type 0} where
  body_stays : (word : Word) (body : Body B) → IsSome (slice_get (words_of body) 0) → IsSome (slice_get (words_of (with_word 0 word body)) 0)
  body_stays word (Script script) h = first_stays script.fields word h
  body_stays word (Array array) h = first_stays array.elements word h
  body_stays word (Host box) h = h

  slot_stays : (n : ℕ) (word : Word) (m : ℕ) (table : Table B) → slot_of m (with_object n (with_field 0 word) table) ≡ slot_of m table
  slot_stays n word m table = ap (λ (v : Option (Living B)). option_map (λ object. object.slot) v) (object_at-change n (with_field 0 word) m table.objects) ∙ go (nat_eq n m) (object_at m table.objects)
    where
      go : (b : Bool) (v : Option (Living B)) → option_map (λ object. object.slot) (cond b (option_map (with_field 0 word) v) v) ≡ option_map (λ object. object.slot) v
      go false v = refl
      go true None = refl
      go true (Some x) = refl

  field_stays : (n : ℕ) (word : Word) (m : ℕ) (table : Table B) → IsSome (field_of m 0 table) → IsSome (field_of m 0 (with_object n (with_field 0 word) table))
  field_stays n word m table h = subst (λ (v : Option (Living B)). IsSome (option_and_then (λ object. slice_get (words_of object.body) 0) v)) (sym (object_at-change n (with_field 0 word) m table.objects)) (go (nat_eq n m) (object_at m table.objects) h)
    where
      go : (b : Bool) (v : Option (Living B)) → IsSome (option_and_then (λ object. slice_get (words_of object.body) 0) v) → IsSome (option_and_then (λ object. slice_get (words_of object.body) 0) (cond b (option_map (with_field 0 word) v) v))
      go false v h = h
      go true None h = h
      go true (Some x) h = body_stays word x.body h

  -- an object in a slot has a first field still, once one was written
  pub has_field_still : (n : ℕ) (word : Word) (slot : ℕ) (table : Table B) → HasField table slot → HasField (with_object n (with_field 0 word) table) slot
  has_field_still n word slot table h = (h.0, slot_stays n word h.0 table ∙ h.1, field_stays n word h.0 table h.2)

  lives_still : (n : ℕ) (word : Word) (m : ℕ) (table : Table B) → Lives table.objects m → Lives (change_at n (with_field 0 word) table.objects) m
  lives_still n word m table h = subst (λ (v : Option (Living B)). IsSome v) (sym (object_at-change n (with_field 0 word) m table.objects)) (go (nat_eq n m) (object_at m table.objects) h)
    where
      go : (b : Bool) (v : Option (Living B)) → IsSome v → IsSome (cond b (option_map (with_field 0 word) v) v)
      go false v h = h
      go true None h = h
      go true (Some x) h = refl

  -- what lived lives still
  pub alive_still : (n : ℕ) (word other : Word) (table : Table B) → IsAlive other table → IsAlive other (with_object n (with_field 0 word) table)
  alive_still n word other table h = go (handle other) h
    where
      go : (v : Option ℕ) → IfSome v (Lives table.objects) → IfSome v (Lives (change_at n (with_field 0 word) table.objects))
      go None h = tt
      go (Some m) h = lives_still n word m table h

  -- a hold is counted
  pub some_hold : (n : ℕ) (table : Table B) → Lives table.objects n → 0 < holds_of n (with_object n held table)
  some_hold n table lives =
      subst (λ (v : Option (Living B)). 0 < option_map_or (λ object. object.holds) v 0) (sym (object_at-change n held n table.objects ∙ ap (λ (b : Bool). cond b (option_map held (object_at n table.objects)) (object_at n table.objects)) (eq-eqb n n refl))) (go (object_at n table.objects) lives)
    where
      go : (v : Option (Living B)) → IsSome v → 0 < option_map_or (λ object. object.holds) (option_map held v) 0
      go None h = cc
      go (Some x) h = omega arith

  -- the slot of an object that is held once more
  pub held_slot : (n : ℕ) (table : Table B) → slot_of n (with_object n held table) ≡ slot_of n table
  held_slot n table = ap (λ (v : Option (Living B)). option_map (λ object. object.slot) v) (object_at-change n held n table.objects) ∙ go (nat_eq n n) (object_at n table.objects)
    where
      go : (b : Bool) (v : Option (Living B)) → option_map (λ object. object.slot) (cond b (option_map held v) v) ≡ option_map (λ object. object.slot) v
      go false v = refl
      go true None = refl
      go true (Some x) = refl

  pub in_slot_lives : (n slot : ℕ) (table : Table B) → slot_of n table ≡ Some slot → Lives table.objects n
  in_slot_lives n slot table h = go (object_at n table.objects) h
    where
      go : (v : Option (Living B)) → option_map (λ object. object.slot) v ≡ Some slot → IsSome v
      go None h = cc
      go (Some x) h = refl

  -- a hold that is undone changes nothing
  pub undone : (n : ℕ) (table : Table B) → with_object n unheld (with_object n held table) ≡ table
  undone n table = ap (λ (objects : List (ℕ × Living B)). record table { objects = objects }) (all table.objects)
    where
      one : (x : Living B) → unheld (held x) ≡ x
      one x = let back : x.holds + 1 - 1 ≡ x.holds = omega arith in ap (λ (holds : ℕ). record x { holds = holds }) back

      same : (b : Bool) (x : Living B) → cond b (unheld (cond b (held x) x)) (cond b (held x) x) ≡ x
      same true x = one x
      same false x = refl

      all : (l : List (ℕ × Living B)) → change_at n unheld (change_at n held l) ≡ l
      all [] = refl
      all (e ∷ l) =
          ap (λ (x : Living B). (e.0, x) ∷ change_at n unheld (change_at n held l)) (same (nat_eq n e.0) e.1)
          ∙ ap (λ (rest : List (ℕ × Living B)). e ∷ rest) (all l)
