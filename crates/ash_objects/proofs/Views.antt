-- What a contract sees of the objects of a table, and what the code knows of them.
use Rattle.std.proofs.Common.{◌≡◌, ℕ, List, [], ◌∷◌, refl, sym, subst, ap, ◌∙◌, arith, Option, Some, None, length, zero, suc, ◌+◌, ◌-◌, ◌<◌, ◌^◌}
use Rattle.std.specs.Prelude.{IsSomeAnd, IsSome, IfSome, slice_get}
use Rattle.std.specs.Option.{option_map, option_map_or, option_and_then}
use Rattle.ash_host.specs.declared.word.Word.{Word}
use Rattle.ash_host.specs.Objects.{object_at, Lives, handle}
use Rattle.ash_slots.specs.declared.entry.Occupant.{Occupant}
use Rattle.ash_slots.specs.Bodies.{words_of}
use Rattle.ash_slots.specs.Store.{SlotEntry, IsIn, change_at}
use Rattle.ash_objects.specs.Table.{Living}
use Rattle.ash_objects.specs.Counting.{fields_in, living, living_in, AreGiven, IsTable}
use Rattle.ash_slots.specs.SlotCounting.{counted, incremented, decremented, change_handle, written}
use Rattle.ash_slots.proofs.Changing.{in_order-change}
use Rattle.ash_objects.proofs.Counts.{object_at-living, fields-living, count_is, counted_fits, sound_more, sound_less, given-change}
use Rattle.ash_objects.proofs.Fields.{after_all, sound_field, order_write, handle_order}
use Rattle.ash_slots.proofs.Steps.{is_in_from}

some_within : {A : Type 0} (ws : List A) (i : ℕ) → IsSome (slice_get ws i) → i < length ws
some_within [] i h = cc
some_within (w ∷ ws) zero h = omega arith
some_within (w ∷ ws) (suc i) h = let later = some_within ws i h in omega (arith, later)

module _ {B : Type 0} where
  slot_view : (n : ℕ) (l : List (ℕ × SlotEntry B)) → option_map (λ object. object.slot) (object_at n (living_in l))
      ≡ option_map (λ object. object.slot) (object_at n l)
  slot_view n l = ap (λ (v : Option (Living B)). option_map (λ object. object.slot) v) (object_at-living n l l) ∙ go (object_at n l)
    where
      go : (v : Option (SlotEntry B)) → option_map (λ object. object.slot) (option_map (living (fields_in n l)) v)
          ≡ option_map (λ object. object.slot) v
      go None = refl
      go (Some p) = refl

  -- what an object is
  pub body_view : (n : ℕ) (l : List (ℕ × SlotEntry B)) → option_map (λ object. object.body) (object_at n (living_in l))
      ≡ option_map (λ object. (object.item).body) (object_at n l)
  body_view n l = ap (λ (v : Option (Living B)). option_map (λ object. object.body) v) (object_at-living n l l) ∙ go (object_at n l)
    where
      go : (v : Option (SlotEntry B)) → option_map (λ object. object.body) (option_map (living (fields_in n l)) v)
          ≡ option_map (λ object. (object.item).body) v
      go None = refl
      go (Some p) = refl

  pub body_item : (n : ℕ) (l : List (ℕ × SlotEntry B)) (it : Occupant B)
      → IsSomeAnd (object_at n l) (λ object. object.item ≡ it)
      → option_map (λ object. (object.item).body) (object_at n l) ≡ Some it.body
  body_item n l it h = go (object_at n l) h
    where
      go : (v : Option (SlotEntry B)) → IsSomeAnd v (λ object. object.item ≡ it)
          → option_map (λ object. (object.item).body) v ≡ Some it.body
      go None h = absurd h
      go (Some p) h = ap (λ (i : Occupant B). Some i.body) h

  -- the slot that a contract sees is the one
  pub slot_seen : (n : ℕ) (l : List (ℕ × SlotEntry B)) → option_map (λ object. object.slot) (object_at n l)
      ≡ option_map (λ object. object.slot) (object_at n (living_in l))
  slot_seen n l = sym (slot_view n l)

  pub in_view : (n slot : ℕ) (l : List (ℕ × SlotEntry B))
      → option_map (λ object. object.slot) (object_at n (living_in l)) ≡ Some slot → IsIn n slot l
  in_view n slot l h = is_in_from n slot l (sym (slot_view n l) ∙ h)

  -- what lives for a contract lives
  pub lives_view : (n : ℕ) (l : List (ℕ × SlotEntry B)) → Lives (living_in l) n → Lives l n
  lives_view n l h = go (object_at n l) (subst (λ (v : Option (Living B)). IsSome v) (object_at-living n l l) h)
    where
      go : (v : Option (SlotEntry B)) → IsSome (option_map (living (fields_in n l)) v) → IsSome v
      go None h = h
      go (Some p) h = refl

  pub alive_view : (h : Option ℕ) (l : List (ℕ × SlotEntry B)) → IfSome h (Lives (living_in l)) → IfSome h (Lives l)
  alive_view None l h = tt
  alive_view (Some n) l h = lives_view n l h

  -- holds are what a count has beside fields
  pub holds_view : (n : ℕ) (l : List (ℕ × SlotEntry B))
      → 0 < option_map_or (λ object. object.holds) (object_at n (living_in l)) 0 → fields_in n l < counted n l
  holds_view n l h = go (object_at n l) (subst (λ (v : Option (Living B)). 0 < option_map_or (λ object. object.holds) v 0) (object_at-living n l l) h)
    where
      go : (v : Option (SlotEntry B))
          → 0 < option_map_or (λ object. object.holds) (option_map (living (fields_in n l)) v) 0
          → fields_in n l < option_map_or (λ object. (object.item).count) v 0
      go None h = absurd (omega arith)
      go (Some p) h = omega arith

  field_view : (n place : ℕ) (l : List (ℕ × SlotEntry B))
      → option_and_then (λ object. slice_get (words_of object.body) place) (object_at n (living_in l))
      ≡ option_and_then (λ object. slice_get (words_of (object.item).body) place) (object_at n l)
  field_view n place l = ap (λ (v : Option (Living B)). option_and_then (λ object. slice_get (words_of object.body) place) v) (object_at-living n l l) ∙ go (object_at n l)
    where
      go : (v : Option (SlotEntry B))
          → option_and_then (λ object. slice_get (words_of object.body) place) (option_map (living (fields_in n l)) v)
          ≡ option_and_then (λ object. slice_get (words_of (object.item).body) place) v
      go None = refl
      go (Some p) = refl

  -- a place that a contract sees is one of the object
  pub place_view : (n place : ℕ) (l : List (ℕ × SlotEntry B))
      → IsSome (option_and_then (λ object. slice_get (words_of object.body) place) (object_at n (living_in l)))
      → IsSomeAnd (object_at n l) (λ object. place < length (words_of (object.item).body))
  place_view n place l h = go (object_at n l) (subst (λ (v : Option Word). IsSome v) (field_view n place l) h)
    where
      go : (v : Option (SlotEntry B))
          → IsSome (option_and_then (λ object. slice_get (words_of (object.item).body) place) v)
          → IsSomeAnd v (λ object. place < length (words_of (object.item).body))
      go None h = cc
      go (Some p) h = some_within (words_of (p.item).body) place h

  -- and its word is the one that is there
  pub word_view : (n place : ℕ) (l : List (ℕ × SlotEntry B)) (word : Word)
      → IsSomeAnd (object_at n l) (λ object. slice_get (words_of (object.item).body) place ≡ Some word)
      → option_and_then (λ object. slice_get (words_of object.body) place) (object_at n (living_in l)) ≡ Some word
  word_view n place l word h = field_view n place l ∙ go (object_at n l) h
    where
      go : (v : Option (SlotEntry B)) → IsSomeAnd v (λ object. slice_get (words_of (object.item).body) place ≡ Some word)
          → option_and_then (λ object. slice_get (words_of (object.item).body) place) v ≡ Some word
      go None h = absurd h
      go (Some p) h = h

  module _ (l : List (ℕ × SlotEntry B)) (last settled : ℕ) (t : IsTable l last settled) where
    -- no count comes near what the code can hold
    pub fits_view : (n : ℕ) → counted n l < 2 ^ 128 - 1
    fits_view n = let small = counted_fits n l t.in_order t.counted in omega (arith, small)

    pub few_view : (n : ℕ) → option_map_or (λ object. object.holds) (object_at n (living_in l)) 0 < 2 ^ 127
        → counted n l < fields_in n l + 2 ^ 127
    few_view n h = let same = count_is n l t.counted in omega (arith, same, fields-living n l l, h)

    pub table_more : (n : ℕ) → counted n l < fields_in n l + 2 ^ 127 → IsTable (change_at n incremented l) last settled
    table_more n few = record {
      in_order = in_order-change n incremented l t.in_order;
      counted = sound_more n l t.in_order t.counted few;
      given = given-change last n incremented l t.given;
      cleared = t.cleared;
    }

    pub table_less : (n : ℕ) → fields_in n l < counted n l → IsTable (change_at n decremented l) last settled
    table_less n some = record {
      in_order = in_order-change n decremented l t.in_order;
      counted = sound_less n l t.in_order t.counted some;
      given = given-change last n decremented l t.given;
      cleared = t.cleared;
    }

    given_handle : (f : SlotEntry B → SlotEntry B) (h : Option ℕ) (k : List (ℕ × SlotEntry B)) → AreGiven last k
        → AreGiven last (change_handle f h k)
    given_handle f None k g = g
    given_handle f (Some n) k g = given-change last n f k g

    pub table_field : (n place : ℕ) (word before : Word) (alive : IfSome (handle word) (Lives l))
        (there : IsSomeAnd (object_at n l) (λ object. slice_get (words_of (object.item).body) place ≡ Some before))
        → IsTable (after_all n place word before l t.in_order t.counted alive there) last settled
    table_field n place word before alive there = record {
      in_order =
          handle_order decremented
          (λ p. refl) (handle before) _ (order_write n place word before l t.in_order t.counted alive there);
      counted = sound_field n place word before l t.in_order t.counted alive there;
      given =
          given_handle decremented (handle before) _
          (given-change last n (written place word) _ (given_handle incremented (handle word) l t.given));
      cleared = t.cleared;
    }
