-- What a call of a host object leaves of a table: its box, and nothing else.
use Rattle.std.proofs.Common.{◌≡◌, ℕ, Bool, true, false, cond, List, [], ◌∷◌, refl, subst, ap, ◌∙◌, nat_eq, arith, Option, Some, None, length, ◌≤◌}
use Rattle.std.specs.Prelude.{IsSome}
use Rattle.std.specs.Option.{option_map, option_map_or, option_and_then}
use Rattle.ash_host.specs.declared.word.Word.{Word}
use Rattle.ash_host.specs.Objects.{object_at, IsInOrder, handles_to}
use Rattle.ash_slots.specs.declared.body.Body.{Body}
use Rattle.ash_slots.specs.declared.body.Body.TheVariants.{Script, Array, Host}
use Rattle.ash_slots.specs.Bodies.{words_of}
use Rattle.ash_slots.specs.Store.{SlotEntry, change_at}
use Rattle.ash_objects.specs.Table.{Living}
use Rattle.ash_slots.specs.SlotResponses.{box_of, stored_box, boxed}
use Rattle.ash_objects.specs.Responses.{with_box, called}
use Rattle.ash_host.specs.declared.answer.HostAnswer.{HostAnswer}
use Rattle.ash_host.specs.declared.answer.HostAnswer.TheVariants as answers
use Rattle.ash_host.specs.declared.event.Target.{Target}
use Rattle.ash_host.specs.declared.event.Event.TheVariants.{Called}
use Rattle.ash_objects.specs.Counting.{holding, fields_in, living, living_in, AreCounted, IsTable, face}
use Rattle.ash_slots.proofs.Changing.{object_at-change, length-change, in_order-change, sum-change}
use Rattle.ash_objects.proofs.Counts.{object_at-living, each-change, given-change}
use Rattle.ash_objects.proofs.Fields.{view_face, counted_same}

module _ {B : Type 0} where
  -- what a contract sees of the box is what is there
  pub box_view : (n : ℕ) (l : List (ℕ × SlotEntry B))
      → option_and_then (λ object. box_of object.body) (object_at n (living_in l)) ≡ stored_box n l
  box_view n l = ap (λ (v : Option (Living B)). option_and_then (λ object. box_of object.body) v) (object_at-living n l l) ∙ go (object_at n l)
    where
      go : (v : Option (SlotEntry B))
          → option_and_then (λ object. box_of object.body) (option_map (living (fields_in n l)) v)
          ≡ option_and_then (λ object. box_of (object.item).body) v
      go None = refl
      go (Some p) = refl

  module _ (n : ℕ) (l : List (ℕ × SlotEntry B)) (box after : B) (o : IsInOrder l) (s : AreCounted l) (was : stored_box n l ≡ Some box) where
    -- a host object holds nothing
    holds_none : (m : ℕ) → option_map_or (holding m) (object_at n l) 0 ≡ 0
    holds_none m = go (object_at n l) was
      where
        body : (b : Body B) → box_of b ≡ Some box → words_of b ≡ []
        body (Script script) h = cc
        body (Array array) h = cc
        body (Host x) h = refl

        go : (v : Option (SlotEntry B)) → option_and_then (λ object. box_of (object.item).body) v ≡ Some box
            → option_map_or (holding m) v 0 ≡ 0
        go None h = refl
        go (Some p) h = ap (λ (ws : List Word). handles_to m ws) (body (p.item).body h)

    fields_boxed : (m : ℕ) → fields_in m (change_at n (boxed after) l) ≡ fields_in m l
    fields_boxed m =
        let sums = sum-change (holding m) n (boxed after) l o in
        let now = none_after m (object_at n l) in
        omega (arith, sums, now, holds_none m)
      where
        none_after : (m : ℕ) (v : Option (SlotEntry B)) → option_map_or (λ x. holding m (boxed after x)) v 0 ≡ 0
        none_after m None = refl
        none_after m (Some p) = refl

    pub view_box : living_in (change_at n (boxed after) l) ≡ change_at n (with_box after) (living_in l)
    view_box =
        view_face l (change_at n (boxed after) l) n (with_box after) (λ k x. refl) o (in_order-change n (boxed after) l o)
        (λ m. ap (λ (v : Option (SlotEntry B)). option_map face v) (object_at-change n (boxed after) m l) ∙ each (nat_eq n m) (object_at m l))
        (λ m. omega (arith, fields_boxed m, counted_same n (boxed after) (λ p. refl) m l))
      where
        each : (b : Bool) (v : Option (SlotEntry B)) → option_map face (cond b (option_map (boxed after) v) v)
            ≡ cond b (option_map (with_box after) (option_map face v)) (option_map face v)
        each false v = refl
        each true None = refl
        each true (Some p) = refl

    pub sound_box : AreCounted (change_at n (boxed after) l)
    sound_box = record {
      covered = λ m. omega (arith, fields_boxed m, counted_same n (boxed after) (λ p. refl) m l, s.covered m);
      bounded = λ m. omega (arith, fields_boxed m, counted_same n (boxed after) (λ p. refl) m l, s.bounded m);
      waiting = each-change (λ p. (p.item).count ≡ 0 → p.waiting ≡ true) n (boxed after) l (λ p is h. h) s.waiting;
      short =
          each-change (λ p. length (words_of (p.item).body) ≤ 4096) n (boxed after) l (λ p is h. omega arith) s.short;
      few = omega (arith, length-change n (boxed after) l, s.few);
    }

  -- a table stays one
  pub table_box : (n : ℕ) (l : List (ℕ × SlotEntry B)) (last settled : ℕ) (box after : B) → IsTable l last settled
      → stored_box n l ≡ Some box → IsTable (change_at n (boxed after) l) last settled
  table_box n l last settled box after t was = record {
    in_order = in_order-change n (boxed after) l t.in_order;
    counted = sound_box n l box after t.in_order t.counted was;
    given = given-change last n (boxed after) l t.given;
    cleared = t.cleared;
  }

  pub some_box : (n : ℕ) (l : List (ℕ × SlotEntry B))
      → IsSome (option_and_then (λ object. box_of object.body) (object_at n (living_in l))) → IsSome (stored_box n l)
  some_box n l h = subst (λ (v : Option B). IsSome v) (box_view n l) h

-- the event of a call that did not run out of memory
pub called_is : (target : Target) (method : ℕ) (answer : HostAnswer) → (answer ≡ answers.NoMemory → ⊥)
    → called target method answer ≡ Called target method ∷ []
called_is target method (answers.Value word) h = refl
called_is target method answers.Nothing h = refl
called_is target method (answers.Raise code) h = refl
called_is target method answers.NoMemory h = absurd (h refl)
