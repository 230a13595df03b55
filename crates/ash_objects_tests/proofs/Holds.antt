-- What is held once more.
use Rattle.std.proofs.Common.{◌≡◌, ◌<◌, ℕ, Bool, cond, Option, Some, None, sym, subst, ap, ◌∙◌, refl, arith}
use Rattle.std.specs.Prelude.{IsSome}
use Rattle.std.specs.Option.{option_map, option_map_or}
use Rattle.std.proofs.lemmas.Bool.{eq-eqb}
use Rattle.ash_host.specs.Objects.{object_at, Lives}
use Rattle.ash_objects.specs.Table.{Table, Living, slot_of, holds_of, held, with_object}
use Rattle.ash_slots.proofs.Changing.{object_at-change}

module _ {B : Type 0} where
  -- what is held, where it is
  held_there : (n : ℕ) (table : Table B) → object_at n (with_object n held table).objects ≡ option_map held (object_at n table.objects)
  held_there n table =
      object_at-change n held n table.objects ∙ ap (λ (b : Bool). cond b (option_map held (object_at n table.objects)) (object_at n table.objects)) (eq-eqb n n refl)

  -- a hold is counted
  pub some_hold : (n : ℕ) (table : Table B) → Lives table.objects n → 0 < holds_of n (with_object n held table)
  some_hold n table lives =
      subst (λ (v : Option (Living B)). 0 < option_map_or (λ object. object.holds) v 0) (sym (held_there n table)) (go (object_at n table.objects) lives)
    where
      go : (v : Option (Living B)) → IsSome v → 0 < option_map_or (λ object. object.holds) (option_map held v) 0
      go None h = cc
      go (Some x) h = omega arith

  -- what is in a slot lives
  pub lives_in : (n slot : ℕ) (table : Table B) → slot_of n table ≡ Some slot → Lives table.objects n
  lives_in n slot table is = go (object_at n table.objects) is
    where
      go : (v : Option (Living B)) → option_map (λ object. object.slot) v ≡ Some slot → IsSome v
      go None h = cc
      go (Some x) h = refl

  -- and what is held stays in its slot
  pub held_slot : (n slot : ℕ) (table : Table B) → slot_of n table ≡ Some slot → slot_of n (with_object n held table) ≡ Some slot
  held_slot n slot table is =
      subst (λ (v : Option (Living B)). option_map (λ object. object.slot) v ≡ Some slot) (sym (held_there n table)) (go (object_at n table.objects) is)
    where
      go : (v : Option (Living B)) → option_map (λ object. object.slot) v ≡ Some slot → option_map (λ object. object.slot) (option_map held v) ≡ Some slot
      go None h = cc
      go (Some x) h = h
