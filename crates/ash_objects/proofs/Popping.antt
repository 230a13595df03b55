-- What a slot leaves that is taken from the list of the next sweep, or put on it.
use Rattle.std.proofs.Common.{◌≡◌, ℕ, Bool, true, false, cond, List, [], ◌∷◌, refl, sym, ap, ◌∙◌, nat_eq, arith, Option, Some, None, length, suc, ◌≤◌}
use Rattle.std.specs.Prelude.{sum_by}
use Rattle.std.specs.Option.{option_map, option_map_or}
use Rattle.std.specs.Map.{values_of}
use Rattle.std.proofs.lemmas.List.Sums.{sum_by-cons}
use Rattle.ash_host.specs.Objects.{object_at, IsInOrder}
use Rattle.ash_slots.specs.Store.{SlotEntry, AreStored, change_in, with_waiting}
use Rattle.ash_objects.specs.Counting.{holding, fields_in, face, face_at, living, living_among, living_in}
use Rattle.ash_objects.specs.Table.{Living}
use Rattle.ash_slots.specs.SlotCounting.{counted}
use Rattle.ash_slots.proofs.Changing.{object_at-change_in, numbers-change_in}
use Rattle.ash_objects.proofs.Fields.{in_face}

module _ {B : Type 0} where
  -- the objects, one slot of which is waiting or not
  module _ (w : Bool) (slot : ℕ) (l : List (ℕ × SlotEntry B)) where
    abbrev pub seen : List (ℕ × SlotEntry B)
    seen = change_in slot (with_waiting w) l

    pub at_seen : (m : ℕ) → object_at m (change_in slot (with_waiting w) l)
        ≡ option_map (λ object. cond (nat_eq slot object.slot) (with_waiting w object) object) (object_at m l)
    at_seen m = object_at-change_in slot (with_waiting w) m l

    pub seen_face : (m : ℕ) → face_at m (change_in slot (with_waiting w) l) ≡ face_at m l
    seen_face m = ap (λ (v : Option (SlotEntry B)). option_map face v) (at_seen m) ∙ go (object_at m l)
      where
        each : (b : Bool) (p : SlotEntry B) → face (cond b (with_waiting w p) p) ≡ face p
        each true p = refl
        each false p = refl

        go : (v : Option (SlotEntry B))
            → option_map face
            (option_map (λ object. cond (nat_eq slot object.slot) (with_waiting w object) object) v)
            ≡ option_map face v
        go None = refl
        go (Some p) = ap Some (each (nat_eq slot p.slot) p)

    pub seen_counted : (m : ℕ) → counted m (change_in slot (with_waiting w) l) ≡ counted m l
    seen_counted m = ap (λ (v : Option (SlotEntry B)). option_map_or (λ object. (object.item).count) v 0) (at_seen m) ∙ go (object_at m l)
      where
        each : (b : Bool) (p : SlotEntry B) → ((cond b (with_waiting w p) p).item).count ≡ (p.item).count
        each true p = refl
        each false p = refl

        go : (v : Option (SlotEntry B))
            → option_map_or (λ object. (object.item).count)
            (option_map (λ object. cond (nat_eq slot object.slot) (with_waiting w object) object) v) 0
            ≡ option_map_or (λ object. (object.item).count) v 0
        go None = refl
        go (Some p) = each (nat_eq slot p.slot) p

    pub seen_order : IsInOrder l → IsInOrder (change_in slot (with_waiting w) l)
    seen_order o = rw (numbers-change_in slot (with_waiting w) l) o

  pub seen_sum : (w : Bool) (slot : ℕ) (g : ℕ × SlotEntry B → ℕ) → ((k : ℕ) (p : SlotEntry B) → g (k, with_waiting w p) ≡ g (k, p))
      → (l : List (ℕ × SlotEntry B)) → sum_by g (change_in slot (with_waiting w) l) ≡ sum_by g l
  seen_sum w slot g same [] = refl
  seen_sum w slot g same (e ∷ l) =
      let now = sum_by-cons g (e.0, cond (nat_eq slot (e.1).slot) (with_waiting w e.1) e.1) (change_in slot (with_waiting w) l) in
      omega (arith, now, sum_by-cons g e l, each (nat_eq slot (e.1).slot), seen_sum w slot g same l)
    where
      each : (b : Bool) → g (e.0, cond b (with_waiting w e.1) e.1) ≡ g e
      each true = same e.0 e.1
      each false = refl

  pub seen_fields : (w : Bool) (slot m : ℕ) (l : List (ℕ × SlotEntry B)) → fields_in m (change_in slot (with_waiting w) l)
      ≡ fields_in m l
  seen_fields w slot m [] = refl
  seen_fields w slot m (e ∷ l) =
      let now = sum_by-cons (holding m) (cond (nat_eq slot (e.1).slot) (with_waiting w e.1) e.1) (values_of (change_in slot (with_waiting w) l)) in
      omega (arith, now, sum_by-cons (holding m) e.1 (values_of l), each (nat_eq slot (e.1).slot), seen_fields w slot m l)
    where
      each : (b : Bool) → holding m (cond b (with_waiting w e.1) e.1) ≡ holding m e.1
      each true = refl
      each false = refl

  pub seen_length : (w : Bool) (slot : ℕ) (l : List (ℕ × SlotEntry B)) → length (change_in slot (with_waiting w) l) ≡ length l
  seen_length w slot [] = refl
  seen_length w slot (e ∷ l) = ap suc (seen_length w slot l)

  pub seen_stored : (w : Bool) (slot : ℕ) (l : List (ℕ × SlotEntry B)) → AreStored l
      → AreStored (change_in slot (with_waiting w) l)
  seen_stored w slot l s = record {
    in_order = seen_order w slot l s.in_order;
    apart =
        λ place one other here there. s.apart place one other
        (in_face one place l (change_in slot (with_waiting w) l) (sym (seen_face w slot l one)) here)
        (in_face other place l (change_in slot (with_waiting w) l) (sym (seen_face w slot l other)) there);
  }

  pub seen_covered : (w : Bool) (slot : ℕ) (l : List (ℕ × SlotEntry B)) → ((m : ℕ) → fields_in m l ≤ counted m l) → (m : ℕ)
      → fields_in m (change_in slot (with_waiting w) l) ≤ counted m (change_in slot (with_waiting w) l)
  seen_covered w slot l covered m = omega (arith, seen_fields w slot m l, seen_counted w slot l m, covered m)

  -- what a contract sees of them is the same
  living_seen_among : (w : Bool) (slot : ℕ) (now all : List (ℕ × SlotEntry B)) → ((m : ℕ) → fields_in m now ≡ fields_in m all)
      → (l : List (ℕ × SlotEntry B)) → living_among now (change_in slot (with_waiting w) l) ≡ living_among all l
  living_seen_among w slot now all same [] = refl
  living_seen_among w slot now all same (e ∷ l) =
      ap (λ (x : Living B). (e.0, x) ∷ living_among now (change_in slot (with_waiting w) l)) (each (nat_eq slot (e.1).slot) ∙ ap (λ (n : ℕ). living n e.1) (same e.0))
      ∙ ap (λ (rest : List (ℕ × Living B)). (e.0, living (fields_in e.0 all) e.1) ∷ rest) (living_seen_among w slot now all same l)
    where
      each : (b : Bool) → living (fields_in e.0 now) (cond b (with_waiting w e.1) e.1) ≡ living (fields_in e.0 now) e.1
      each true = refl
      each false = refl

  pub living_seen : (w : Bool) (slot : ℕ) (l : List (ℕ × SlotEntry B))
      → living_in (change_in slot (with_waiting w) l) ≡ living_in l
  living_seen w slot l = living_seen_among w slot (change_in slot (with_waiting w) l) l (λ m. seen_fields w slot m l) l

  -- a slot that is taken from the list and put back waits
  pub seen_again : (slot : ℕ) (l : List (ℕ × SlotEntry B))
      → change_in slot (with_waiting true) (change_in slot (with_waiting false) l) ≡ change_in slot (with_waiting true) l
  seen_again slot [] = refl
  seen_again slot (e ∷ l) =
      ap (λ (p : SlotEntry B). (e.0, p) ∷ change_in slot (with_waiting true) (change_in slot (with_waiting false) l)) (go (nat_eq slot (e.1).slot) refl)
      ∙ ap (λ (rest : List (ℕ × SlotEntry B)). (e.0, cond (nat_eq slot (e.1).slot) (with_waiting true e.1) e.1) ∷ rest) (seen_again slot l)
    where
      again : Bool → SlotEntry B → SlotEntry B
      again b p = cond b (with_waiting true p) p

      go : (b : Bool) → nat_eq slot (e.1).slot ≡ b
          → again (nat_eq slot (cond b (with_waiting false e.1) e.1).slot) (cond b (with_waiting false e.1) e.1) ≡ again b e.1
      go true is = ap (λ (b : Bool). again b (with_waiting false e.1)) is
      go false is = ap (λ (b : Bool). again b e.1) is
