-- The list of the slots of objects that were made or changed, and what changes of objects leave of it.
use Rattle.std.proofs.Common.{◌≡◌, ℕ, Bool, true, false, cond, List, [], ◌∷◌, ◌++◌, refl, sym, subst, ap, ◌∙◌, nat_eq, arith, Option, Some, None, ◌<◌}
use Rattle.std.specs.Prelude.{IsSomeAnd, IsSome, IfSome}
use Rattle.std.specs.Option.{option_map}
use Rattle.std.specs.List.{Contains}
use Rattle.std.proofs.lemmas.Bool.{eqb-true}
use Rattle.ash_host.specs.Objects.{object_at, Lives, with_at}
use Rattle.ash_host.proofs.Order.{object_at-with_at}
use Rattle.ash_slots.specs.Store.{SlotEntry, IsIn, change_at}
use Rattle.ash_slots.proofs.Changing.{object_at-change}
use Rattle.ash_objects.specs.Table.{Living}
use Rattle.ash_objects.specs.Counting.{face, face_at}
use Rattle.ash_objects.specs.Marking.{unmarked}
use Rattle.ash_objects.specs.Listing.{Marks, Covers, AreListed}
use Rattle.ash_objects.proofs.Flags.{last_or}

module _ {B : Type 0} where
  -- what holds of each object where it is listed
  IsAt : Marks → SlotEntry B → Type 0
  IsAt marks object = (object.slot < marks.room) × ((object.item).touched ≡ true → Contains marks.slots object.slot)

  -- a longer list
  pub listed_covers : (l : List (ℕ × SlotEntry B)) (a b : Marks) → Covers a b → AreListed l a → AreListed l b
  unfolding IsAt
  listed_covers l a b c h n = go (object_at n l) (h n)
    where
      go : (v : Option (SlotEntry B)) → IfSome v (IsAt a) → IfSome v (IsAt b)
      go None h = tt
      go (Some p) h = let more = c.room in let within = h.0 in (omega (arith, more, within), λ yes. c.slots p.slot (h.1 yes))

  -- no objects
  pub listed_none : (l : List (ℕ × SlotEntry B)) (marks : Marks) → l ≡ [] → AreListed l marks
  listed_none l marks is n =
      subst (λ (k : List (ℕ × SlotEntry B)). IfSome (object_at n k) (λ object. (object.slot < marks.room)
      × ((object.item).touched ≡ true → Contains marks.slots object.slot))) (sym is) tt

  -- objects that are seen as they were but for their counts, some of which may have gone
  pub listed_left : (new old : List (ℕ × SlotEntry B)) (marks : Marks)
      → ((m : ℕ) → Lives new m → face_at m new ≡ face_at m old) → AreListed old marks → AreListed new marks
  unfolding IsAt
  listed_left new old marks same h n = go (object_at n new) refl (object_at n old) refl (h n)
    where
      go : (v : Option (SlotEntry B)) → object_at n new ≡ v → (u : Option (SlotEntry B)) → object_at n old ≡ u
          → IfSome u (IsAt marks) → IfSome v (IsAt marks)
      go None is u at h = tt
      go (Some p) is u at h =
          let lives : Lives new n = subst (λ (v : Option (SlotEntry B)). IsSome v) (sym is) refl in
          each u (sym (ap (λ (v : Option (SlotEntry B)). option_map face v) is) ∙ same n lives ∙ ap (λ (v : Option (SlotEntry B)). option_map face v) at) h
        where
          each : (u : Option (SlotEntry B)) → Some (face p) ≡ option_map face u → IfSome u (IsAt marks) → IsAt marks p
          each None e h = absurd (cc)
          each (Some q) e h =
              let one : face p ≡ face q = cc in
              let slot : q.slot ≡ p.slot = ap (λ (x : Living B). x.slot) (sym one) in
              let flag : (p.item).touched ≡ (q.item).touched = ap (λ (x : Living B). x.touched) one in
              let within = h.0 in
              (omega (arith, slot, within), λ yes. subst (λ (k : ℕ). Contains marks.slots k) slot (h.1 (sym flag ∙ yes)))

  pub listed_faces : (new old : List (ℕ × SlotEntry B)) (marks : Marks) → ((m : ℕ) → face_at m new ≡ face_at m old)
      → AreListed old marks → AreListed new marks
  listed_faces new old marks same h = listed_left new old marks (λ m lives. same m) h

  -- an object that was changed in a slot that is listed
  pub listed_change : (n slot : ℕ) (f : SlotEntry B → SlotEntry B) (l : List (ℕ × SlotEntry B)) (marks : Marks)
      → ((p : SlotEntry B) → (f p).slot ≡ p.slot) → IsIn n slot l → Contains marks.slots slot → AreListed l marks
      → AreListed (change_at n f l) marks
  unfolding IsAt
  listed_change n slot f l marks keeps here listed h m =
      subst (λ (v : Option (SlotEntry B)). IfSome v (IsAt marks)) (sym (object_at-change n f m l)) (go (nat_eq n m) refl (object_at m l) refl (h m))
    where
      own : nat_eq n m ≡ true → (p : SlotEntry B) → object_at m l ≡ Some p → p.slot ≡ slot
      own same p is =
          subst (λ (v : Option (SlotEntry B)). IsSomeAnd v (λ object. object.slot ≡ slot))
          (ap (λ (k : ℕ). object_at k l) (eqb-true n m same) ∙ is) here

      go : (b : Bool) → nat_eq n m ≡ b → (v : Option (SlotEntry B)) → object_at m l ≡ v → IfSome v (IsAt marks)
          → IfSome (cond b (option_map f v) v) (IsAt marks)
      go false same v is h = h
      go true same None is h = tt
      go true same (Some p) is h =
          let slot_is = own same p is in
          let stays = keeps p in
          let within = h.0 in
          (omega (arith, stays, within), λ yes. subst (λ (k : ℕ). Contains marks.slots k) (sym (stays ∙ slot_is)) listed)

  -- a new object
  pub listed_new : (n : ℕ) (p : SlotEntry B) (l : List (ℕ × SlotEntry B)) (marks : Marks) → p.slot < marks.room
      → ((p.item).touched ≡ true → Contains marks.slots p.slot) → AreListed l marks → AreListed (with_at n p l) marks
  unfolding IsAt
  listed_new n p l marks within listed h m =
      subst (λ (v : Option (SlotEntry B)). IfSome v (IsAt marks)) (sym (object_at-with_at n p m l)) (go (nat_eq m n) (object_at m l) (h m))
    where
      go : (b : Bool) (v : Option (SlotEntry B)) → IfSome v (IsAt marks) → IfSome (cond b (Some p) v) (IsAt marks)
      go true v h = (within, listed)
      go false v h = h

  -- the slot of an object can be listed
  pub slot_within : (n slot : ℕ) (l : List (ℕ × SlotEntry B)) (marks : Marks) → IsIn n slot l → AreListed l marks
      → slot < marks.room
  slot_within n slot l marks here h = go (object_at n l) here (h n)
    where
      go : (v : Option (SlotEntry B)) → IsSomeAnd v (λ object. object.slot ≡ slot)
          → IfSome v (λ object. (object.slot < marks.room)
          × ((object.item).touched ≡ true → Contains marks.slots object.slot)) → slot < marks.room
      go None is h = absurd is
      go (Some p) is h = let within = h.0 in omega (arith, is, within)

  -- one mark that was cleared
  pub listed_cleared : (n : ℕ) (l : List (ℕ × SlotEntry B)) (marks : Marks) → AreListed l marks
      → AreListed (change_at n unmarked l) marks
  unfolding IsAt
  listed_cleared n l marks h m =
      subst (λ (v : Option (SlotEntry B)). IfSome v (IsAt marks)) (sym (object_at-change n unmarked m l)) (go (nat_eq n m) (object_at m l) (h m))
    where
      go : (b : Bool) (v : Option (SlotEntry B)) → IfSome v (IsAt marks)
          → IfSome (cond b (option_map unmarked v) v) (IsAt marks)
      go false v h = h
      go true None h = tt
      go true (Some p) h = (h.0, λ yes. absurd (cc))

  -- a slot that was taken from the list, once no object in it has a mark
  pub listed_taken : (slot : ℕ) (l : List (ℕ × SlotEntry B)) (a b : Marks) → a.slots ≡ b.slots ++ slot ∷ []
      → b.room ≡ a.room
      → ((m : ℕ) → IfSome (object_at m l) (λ object. object.slot ≡ slot → (object.item).touched ≡ false))
      → AreListed l a → AreListed l b
  unfolding IsAt
  listed_taken slot l a b is room clear h m = go (object_at m l) (clear m) (h m)
    where
      go : (v : Option (SlotEntry B)) → IfSome v (λ object. object.slot ≡ slot → (object.item).touched ≡ false)
          → IfSome v (IsAt a) → IfSome v (IsAt b)
      go None clear h = tt
      go (Some p) clear h =
          let within = h.0 in
          (omega (arith, room, within), λ yes. last_or b.slots slot p.slot (λ same. let no = clear same in absurd (cc)) (subst (λ (k : List ℕ). Contains k p.slot) is (h.1 yes)))
