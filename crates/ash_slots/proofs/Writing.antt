-- What a write of a slot leaves.
use Rattle.std.proofs.Common.{◌≡◌, ◌≢◌, ℕ, Bool, true, false, cond, List, [], ◌∷◌, ◌++◌, inl, inr, refl, sym, subst, ap, ◌∙◌, nat_eq, arith, Option, Some, None, length, zero, suc, ◌+◌, ◌<◌, get_or, count_by, not}
use Rattle.std.specs.Prelude.{IsSomeAnd, IsSome, IfSome}
use Rattle.std.specs.List.{Contains}
use Rattle.std.proofs.lemmas.Bool.{eqb-true, eq-eqb}
use Rattle.std.proofs.lemmas.List.Sums.{sum_by-set}
use Rattle.std.proofs.lemmas.List.Elements.{Contains-append_left, Contains-append_right, Contains-append_cases}
use Rattle.slab.specs.Slab.{Slab, get, with_value, Updates}
use Rattle.slab.proofs.SlabLemmas.{Updates-with_value, ContainsKey-within}
use Rattle.std.proofs.lemmas.List.{length-append}
use Rattle.ash_host.specs.Objects.{object_at}
use Rattle.ash_slots.specs.declared.entry.Entry.{Entry}
use Rattle.ash_slots.specs.Store.{SlotEntry, placed, with_entry, placed_in, ArePlaced, IsStored, is_unlisted, change_in}

apart_from : (x y : ℕ) → nat_eq x y ≡ false → y ≢ x
apart_from x y h = λ same. let yes = eq-eqb x y (sym same) in cc

one_in : (x y : ℕ) → Contains (x ∷ []) y → x ≡ y
one_in x y h = at h.0 h.1 h.2
  where
    at : (k : ℕ) → k < 1 → get_or (x ∷ []) k y ≡ y → x ≡ y
    at zero within found = found
    at (suc k) within found = absurd (omega arith)

module _ {B : Type 0} where
  -- one slot of a slab was written, and the number in it stays
  pub record Writes (old new : Slab (Entry B)) (slot : ℕ) (before after : Entry B) : Type 0 where
    pub was : get old slot ≡ Some before
    pub updates : Updates old new slot (Some after)
    pub number : after.number ≡ before.number

  pub writes_value : (entries : Slab (Entry B)) (slot : ℕ) (before after : Entry B) → get entries slot ≡ Some before
      → after.number ≡ before.number → Writes entries (with_value entries slot after) slot before after
  writes_value entries slot before after was number = record {
    was = was;
    updates = Updates-with_value entries slot after (subst (λ (o : Option (Entry B)). IsSome o) (sym was) refl);
    number = number;
  }

  module _ {old new : Slab (Entry B)} {slot : ℕ} {before after : Entry B} (w : Writes old new slot before after) where
    -- the object in the slot is changed so, and no other
    pub written_in : (change : SlotEntry B → SlotEntry B) → ((s : ℕ) → placed s after ≡ change (placed s before))
        → (index : List (ℕ × ℕ)) → placed_in new index ≡ change_in slot change (placed_in old index)
    written_in change same [] = refl
    written_in change same (e ∷ index) =
        go (nat_eq slot e.1) refl (get old e.1) refl (written_in change same index)
      where
        rest : List (ℕ × SlotEntry B)
        rest = placed_in old index

        go : (b : Bool) → nat_eq slot e.1 ≡ b → (o : Option (Entry B)) → get old e.1 ≡ o → placed_in new index
            ≡ change_in slot change rest → with_entry e.0 e.1 (get new e.1) (placed_in new index)
            ≡ change_in slot change (with_entry e.0 e.1 o rest)
        go true is o at later =
            let slot_is : slot ≡ e.1 = eqb-true slot e.1 is in
            let now : get new e.1 ≡ Some after = sym (ap (λ (s : ℕ). get new s) slot_is) ∙ w.updates.changed in
            let then : o ≡ Some before = sym at ∙ sym (ap (λ (s : ℕ). get old s) slot_is) ∙ w.was in
            let head : placed e.1 after ≡ cond (nat_eq slot e.1) (change (placed e.1 before)) (placed e.1 before) = same e.1 ∙ sym (ap (λ (b : Bool). cond b (change (placed e.1 before)) (placed e.1 before)) is) in
            ap (λ (v : Option (Entry B)). with_entry e.0 e.1 v (placed_in new index)) now
            ∙ ap (λ (p : SlotEntry B). (e.0, p) ∷ placed_in new index) head
            ∙ ap (λ (l : List (ℕ × SlotEntry B)). (e.0, cond (nat_eq slot e.1) (change (placed e.1 before)) (placed e.1 before)) ∷ l) later
            ∙ sym (ap (λ (v : Option (Entry B)). change_in slot change (with_entry e.0 e.1 v rest)) then)
        go false is None at later =
            let now : get new e.1 ≡ None = w.updates.others e.1 (apart_from slot e.1 is) ∙ at in
            ap (λ (v : Option (Entry B)). with_entry e.0 e.1 v (placed_in new index)) now ∙ later
        go false is (Some x) at later =
            let now : get new e.1 ≡ Some x = w.updates.others e.1 (apart_from slot e.1 is) ∙ at in
            let head : placed e.1 x ≡ cond (nat_eq slot e.1) (change (placed e.1 x)) (placed e.1 x) = sym (ap (λ (b : Bool). cond b (change (placed e.1 x)) (placed e.1 x)) is) in
            ap (λ (v : Option (Entry B)). with_entry e.0 e.1 v (placed_in new index)) now
            ∙ ap (λ (p : SlotEntry B). (e.0, p) ∷ placed_in new index) head
            ∙ ap (λ (l : List (ℕ × SlotEntry B)). (e.0, cond (nat_eq slot e.1) (change (placed e.1 x)) (placed e.1 x)) ∷ l) later

    -- each number stays in its slot
    pub still_placed : (index : List (ℕ × ℕ)) → ArePlaced old index → ArePlaced new index
    still_placed [] a = tt
    still_placed (e ∷ index) a =
        (go (nat_eq slot e.1) refl, still_placed index a.1)
      where
        go : (b : Bool) → nat_eq slot e.1 ≡ b → IsSomeAnd (get new e.1) (λ entry. entry.number ≡ e.0)
        go true is =
            let slot_is : slot ≡ e.1 = eqb-true slot e.1 is in
            let now : get new e.1 ≡ Some after = sym (ap (λ (s : ℕ). get new s) slot_is) ∙ w.updates.changed in
            let then : get old e.1 ≡ Some before = sym (ap (λ (s : ℕ). get old s) slot_is) ∙ w.was in
            let number : before.number ≡ e.0 = subst (λ (o : Option (Entry B)). IsSomeAnd o (λ entry. entry.number ≡ e.0)) then a.0 in
            subst (λ (o : Option (Entry B)). IsSomeAnd o (λ entry. entry.number ≡ e.0)) (sym now) (w.number ∙ number)
        go false is =
            subst (λ (o : Option (Entry B)). IsSomeAnd o (λ entry. entry.number ≡ e.0)) (sym (w.updates.others e.1 (apart_from slot e.1 is))) a.0

    -- what is true of each entry stays so where it is true of what was written
    pub still_each : (P : ℕ → Entry B → Type 0) → P slot after → ((s : ℕ) → IfSome (get old s) (P s)) → (s : ℕ)
        → IfSome (get new s) (P s)
    still_each P here each s =
        go (nat_eq slot s) refl
      where
        go : (b : Bool) → nat_eq slot s ≡ b → IfSome (get new s) (P s)
        go true is =
            let slot_is : slot ≡ s = eqb-true slot s is in
            subst (λ (k : ℕ). IfSome (get new k) (P k)) slot_is (subst (λ (o : Option (Entry B)). IfSome o (P slot)) (sym w.updates.changed) here)
        go false is =
            subst (λ (o : Option (Entry B)). IfSome o (P s)) (sym (w.updates.others s (apart_from slot s is)))
            (each s)

  -- the number of entries that aren't listed, after one was written
  pub unlisted-written : (entries : Slab (Entry B)) (slot : ℕ) (before after : Entry B) → get entries slot ≡ Some before → count_by is_unlisted ((with_value entries slot after).slots) + cond {A = ℕ} (not before.waiting) 1 0 ≡ count_by is_unlisted entries.slots + cond {A = ℕ} (not after.waiting) 1 0
  unlisted-written entries slot before after was =
      let within = ContainsKey-within entries slot (subst (λ (o : Option (Entry B)). IsSome o) (sym was) refl) in
      let sums = sum_by-set (λ (o : Option (Entry B)). cond {A = ℕ} (is_unlisted o) 1 0) entries.slots slot (Some after) None within in
      let there = ap (λ (o : Option (Entry B)). cond {A = ℕ} (is_unlisted o) 1 0) was in
      omega (arith, sums, there)

  -- the index leads to each entry still
  still_whole : {old new : Slab (Entry B)} {slot : ℕ} {before after : Entry B} (w : Writes old new slot before after)
      (index : List (ℕ × ℕ)) → ((s : ℕ) → IfSome (get old s) (λ entry. object_at entry.number index ≡ Some s))
      → (s : ℕ) → IfSome (get new s) (λ entry. object_at entry.number index ≡ Some s)
  still_whole {old} {new} {slot} {before} {after} w index whole =
      let mine : object_at before.number index ≡ Some slot = subst (λ (o : Option (Entry B)). IfSome o (λ entry. object_at entry.number index ≡ Some slot)) w.was (whole slot) in
      still_each w (λ k entry. object_at entry.number index ≡ Some k) (ap (λ (k : ℕ). object_at k index) w.number ∙ mine) whole

  -- a write that leaves the flag leaves all in order
  pub still_stored : (entries : Slab (Entry B)) (index : List (ℕ × ℕ)) (idle : List ℕ) (room slot : ℕ)
      (before after : Entry B) → get entries slot ≡ Some before → after.number ≡ before.number
      → after.waiting ≡ before.waiting → IsStored entries index idle room
      → IsStored (with_value entries slot after) index idle room
  still_stored entries index idle room slot before after was number flag s =
      let w = writes_value entries slot before after was number in
      let mine : before.waiting ≡ true → Contains idle slot = subst (λ (o : Option (Entry B)). IfSome o (λ entry. entry.waiting ≡ true → Contains idle slot)) was (s.listed slot) in
      let count = unlisted-written entries slot before after was in
      let same = ap (λ (b : Bool). cond {A = ℕ} (not b) 1 0) flag in
      let fits = s.fits in
      record {
        in_order = s.in_order;
        placed = still_placed w index s.placed;
        whole = still_whole w index s.whole;
        listed =
            still_each w (λ k entry. entry.waiting ≡ true → Contains idle k) (λ yes. mine (sym flag ∙ yes)) s.listed;
        fits = omega (arith, count, same, fits);
      }

  -- an entry that is listed now leaves all in order
  pub listed_stored : (entries : Slab (Entry B)) (index : List (ℕ × ℕ)) (idle : List ℕ) (room slot : ℕ)
      (before after : Entry B) → get entries slot ≡ Some before → after.number ≡ before.number
      → before.waiting ≡ false → after.waiting ≡ true → IsStored entries index idle room
      → IsStored (with_value entries slot after) index (idle ++ slot ∷ []) room
  listed_stored entries index idle room slot before after was number then now s =
      let w = writes_value entries slot before after was number in
      let count = unlisted-written entries slot before after was in
      let one = ap (λ (b : Bool). cond {A = ℕ} (not b) 1 0) then in
      let none = ap (λ (b : Bool). cond {A = ℕ} (not b) 1 0) now in
      let fits = s.fits in
      let longer = length-append idle (slot ∷ []) in
      record {
        in_order = s.in_order;
        placed = still_placed w index s.placed;
        whole = still_whole w index s.whole;
        listed =
            still_each w (λ k entry. entry.waiting ≡ true → Contains (idle ++ slot ∷ []) k)
            (λ yes. Contains-append_right idle (slot ∷ []) slot (0, omega arith, refl))
            (λ k. more k (get entries k) (s.listed k));
        fits = omega (arith, count, one, none, fits, longer);
      }
    where
      more : (k : ℕ) (o : Option (Entry B)) → IfSome o (λ entry. entry.waiting ≡ true → Contains idle k)
          → IfSome o (λ entry. entry.waiting ≡ true → Contains (idle ++ slot ∷ []) k)
      more k None h = tt
      more k (Some x) h = λ yes. Contains-append_left idle (slot ∷ []) k (h yes)

  -- what is listed still once the last of the list was taken from it
  pub popped_listed : (old new : Slab (Entry B)) (slot : ℕ) (idle rest : List ℕ) → idle ≡ rest ++ slot ∷ []
      → ((s : ℕ) → s ≢ slot → get new s ≡ get old s) → IfSome (get new slot) (λ entry. entry.waiting ≡ false)
      → ((s : ℕ) → IfSome (get old s) (λ entry. entry.waiting ≡ true → Contains idle s)) → (s : ℕ)
      → IfSome (get new s) (λ entry. entry.waiting ≡ true → Contains rest s)
  popped_listed old new slot idle rest is others unflagged each s =
      go (nat_eq slot s) refl
    where
      none : (o : Option (Entry B)) → IfSome o (λ entry. entry.waiting ≡ false)
          → IfSome o (λ entry. entry.waiting ≡ true → Contains rest s)
      none None h = tt
      none (Some x) h = λ yes. absurd (cc)

      some : slot ≢ s → (o : Option (Entry B)) → IfSome o (λ entry. entry.waiting ≡ true → Contains idle s)
          → IfSome o (λ entry. entry.waiting ≡ true → Contains rest s)
      some apart None h = tt
      some apart (Some x) h = λ yes.
          let there : Contains (rest ++ slot ∷ []) s = subst (λ (l : List ℕ). Contains l s) is (h yes) in
          elim (Contains-append_cases rest (slot ∷ []) s there) [
            | inl here ↦ here
            | inr last ↦ absurd (apart (one_in slot s last))
          ]

      go : (b : Bool) → nat_eq slot s ≡ b → IfSome (get new s) (λ entry. entry.waiting ≡ true → Contains rest s)
      go true same =
          let slot_is : slot ≡ s = eqb-true slot s same in
          none (get new s) (subst (λ (k : ℕ). IfSome (get new k) (λ entry. entry.waiting ≡ false)) slot_is unflagged)
      go false same =
          let apart = apart_from slot s same in
          subst (λ (o : Option (Entry B)). IfSome o (λ entry. entry.waiting ≡ true → Contains rest s)) (sym (others s apart)) (some (λ e. apart (sym e)) (get old s) (each s))

  -- an entry that was taken from the list leaves all in order
  pub popped_stored : (entries : Slab (Entry B)) (index : List (ℕ × ℕ)) (idle rest : List ℕ) (room slot : ℕ)
      (before after : Entry B) → idle ≡ rest ++ slot ∷ [] → get entries slot ≡ Some before
      → after.number ≡ before.number → after.waiting ≡ false → IsStored entries index idle room
      → IsStored (with_value entries slot after) index rest room
  popped_stored entries index idle rest room slot before after is was number now s =
      let w = writes_value entries slot before after was number in
      let count = unlisted-written entries slot before after was in
      let none = ap (λ (b : Bool). cond {A = ℕ} (not b) 1 0) now in
      let fits = s.fits in
      let longer = ap length is ∙ length-append rest (slot ∷ []) in
      record {
        in_order = s.in_order;
        placed = still_placed w index s.placed;
        whole = still_whole w index s.whole;
        listed =
            popped_listed entries (with_value entries slot after) slot idle rest is w.updates.others
            (subst (λ (o : Option (Entry B)). IfSome o (λ entry. entry.waiting ≡ false))
            (sym w.updates.changed) now) s.listed;
        fits = omega (arith, count, none, fits, longer);
      }

  -- the same where the slot was empty
  pub popped_empty : (entries : Slab (Entry B)) (index : List (ℕ × ℕ)) (idle rest : List ℕ) (room slot : ℕ)
      → idle ≡ rest ++ slot ∷ [] → get entries slot ≡ None → IsStored entries index idle room
      → IsStored entries index rest room
  popped_empty entries index idle rest room slot is none s =
      let fits = s.fits in
      let longer = ap length is ∙ length-append rest (slot ∷ []) in
      record {
        in_order = s.in_order;
        placed = s.placed;
        whole = s.whole;
        listed =
            popped_listed entries entries slot idle rest is
            (λ k apart. refl) (subst (λ (o : Option (Entry B)). IfSome o (λ entry. entry.waiting ≡ false))
            (sym none) tt) s.listed;
        fits = omega (arith, fits, longer);
      }

  -- no object is in an empty slot
  pub change_empty : (change : SlotEntry B → SlotEntry B) (entries : Slab (Entry B)) (slot : ℕ) → get entries slot ≡ None
      → (index : List (ℕ × ℕ)) → ArePlaced entries index → change_in slot change (placed_in entries index)
      ≡ placed_in entries index
  change_empty change entries slot none [] a = refl
  change_empty change entries slot none (e ∷ index) a =
      go (get entries e.1) refl a.0 (nat_eq slot e.1) refl (change_empty change entries slot none index a.1)
    where
      rest : List (ℕ × SlotEntry B)
      rest = placed_in entries index

      go : (o : Option (Entry B)) → get entries e.1 ≡ o → IsSomeAnd o (λ entry. entry.number ≡ e.0) → (b : Bool)
          → nat_eq slot e.1 ≡ b → change_in slot change rest ≡ rest
          → change_in slot change (with_entry e.0 e.1 o rest) ≡ with_entry e.0 e.1 o rest
      go None at h b is later = absurd h
      go (Some x) at h true is later =
          let slot_is : slot ≡ e.1 = eqb-true slot e.1 is in
          let both : None ≡ Some x = sym none ∙ ap (λ (s : ℕ). get entries s) slot_is ∙ at in
          cc
      go (Some x) at h false is later =
          let head : cond (nat_eq slot e.1) (change (placed e.1 x)) (placed e.1 x) ≡ placed e.1 x = ap (λ (b : Bool). cond b (change (placed e.1 x)) (placed e.1 x)) is in
          ap (λ (p : SlotEntry B). (e.0, p) ∷ change_in slot change rest) head ∙ ap (λ (l : List (ℕ × SlotEntry B)). (e.0, placed e.1 x) ∷ l) later
