use Rattle.std.proofs.Common.{◌≡◌, ◌≤◌, ◌+◌, sym, ap, ◌∙◌, refl, subst, arith, Some, None, Option, ℕ, true, length, vec_capacity, rules}
use Rattle.std.specs.Option.{option_map}
use Rattle.slab.specs.Slab.{Updates, slab_len}
use Rattle.ash_host.specs.Objects.{object_at, with_at}
use Rattle.ash_slots.specs.Store.{SlotEntry, placed_in}
use Rattle.ash_slots.proofs.Placing.{slots_of}
use Rattle.ash_slots.proofs.Moving.{SameBut, stored_regrown, placed_regrown, inserted_stored, inserted_in}
use Rattle.ash_slots.proofs.store.Store.insert.Goals as goal

pub invariant_of-self-then-is_err-2 : goal.invariant_of-self-then-is_err-2
invariant_of-self-then-is_err-2 g c =
    stored_regrown c.self.inside.entries c.reserve.new.self c.reserve.new.self.capacity c.self.inside.index.entries
    c.self.inside.idle.items _ _ c.reserve.ensures.rest_kept (omega arith) c.self.invariant

pub invariant_of-self-then-is_err-3 : goal.invariant_of-self-then-is_err-3
invariant_of-self-then-is_err-3 g c =
    rw c.reserve-2.ensures.items (stored_regrown c.self.inside.entries c.reserve.new.self c.reserve.new.self.capacity c.self.inside.index.entries c.self.inside.idle.items _ _ c.reserve.ensures.rest_kept c.reserve-2.ensures.capacity c.self.invariant)

pub invariant_of-self-then-is_err-4 : goal.invariant_of-self-then-is_err-4
invariant_of-self-then-is_err-4 g c =
    let same : c.insert.new.self.entries ≡ c.self.inside.index.entries = search rules in
    rw (c.reserve-2.ensures.items, same) (stored_regrown c.self.inside.entries c.reserve.new.self c.reserve.new.self.capacity c.self.inside.index.entries c.self.inside.idle.items _ _ c.reserve.ensures.rest_kept c.reserve-2.ensures.capacity c.self.invariant)

pub invariant_of-self-2 : goal.invariant_of-self-2
invariant_of-self-2 g c =
    let absent = rw (← c.self.view_is) at c.requires.unused in
    let none : object_at c.args.number c.self.inside.index.entries ≡ None = sym (slots_of c.args.number c.self.inside.entries c.self.inside.index.entries c.self.invariant.placed) ∙ ap (λ (o : Option (SlotEntry _)). option_map (λ p. p.slot) o) absent in
    let same : c.insert.new.self.entries ≡ with_at c.args.number c.vacant_key-slot.result c.self.inside.index.entries = search rules in
    let at : c.insert_reserved.result ≡ c.vacant_key-slot.result = c.insert_reserved.ensures.key ∙ sym c.vacant_key-slot.ensures.value in
    let u = subst (λ (k : ℕ). Updates c.reserve.new.self c.insert_reserved.new.self k (Some (record { number = c.args.number; waiting = true; item = c.args.item }))) at c.insert_reserved.ensures.updates in
    let fits : length c.self.inside.idle.items + slab_len c.reserve.new.self + 1 ≤ vec_capacity c.reserve-2.new.self = search rules in
    rw (same, c.push_reserved.ensures.items, c.push_reserved.ensures.capacity, c.reserve-2.ensures.items)
    (inserted_stored c.reserve.new.self c.insert_reserved.new.self c.self.inside.index.entries c.self.inside.idle.items _ _ c.vacant_key-slot.result c.args.number (record { number = c.args.number; waiting = true; item = c.args.item }) c.vacant_key-slot.ensures.vacant u refl refl none fits
    (stored_regrown c.self.inside.entries c.reserve.new.self c.reserve.new.self.capacity c.self.inside.index.entries c.self.inside.idle.items _ _ c.reserve.ensures.rest_kept c.reserve-2.ensures.capacity c.self.invariant))

pub returns-clause-objects : goal.returns-clause-objects
returns-clause-objects g c =
    let absent = rw (← c.self.view_is) at c.requires.unused in
    let none : object_at c.args.number c.self.inside.index.entries ≡ None = sym (slots_of c.args.number c.self.inside.entries c.self.inside.index.entries c.self.invariant.placed) ∙ ap (λ (o : Option (SlotEntry _)). option_map (λ p. p.slot) o) absent in
    let same : c.insert.new.self.entries ≡ with_at c.args.number c.vacant_key-slot.result c.self.inside.index.entries = search rules in
    let at : c.insert_reserved.result ≡ c.vacant_key-slot.result = c.insert_reserved.ensures.key ∙ sym c.vacant_key-slot.ensures.value in
    let u = subst (λ (k : ℕ). Updates c.reserve.new.self c.insert_reserved.new.self k (Some (record { number = c.args.number; waiting = true; item = c.args.item }))) at c.insert_reserved.ensures.updates in
    let others : SameBut c.reserve.new.self c.insert_reserved.new.self c.vacant_key-slot.result = record { same = u.others } in
    let s = stored_regrown c.self.inside.entries c.reserve.new.self c.reserve.new.self.capacity c.self.inside.index.entries c.self.inside.idle.items _ _ c.reserve.ensures.rest_kept c.reserve-2.ensures.capacity c.self.invariant in
    let as_was = ap (λ k. placed_in k c.self.inside.index.entries) c.reserve.ensures.rest_kept ∙ placed_regrown c.self.inside.entries c.reserve.new.self.capacity c.self.inside.index.entries in
    rw (← c.self.view_is, same, ← as_was) (inserted_in others c.args.number (record { number = c.args.number; waiting = true; item = c.args.item }) c.vacant_key-slot.ensures.vacant u.changed refl c.self.inside.index.entries s.placed none).0
