use Rattle.std.proofs.Common.{sym, ◌∙◌, refl, subst, Option, List, ℕ}
use Rattle.std.specs.Prelude.{IsSome}
use Rattle.std.proofs.lemmas.Map.Keys.{IsStrictlyIncreasing-from_sorted}
use Rattle.ash_slots.specs.declared.entry.Entry.{Entry}
use Rattle.ash_slots.specs.Store.{ArePlaced}
use Rattle.ash_slots.proofs.Placing.{item_in, entry_in, numbers-placed}
use Rattle.ash_slots.proofs.Moving.{SameBut, removed_in, removed_stored}
use Rattle.ash_slots.proofs.Removing.{removed_by_number}
use Rattle.ash_slots.proofs.store.Store.remove.Goals as goal

pub remove-entry-requires : goal.remove-entry-requires
remove-entry-requires g c =
    let at = rw (← c.self.view_is) at c.requires.occupied.1 in
    let e = entry_in c.requires.occupied.0 c.args.slot c.self.inside.entries c.self.inside.index.entries c.self.invariant.placed at in
    subst (λ (o : Option (Entry _)). IsSome o) (sym e.1) refl

pub invariant_of-self : goal.invariant_of-self
invariant_of-self g c =
    removed_stored c.self.inside.entries _ c.self.inside.index.entries _ _ _ c.args.slot c.remove-entry.result c.remove-entry.ensures.value c.remove-entry.ensures.updates c.remove-entry.ensures.slots
    (IsStrictlyIncreasing-from_sorted _ c.remove.ensures.ordered)
    (c.remove.ensures.entries ∙ removed_by_number c.remove-entry.result.number c.self.inside.index.entries) c.self.invariant

pub returns-clause-number : goal.returns-clause-number
returns-clause-number g c =
    let at = rw (← c.self.view_is) at c.requires.occupied.1 in
    let found = item_in c.requires.occupied.0 c.args.slot c.self.inside.entries c.self.inside.index.entries c.remove-entry.result c.self.invariant.placed c.remove-entry.ensures.value at in
    rw (← c.self.view_is, found.1, found.0) refl

pub returns-clause-item : goal.returns-clause-item
returns-clause-item g c =
    let at = rw (← c.self.view_is) at c.requires.occupied.1 in
    let found = item_in c.requires.occupied.0 c.args.slot c.self.inside.entries c.self.inside.index.entries c.remove-entry.result c.self.invariant.placed c.remove-entry.ensures.value at in
    rw (← c.self.view_is, found.1, found.0) refl

pub returns-clause-objects : goal.returns-clause-objects
returns-clause-objects g c =
    let others : SameBut c.self.inside.entries c.remove-entry.new.self c.args.slot = record { same = c.remove-entry.ensures.updates.others } in
    rw (← c.self.view_is, c.remove.ensures.entries, removed_by_number c.remove-entry.result.number c.self.inside.index.entries) (removed_in others c.remove-entry.result.number c.remove-entry.result c.remove-entry.ensures.value refl c.self.inside.index.entries c.self.invariant.in_order c.self.invariant.placed).0

pub returns-clause-in_order : goal.returns-clause-in_order
returns-clause-in_order g c =
    let others : SameBut c.self.inside.entries c.remove-entry.new.self c.args.slot = record { same = c.remove-entry.ensures.updates.others } in
    let placed = (removed_in others c.remove-entry.result.number c.remove-entry.result c.remove-entry.ensures.value refl c.self.inside.index.entries c.self.invariant.in_order c.self.invariant.placed).1 in
    let is = c.remove.ensures.entries ∙ removed_by_number c.remove-entry.result.number c.self.inside.index.entries in
    let there = subst (λ (l : List (ℕ × ℕ)). ArePlaced c.remove-entry.new.self l) (sym is) placed in
    rw (numbers-placed c.remove-entry.new.self c.remove.new.self.entries there) (IsStrictlyIncreasing-from_sorted _ c.remove.ensures.ordered)
