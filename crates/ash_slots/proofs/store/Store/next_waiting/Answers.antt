use Rattle.std.proofs.Common.{sym, ap, ◌∙◌, refl, subst, List, ℕ, true, false, ◌≡◌, arith, length}
use Rattle.std.specs.Prelude.{IfSome}
use Rattle.std.specs.List.{Contains}
use Rattle.std.specs.Option.{option_copied_mut}
use Rattle.slab.specs.Slab.{get}
use Rattle.ash_slots.specs.Store.{with_waiting}
use Rattle.ash_slots.proofs.Placing.{none_waits, are_stored}
use Rattle.ash_slots.proofs.Moving.{nothing_in}
use Rattle.ash_slots.proofs.Writing.{popped_stored, popped_empty, change_empty, writes_value, written_in}
use Rattle.ash_slots.proofs.store.Store.next_waiting.Goals as goal

pub returns-in_default-clause-none : goal.returns-in_default-clause-none
returns-in_default-clause-none g c =
    let none = rw c.in_default.is at c.pop.ensures.cases in
    let empty : length c.self.inside.idle.items ≡ 0 = omega (arith, none.0) in
    rw (← c.self.view_is) (none_waits c.self.inside.entries c.self.inside.index.entries c.self.invariant.placed (subst (λ (l : List ℕ). (slot : ℕ) → IfSome (get c.self.inside.entries slot) (λ entry. entry.waiting ≡ true → Contains l slot)) (nothing_in c.self.inside.idle.items empty) c.self.invariant.listed))

pub invariant_of-self-in_default-get_mut : goal.invariant_of-self-in_default-get_mut
invariant_of-self-in_default-get_mut g c =
    rw c.pop.ensures.capacity (popped_empty c.self.inside.entries c.self.inside.index.entries _ _ _ c.in-Some.slot (rw c.in-Some.is at c.pop.ensures.items) (sym c.get_mut.ensures.value ∙ ap option_copied_mut c.in_default-get_mut.is) c.self.invariant)

pub returns-in_default-get_mut-clause-objects : goal.returns-in_default-get_mut-clause-objects
returns-in_default-get_mut-clause-objects g c =
    rw (← c.self.view_is) (sym (change_empty (with_waiting false) c.self.inside.entries c.in-Some.slot (sym c.get_mut.ensures.value ∙ ap option_copied_mut c.in_default-get_mut.is) c.self.inside.index.entries c.self.invariant.placed))

pub invariant_of-self-2 : goal.invariant_of-self-2
invariant_of-self-2 g c =
    rw c.pop.ensures.capacity (popped_stored c.self.inside.entries c.self.inside.index.entries _ _ _ c.in-Some.slot c.in-Some-get_mut.entry.now _ (rw c.in-Some.is at c.pop.ensures.items) (sym c.get_mut.ensures.value ∙ ap option_copied_mut c.in-Some-get_mut.is) refl refl c.self.invariant)

pub returns-clause-objects : goal.returns-clause-objects
returns-clause-objects g c =
    rw (← c.self.view_is) (written_in (writes_value c.self.inside.entries c.in-Some.slot c.in-Some-get_mut.entry.now _ (sym c.get_mut.ensures.value ∙ ap option_copied_mut c.in-Some-get_mut.is) refl) (with_waiting false) (λ s. refl) c.self.inside.index.entries)

pub returns-in_default-clause-stored : goal.returns-in_default-clause-stored
returns-in_default-clause-stored g c =
    rw (← c.self.view_is)
    (are_stored c.self.inside.entries c.self.inside.index.entries c.self.invariant.in_order
    c.self.invariant.placed)

pub returns-in_default-get_mut-clause-stored : goal.returns-in_default-get_mut-clause-stored
returns-in_default-get_mut-clause-stored g c =
    rw (← c.self.view_is)
    (are_stored c.self.inside.entries c.self.inside.index.entries c.self.invariant.in_order
    c.self.invariant.placed)

pub returns-clause-stored : goal.returns-clause-stored
returns-clause-stored g c =
    rw (← c.self.view_is)
    (are_stored c.self.inside.entries c.self.inside.index.entries c.self.invariant.in_order
    c.self.invariant.placed)
