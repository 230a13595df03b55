use Rattle.std.proofs.Common.{rules, sym, ap, ◌∙◌, refl, true}
use Rattle.std.specs.Option.{option_copied_mut}
use Rattle.ash_slots.specs.Store.{with_waiting}
use Rattle.ash_slots.proofs.Placing.{not_empty, are_stored}
use Rattle.ash_slots.proofs.Writing.{listed_stored, writes_value, written_in}
use Rattle.ash_slots.proofs.store.Store.queue_for_sweep.Goals as goal

pub unreachable-requires : goal.unreachable-requires
unreachable-requires g c =
    let at = rw (← c.self.view_is) at c.requires.occupied.1 in
    not_empty c.args.slot c.self.inside.entries c.self.inside.index.entries c.self.invariant.placed (c.requires.occupied.0, at) (sym c.get_mut.ensures.value ∙ ap option_copied_mut c.in_default.is)

pub invariant_of-self : goal.invariant_of-self
invariant_of-self g c =
    rw (c.push_reserved.ensures.items, c.push_reserved.ensures.capacity) (listed_stored c.self.inside.entries c.self.inside.index.entries _ _ c.args.slot c.in-Some.entry.now _ (sym c.get_mut.ensures.value ∙ ap option_copied_mut c.in-Some.is) refl (search rules) refl c.self.invariant)

pub returns-then-not-entry-clause-objects : goal.returns-then-not-entry-clause-objects
returns-then-not-entry-clause-objects g c =
    rw (← c.self.view_is) (written_in (writes_value c.self.inside.entries c.args.slot c.in-Some.entry.now _ (sym c.get_mut.ensures.value ∙ ap option_copied_mut c.in-Some.is) refl) (with_waiting true) (λ s. refl) c.self.inside.index.entries)

pub returns-then-not-entry-clause-stored : goal.returns-then-not-entry-clause-stored
returns-then-not-entry-clause-stored g c =
    rw (← c.self.view_is)
    (are_stored c.self.inside.entries c.self.inside.index.entries c.self.invariant.in_order
    c.self.invariant.placed)

pub returns-else-not-entry-clause-objects : goal.returns-else-not-entry-clause-objects
returns-else-not-entry-clause-objects g c =
    rw (← c.self.view_is) (written_in (writes_value c.self.inside.entries c.args.slot c.in-Some.entry.now _ (sym c.get_mut.ensures.value ∙ ap option_copied_mut c.in-Some.is) refl) (with_waiting true) (λ s. search rules) c.self.inside.index.entries)

pub returns-else-not-entry-clause-stored : goal.returns-else-not-entry-clause-stored
returns-else-not-entry-clause-stored g c =
    rw (← c.self.view_is)
    (are_stored c.self.inside.entries c.self.inside.index.entries c.self.invariant.in_order
    c.self.invariant.placed)
