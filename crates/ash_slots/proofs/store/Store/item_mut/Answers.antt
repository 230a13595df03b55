use Rattle.std.proofs.Common.{sym, ap, ◌∙◌, refl, length, vec_capacity}
use Rattle.std.specs.Option.{option_copied_mut}
use Rattle.ash_slots.specs.Store.{with_item}
use Rattle.ash_slots.proofs.Placing.{item_in, not_empty, are_stored}
use Rattle.ash_slots.proofs.Writing.{still_stored, writes_value, written_in}
use Rattle.ash_slots.proofs.store.Store.item_mut.Goals as goal

pub unreachable-requires : goal.unreachable-requires
unreachable-requires g c =
    let at = rw (← c.self.view_is) at c.requires.occupied.1 in
    not_empty c.args.slot c.self.inside.entries c.self.inside.index.entries c.self.invariant.placed (c.requires.occupied.0, at) (sym c.get_mut.ensures.value ∙ ap option_copied_mut c.in_default.is)

pub invariant_of-self-lent : goal.invariant_of-self-lent
invariant_of-self-lent g c = λ w.
    still_stored c.self.inside.entries c.self.inside.index.entries _ _ c.args.slot c.in-Some.entry.now _ (sym c.get_mut.ensures.value ∙ ap option_copied_mut c.in-Some.is) refl refl c.self.invariant

pub returns : goal.returns
returns g c =
    let there = sym c.get_mut.ensures.value ∙ ap option_copied_mut c.in-Some.is in (
      (refl, λ w. rw (← c.self.view_is) (ap (λ objects. record { objects = objects; pending = length c.self.inside.idle.items; room = vec_capacity c.self.inside.idle; vacant = c.self.inside.entries.vacant_key }) (written_in (writes_value c.self.inside.entries c.args.slot c.in-Some.entry.now _ there refl) (with_item w) (λ s. refl) c.self.inside.index.entries))),
      record {
        value = λ number is_in.
            let at = rw (← c.self.view_is) at is_in in
            let found = item_in number c.args.slot c.self.inside.entries c.self.inside.index.entries c.in-Some.entry.now c.self.invariant.placed there at in
            rw (← c.self.view_is, found.0) refl;
        stored =
            rw (← c.self.view_is)
            (are_stored c.self.inside.entries c.self.inside.index.entries c.self.invariant.in_order
            c.self.invariant.placed);
        writes_back = tt;
      },
    )
