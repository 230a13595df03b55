use Rattle.std.proofs.Common.{sym, ap, ◌∙◌}
use Rattle.std.specs.Option.{option_copied}
use Rattle.ash_slots.proofs.Placing.{item_in, not_empty}
use Rattle.ash_slots.proofs.store.Store.number.Goals as goal

pub unreachable-requires : goal.unreachable-requires
unreachable-requires g c =
    let at = rw (← c.self.view_is) at c.requires.occupied.1 in
    not_empty c.args.slot c.self.inside.entries c.self.inside.index.entries c.self.invariant.placed (c.requires.occupied.0, at) (sym c.get.ensures ∙ ap option_copied c.in_default.is)

pub returns : goal.returns
returns g c = record {
  number = λ number is_in.
      let at = rw (← c.self.view_is) at is_in in
      let found = item_in number c.args.slot c.self.inside.entries c.self.inside.index.entries c.in-Some.entry.now c.self.invariant.placed (sym c.get.ensures ∙ ap option_copied c.in-Some.is) at in
      found.1;
}
