use Rattle.std.proofs.Common.{sym, ap, ◌∙◌}
use Rattle.std.specs.Option.{option_copied}
use Rattle.ash_slots.proofs.Placing.{entry_here, not_empty}
use Rattle.ash_slots.proofs.store.Store.number_in.Goals as goal

pub returns-clause-some : goal.returns-clause-some
returns-clause-some g c =
    rw (← c.self.view_is) (entry_here c.args.slot c.self.inside.entries c.self.inside.index.entries c.in_ok-get.field-0.now c.self.invariant.placed c.self.invariant.whole (sym c.get.ensures ∙ ap option_copied c.in_ok-get.was))

pub returns-in_err-get-clause-none : goal.returns-in_err-get-clause-none
returns-in_err-get-clause-none g c = rw c.from_residual.ensures (λ occupied.
    let at = rw (← c.self.view_is) at occupied.1 in
    not_empty c.args.slot c.self.inside.entries c.self.inside.index.entries c.self.invariant.placed (occupied.0, at) (sym c.get.ensures ∙ ap option_copied c.in_err-get.was))
