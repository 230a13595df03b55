use Rattle.std.proofs.Common.{sym, ◌∙◌}
use Rattle.ash_slots.proofs.Placing.{length-placed, are_stored}
use Rattle.ash_slots.proofs.store.Store.len.Goals as goal

pub returns-clause-len : goal.returns-clause-len
returns-clause-len g c =
    rw (← c.self.view_is) (c.len.ensures.len
    ∙ sym (length-placed c.self.inside.entries c.self.inside.index.entries c.self.invariant.placed))

pub returns-clause-stored : goal.returns-clause-stored
returns-clause-stored g c =
    rw (← c.self.view_is)
    (are_stored c.self.inside.entries c.self.inside.index.entries c.self.invariant.in_order
    c.self.invariant.placed)
