use Rattle.std.proofs.Common.{sym, ◌∙◌}
use Rattle.ash_slots.proofs.Placing.{numbers-placed}
use Rattle.ash_slots.proofs.store.Store.numbers.Goals as goal

pub returns : goal.returns
returns g c = record {
  numbers = rw (← c.self.view_is) (c.keys.ensures.rest
      ∙ sym (numbers-placed c.self.inside.entries c.self.inside.index.entries c.self.invariant.placed));
}
