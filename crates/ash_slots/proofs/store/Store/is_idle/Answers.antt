use Rattle.std.proofs.Common.{sym, ap, ◌∙◌}
use Rattle.std.proofs.lemmas.Bool.{eqb-true, eq-eqb}
use Rattle.std.specs.Option.{option_copied}
use Rattle.ash_slots.specs.Store.{placed_in}
use Rattle.ash_slots.proofs.Placing.{idle_entry, entry_idle, not_empty, in_from_idle}
use Rattle.ash_slots.proofs.store.Store.is_idle.Goals as goal

pub returns-in-Some : goal.returns-in-Some
returns-in-Some g c = record {
  idle = let there = sym c.get.ensures ∙ ap option_copied c.in-Some.is in (
    λ yes. rw (← c.self.view_is) (entry_idle c.args.slot c.self.inside.entries c.self.inside.index.entries c.in-Some.entry.now c.self.invariant.placed c.self.invariant.whole there (eqb-true _ 0 yes)),
    λ idle. let at = rw (← c.self.view_is) at idle in eq-eqb _ 0 (idle_entry c.args.slot c.self.inside.entries c.self.inside.index.entries c.in-Some.entry.now c.self.invariant.placed there at),
  );
}

pub returns-in-None : goal.returns-in-None
returns-in-None g c = record {
  idle = (
    λ yes. absurd (cc),
    λ idle. let at = rw (← c.self.view_is) at idle in absurd (not_empty c.args.slot c.self.inside.entries c.self.inside.index.entries c.self.invariant.placed (at.0, in_from_idle at.0 c.args.slot (placed_in c.self.inside.entries c.self.inside.index.entries) at.1) (sym c.get.ensures ∙ ap option_copied c.in-None.is)),
  );
}
