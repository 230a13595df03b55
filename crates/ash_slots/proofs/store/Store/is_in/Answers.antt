use Rattle.std.proofs.Common.{sym, ap, ◌∙◌}
use Rattle.std.proofs.lemmas.Bool.{eqb-true, eq-eqb}
use Rattle.std.specs.Option.{option_copied}
use Rattle.std.proofs.Common.{subst}
use Rattle.ash_slots.specs.Store.{IsIn, placed_in}
use Rattle.ash_slots.proofs.Placing.{entry_here, item_in, not_empty}
use Rattle.ash_slots.proofs.store.Store.is_in.Goals as goal

pub returns-in-Some : goal.returns-in-Some
returns-in-Some g c = record {
  is_in = let there = sym c.get.ensures ∙ ap option_copied c.in-Some.is in (
    λ yes. rw (← c.self.view_is) (subst (λ (n : _). IsIn n c.args.slot (placed_in c.self.inside.entries c.self.inside.index.entries)) (eqb-true _ _ yes) (entry_here c.args.slot c.self.inside.entries c.self.inside.index.entries c.in-Some.entry.now c.self.invariant.placed c.self.invariant.whole there)),
    λ inside. let at = rw (← c.self.view_is) at inside in eq-eqb _ _ (item_in c.args.number c.args.slot c.self.inside.entries c.self.inside.index.entries c.in-Some.entry.now c.self.invariant.placed there at).1,
  );
}

pub returns-in-None : goal.returns-in-None
returns-in-None g c = record {
  is_in = (
    λ yes. absurd (cc),
    λ inside. let at = rw (← c.self.view_is) at inside in absurd (not_empty c.args.slot c.self.inside.entries c.self.inside.index.entries c.self.invariant.placed (c.args.number, at) (sym c.get.ensures ∙ ap option_copied c.in-None.is)),
  );
}
