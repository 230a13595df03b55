use Rattle.std.proofs.Common.{subst, sym, ◌∙◌, List, ℕ, true, ◌≡◌, arith, length, vec_len}
use Rattle.std.specs.Prelude.{IfSome}
use Rattle.std.specs.List.{Contains}
use Rattle.std.proofs.lemmas.Bool.{eqb-true}
use Rattle.slab.specs.Slab.{get}
use Rattle.ash_slots.proofs.Placing.{none_waits}
use Rattle.ash_slots.proofs.Moving.{nothing_in}
use Rattle.ash_slots.proofs.store.Store.none_waits.Goals as goal

pub returns : goal.returns
returns g c = record {
  none = λ yes.
      let none : vec_len c.self.inside.idle ≡ 0 = eqb-true _ 0 (sym c.is_empty.ensures ∙ yes) in
      let empty : length c.self.inside.idle.items ≡ 0 = omega (arith, none) in
      rw (← c.self.view_is) (none_waits c.self.inside.entries c.self.inside.index.entries c.self.invariant.placed (subst (λ (l : List ℕ). (slot : ℕ) → IfSome (get c.self.inside.entries slot) (λ entry. entry.waiting ≡ true → Contains l slot)) (nothing_in c.self.inside.idle.items empty) c.self.invariant.listed));
}
