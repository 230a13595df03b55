use Rattle.std.proofs.Common.{◌≡◌, ◌<◌, ℕ, Option, Some, None, sym, subst, ap, refl, arith}
use Rattle.std.specs.Prelude.{IsSome}
use Rattle.std.specs.Option.{option_map_or}
use Rattle.ash_host.specs.Objects.{object_at}
use Rattle.ash_objects.specs.Table.{Table, Living, holds_of}
use Rattle.ash_objects.specs.Sweeping.{Collects}
use Rattle.ash_objects_tests.proofs.Holds.{some_hold}
use Rattle.ash_objects_tests.proofs.table.sweep_but.Goals as goal

module _ {B : Type 0} where
  -- what is held stays as it is
  held_stays : (n : ℕ) (old new : Table B) → Collects old new → 0 < holds_of n old → 0 < holds_of n new
  held_stays n old new c h = go (object_at n new.objects) refl
    where
      go : (v : Option (Living B)) → object_at n new.objects ≡ v → 0 < holds_of n new
      go None is = let none = c.not_held n is in absurd (omega (arith, none, h))
      go (Some x) is =
          let same = ap (λ (v : Option (Living B)). option_map_or (λ object. object.holds) v 0) (c.unchanged n (subst (λ (v : Option (Living B)). IsSome v) (sym is) refl)) in
          omega (arith, same, h)

pub unhold-requires : goal.unhold-requires
unhold-requires c = record {
  held = let lives = c.lives.ensures.lives c.if-not-lives.false in
      held_stays c.args.number _ _ c.in_ok-sweep.ensures.collected (rw c.hold.ensures.held (some_hold c.args.number c.args.objects.now lives));
}
