-- Laws of the numbers that objects get.
use Rattle.std.proofs.Common.{◌≡◌, ◌<◌, ◌≤◌, ◌+◌, ℕ, Bool, true, false, cond, List, refl, subst, nat_eq, arith}
use Rattle.std.specs.Prelude.{Option, Some, Contains, is_some}
use Rattle.std.proofs.lemmas.Bool.{eqb-true}
use Rattle.ash_host.specs.Objects.{Plain, LiveObjects, object_at, with_at, AreNumbered, Lives}
use Rattle.ash_host.specs.Reach.{ReachableIn, Swept, is_reachable}
use Rattle.ash_host.proofs.Order.{object_at-with_at, in_order-with_at}
use Rattle.ash_host.proofs.ReachLaws.{is_reachable_says, is_reachable_yes}

-- the next number is put after the others
pub put_next : {M : Type 0} (last : ℕ) (object : Plain M) (objects : LiveObjects M) → AreNumbered last objects → AreNumbered (last + 1) (with_at (last + 1) object objects)
put_next {M} last object objects numbered = record {
  in_order = in_order-with_at (last + 1) object objects numbered.in_order;
  given = λ number lives. go number (nat_eq number (last + 1)) refl (subst (λ (o : Option (Plain M)). is_some o ≡ true) (object_at-with_at (last + 1) object number objects) lives);
}
  where
    go : (number : ℕ) (b : Bool) → nat_eq number (last + 1) ≡ b → is_some (cond (nat_eq number (last + 1)) (Some object) (object_at number objects)) ≡ true → (0 < number) × (number ≤ last + 1)
    go number true is lives = let here : number ≡ last + 1 = eqb-true number (last + 1) is in (omega (arith, here), omega (arith, here))
    go number false is lives =
        let was = numbered.given number (subst (λ (b : Bool). is_some (cond b (Some object) (object_at number objects)) ≡ true) is lives) in
        (was.0, omega (arith, was.1))

module _ {M : Type 0} (held : List ℕ) (last : ℕ) {old new : LiveObjects M} {dropped : List ℕ} (numbered : AreNumbered last old) (s : Swept (Contains held) old new dropped) where
  lived : (number : ℕ) (b : Bool) → is_reachable held old number ≡ b → Lives new number → Lives old number
  lived number true is lives = subst (λ (o : Option (Plain M)). is_some o ≡ true) (s.stays number (is_reachable_says held old number is)) lives
  lived number false is lives =
      let unreached : ReachableIn (Contains held) old number → ⊥ = λ r. let yes = is_reachable_yes held old number r in cc in
      let gone = subst (λ (o : Option (Plain M)). is_some o ≡ true) (s.goes number unreached) lives in cc

  pub swept_numbered : AreNumbered last new
  swept_numbered = record {
    in_order = s.in_order;
    given = λ number lives. numbered.given number (lived number (is_reachable held old number) refl lives);
  }
