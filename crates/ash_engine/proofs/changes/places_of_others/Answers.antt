use Rattle.std.proofs.Common.{◌+◌, ℕ, List, sym, ap, ◌∙◌, subst, arith}
use Rattle.ash_engine.proofs.Others.{AreOthersBelow, none_below, other_more, other_passed, others_all}
use Rattle.ash_engine.proofs.changes.places_of_others.Goals as goal
use Rattle.ash_engine.proofs.changes.places_of_others.Goals.{then-is_other_at+in_ok-push, else-is_other_at}

pub loop-place-init : goal.loop-place-init
loop-place-init c = subst (λ (l : List ℕ). AreOthersBelow c.args.before.now c.args.after.now 0 l)
    (sym c.new-places.ensures.items) (none_below c.args.before.now c.args.after.now)

pub loop-place-preserved : goal.loop-place-preserved
loop-place-preserved c =
    let before = c.args.before.now in
    let after = c.args.after.now in
    let at : ℕ = c.loop-place.place in
    elim c.if-is_other_at.branch [
      | then-is_other_at+in_ok-push w ↦
          subst (λ (l : List ℕ). AreOthersBelow before after (at + 1) l)
          (sym (ap (λ v. v.items) w.places-is ∙ w.in_ok-push.ensures.items))
          (other_more before after at c.loop-place.places.items (omega (arith, c.loop-place-test.true))
          (c.is_other_at.ensures.other w.if-is_other_at.true) c.loop-place.invariant)
      | else-is_other_at w ↦
          subst (λ (l : List ℕ). AreOthersBelow before after (at + 1) l) (sym (ap (λ v. v.items) w.places-is))
          (other_passed before after at c.loop-place.places.items (omega (arith, c.loop-place-test.true))
          (c.is_other_at.ensures.same w.if-is_other_at.false) c.loop-place.invariant)
    ]

pub returns : goal.returns
returns c = record {
  others = others_all c.args.before.now c.args.after.now c.loop-place.place c.loop-place.places.items
      (omega (arith, c.loop-place-test.false)) c.loop-place.invariant;
  rise = c.loop-place.invariant.rise;
}
