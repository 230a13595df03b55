use Rattle.std.proofs.Common.{◌∷◌, [], ◌++◌, ◌≡◌, reverse, take, refl, arith}
use Rattle.std.proofs.lemmas.List.{reverse-append, length-drop, length-take}
use Rattle.ash_run_steps.specs.Stacks.{frame_on, frames_on}
use Rattle.ash_run_steps.proofs.Stacking.{seen_left}
use Rattle.ash_run_steps.proofs.stack.Stack.leave.Goals as goal

pub returns : goal.returns
returns c =
    let f = c.self.inside.frame in
    let fs = c.self.inside.callers.items in
    let slots = c.self.inside.slots.items in
    let held = c.self.inside.held.items in
    let caller = c.in-Some.caller in
    let rest = c.pop.new.self.items in
    let is : fs ≡ rest ++ caller ∷ [] = rw c.in-Some.is at c.pop.ensures.items in
    let stacked = rw (is, reverse-append rest (caller ∷ [])) at c.self.invariant.2 in
    let many = length-drop caller.base (take f.base slots) in
    let below = length-take f.base slots in
    record {
      left = rw (← c.self.view_is) (
        frame_on caller (take f.base slots) (take f.mark held),
        frames_on (reverse rest) (take caller.base (take f.base slots)) (take caller.mark (take f.mark held)),
        rw (is, reverse-append rest (caller ∷ [])) refl,
        omega (arith, stacked.0, c.self.invariant.0),
        seen_left f fs slots held caller rest is (omega (arith, stacked.0)) stacked.1,
      );
    }
