use Rattle.std.proofs.Common.{◌≤◌, take, arith, rules}
use Rattle.std.proofs.lemmas.List.{length-reverse, length-take}
use Rattle.ash_run_steps.proofs.Stacking.{seen_below}
use Rattle.ash_run_steps.proofs.stack.Stack.holds_below.Goals as goal

pub returns : goal.returns
returns c =
    let s = c.self.inside in
    let all = seen_below s.frame s.callers.items s.slots.items s.held.items c.self.invariant.2 c.self.invariant.1 in
    record {
      below = λ yes.
          let low : c.args.count ≤ s.frame.mark = search rules in
          rw (← c.self.view_is, all) (omega (arith, low, length-reverse (take s.frame.mark s.held.items), length-take s.frame.mark s.held.items, c.self.invariant.1));
    }
