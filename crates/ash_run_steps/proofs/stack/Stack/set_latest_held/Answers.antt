use Rattle.std.proofs.Common.{◌≡◌, ◌≤◌, ◌+◌, ◌-◌, length, drop, arith}
use Rattle.std.proofs.lemmas.List.{length-reverse, length-drop}
use Rattle.ash_run_steps.proofs.HeldLists.{seen_renamed}
use Rattle.ash_run_steps.proofs.stack.Stack.set_latest_held.Goals as goal

pub returns : goal.returns
returns c =
    let s = c.self.inside in
    let some = rw (← c.self.view_is) at c.requires.some in
    let low : s.frame.mark ≤ c.len-last.result - 1 = omega (arith, some, length-reverse (drop s.frame.mark s.held.items), length-drop s.frame.mark s.held.items, c.len-last.ensures) in
    let is : c.len-last.result - 1 + 1 ≡ length s.held.items = omega (arith, some, length-reverse (drop s.frame.mark s.held.items), length-drop s.frame.mark s.held.items, c.len-last.ensures, s.held.ok.0) in
    record { held = rw (← c.self.view_is) (seen_renamed s.frame s.callers.items s.slots.items s.held.items (c.len-last.result - 1) c.args.number low is) }
