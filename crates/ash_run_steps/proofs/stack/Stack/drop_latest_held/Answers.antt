use Rattle.std.proofs.Common.{◌≡◌, ◌≤◌, ◌+◌, ◌-◌, length, drop, arith}
use Rattle.std.proofs.lemmas.List.{length-reverse, length-drop}
use Rattle.ash_run_steps.proofs.HeldLists.{seen_less}
use Rattle.ash_run_steps.proofs.stack.Stack.drop_latest_held.Goals as goal

pub returns : goal.returns
returns c =
    let s = c.self.inside in
    let some = rw (← c.self.view_is) at c.requires.some in
    let low : s.frame.mark ≤ c.len.result - 1 = omega (arith, some, length-reverse (drop s.frame.mark s.held.items), length-drop s.frame.mark s.held.items, c.len.ensures) in
    let is : c.len.result - 1 + 1 ≡ length s.held.items = omega (arith, some, length-reverse (drop s.frame.mark s.held.items), length-drop s.frame.mark s.held.items, c.len.ensures, s.held.ok.0) in
    record { held = rw (← c.self.view_is, c.truncate.ensures.items) (seen_less s.frame s.callers.items s.slots.items s.held.items (c.len.result - 1) low is) }
