use Rattle.std.proofs.Common.{rules}
use Rattle.std.proofs.lemmas.List.{length-reverse}
use Rattle.ash_run_steps.proofs.Stacking.{seen_held}
use Rattle.ash_run_steps.proofs.stack.Stack.held_len.Goals as goal

pub returns : goal.returns
returns c =
    let s = c.self.inside in
    let all = seen_held s.frame s.callers.items s.slots.items s.held.items c.self.invariant.2 c.self.invariant.1 in
    record { len = rw (← c.self.view_is, all, length-reverse s.held.items) (search rules) }
