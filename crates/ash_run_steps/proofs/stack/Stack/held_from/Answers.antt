use Rattle.std.proofs.Common.{ap, ◌∙◌, drop, List, ℕ}
use Rattle.std.proofs.lemmas.List.{reverse-reverse}
use Rattle.ash_run_steps.proofs.Stacking.{seen_held}
use Rattle.ash_run_steps.proofs.stack.Stack.held_from.Goals as goal

pub returns : goal.returns
returns c =
    let s = c.self.inside in
    let all = seen_held s.frame s.callers.items s.slots.items s.held.items c.self.invariant.2 c.self.invariant.1 in
    record { held = rw (← c.self.view_is, all, reverse-reverse s.held.items) (c.numbers_from.ensures.numbers ∙ ap (λ (ns : List ℕ). drop c.args.count ns) c.deref.ensures.value) }
