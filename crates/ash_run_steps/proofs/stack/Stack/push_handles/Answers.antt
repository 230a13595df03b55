use Rattle.ash_host.specs.Objects.{handles}
use Rattle.ash_run_steps.proofs.HeldLists.{seen_more}
use Rattle.ash_run_steps.proofs.stack.Stack.push_handles.Goals as goal

pub returns-clause-held : goal.returns-clause-held
returns-clause-held c =
    let s = c.self.inside in
    rw (← c.self.view_is, c.in_ok-append_handles.ensures.held) (seen_more s.frame s.callers.items s.slots.items s.held.items (handles c.args.words.now) c.self.invariant.1)
