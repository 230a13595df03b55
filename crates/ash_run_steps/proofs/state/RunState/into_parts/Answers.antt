use Rattle.ash_run_steps.specs.RunStates.{state_with}
use Rattle.ash_run_steps.proofs.EndSteps.{parted}
use Rattle.ash_run_steps.proofs.state.RunState.into_parts.Goals as goal

pub returns-clause-held : goal.returns-clause-held
returns-clause-held g c =
    let s = c.self.inside in
    parted (state_with s.table s.stack s.globals.items s.outside.items s.events.items s.ticks) (rw (← c.self.view_is) at c.requires.ended) c.self.invariant
