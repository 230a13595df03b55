use Rattle.ash_run_steps.specs.RunStates.{state_with}
use Rattle.ash_run_steps.proofs.DeclareSteps.{this_gives}
use Rattle.ash_run_steps.proofs.state.RunState.this.Goals as goal

pub returns-clause-read : goal.returns-clause-read
returns-clause-read g c = λ names.
    let s = c.self.inside in
    rw (← c.self.view_is) (this_gives g.B.HostObject names c.this.result (state_with s.table s.stack s.globals.items s.outside.items s.events.items s.ticks) c.this.ensures.this)
