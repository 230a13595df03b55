use Rattle.std.proofs.Common.{◌<◌, ◌≤◌, length, arith}
use Rattle.ash_run_steps.specs.RunStates.{state_with}
use Rattle.ash_run_steps.proofs.DeclareSteps.{frame_fits, frames_overflow}
use Rattle.ash_run_steps.proofs.state.RunState.demand_frame.Goals as goal

pub returns-then-depth-clause-demanded : goal.returns-then-depth-clause-demanded
returns-then-depth-clause-demanded g c = λ names.
    let s = c.self.inside in
    let few : length s.stack.callers < 255 = omega arith in
    rw (← c.self.view_is) (frame_fits g.B.HostObject names (state_with s.table s.stack s.globals.items s.outside.items s.events.items s.ticks) few)

pub returns-else-depth-clause-demanded : goal.returns-else-depth-clause-demanded
returns-else-depth-clause-demanded g c = λ names.
    let s = c.self.inside in
    let many : 255 ≤ length s.stack.callers = omega arith in
    rw (← c.self.view_is) (frames_overflow g.B.HostObject names (state_with s.table s.stack s.globals.items s.outside.items s.events.items s.ticks) many)
