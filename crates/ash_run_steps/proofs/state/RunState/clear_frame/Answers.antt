use Rattle.ash_run_steps.specs.RunStates.{state_with}
use Rattle.ash_run_steps.proofs.LeaveSteps.{frame_counted}
use Rattle.ash_run_steps.proofs.state.RunState.clear_frame.Goals as goal

pub unhold_frame-requires : goal.unhold_frame-requires
unhold_frame-requires g c =
    let s = c.self.inside in
    record { held = λ m. frame_counted m (state_with s.table s.stack s.globals.items s.outside.items s.events.items s.ticks) c.self.invariant }
