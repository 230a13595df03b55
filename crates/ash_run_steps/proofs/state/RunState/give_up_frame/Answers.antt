use Rattle.std.proofs.Common.{[], arith}
use Rattle.ash_run_steps.specs.RunStates.{state_with}
use Rattle.ash_run_steps.proofs.LeaveSteps.{counts_back, frame_counted}
use Rattle.ash_run_steps.proofs.state.RunState.give_up_frame.Goals as goal

pub unhold_frame-requires : goal.unhold_frame-requires
unhold_frame-requires g c =
    let s = c.self.inside in
    record { held = λ m. frame_counted m (state_with s.table s.stack s.globals.items s.outside.items s.events.items s.ticks) c.self.invariant }

pub invariant_of-self : goal.invariant_of-self
invariant_of-self g c =
    let s = c.self.inside in
    let l = c.leave.ensures.left in
    rw (l.4, c.clear_held.ensures.cleared) (counts_back [] l.0 l.1 (state_with s.table s.stack s.globals.items s.outside.items s.events.items s.ticks) c.unhold_frame.new.table (rw c.clear_held.ensures.cleared at l.2) l.3 c.self.invariant (λ m. omega (arith, c.unhold_frame.ensures.unheld.counts m)))
