use Rattle.std.proofs.Common.{arith}
use Rattle.ash_run_steps.specs.RunStates.{state_with}
use Rattle.ash_run_steps.proofs.HoldSteps.{tick_gives, tick_ends}
use Rattle.ash_run_steps.proofs.state.RunState.tick.Goals as goal

pub returns-then-self-eq0-clause-ticked : goal.returns-then-self-eq0-clause-ticked
returns-then-self-eq0-clause-ticked g c =
    let s = c.self.inside in
    λ names. rw (← c.self.view_is, c.set_line.ensures.line) (tick_ends g.B.HostObject names c.args.line (state_with s.table s.stack s.globals.items s.outside.items s.events.items s.ticks) (omega arith))

pub returns-clause-ticked : goal.returns-clause-ticked
returns-clause-ticked g c =
    let s = c.self.inside in
    λ names. rw (← c.self.view_is, c.set_line.ensures.line) (tick_gives g.B.HostObject names c.args.line (state_with s.table s.stack s.globals.items s.outside.items s.events.items s.ticks) (omega arith))
