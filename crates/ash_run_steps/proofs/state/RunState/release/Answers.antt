use Rattle.ash_run_steps.specs.RunStates.{state_with}
use Rattle.ash_run_steps.proofs.Swept.{release_gives}
use Rattle.ash_run_steps.proofs.state.RunState.release.Goals as goal

pub returns-clause-released : goal.returns-clause-released
returns-clause-released g c = λ names test.
    let s = c.self.inside in
    rw (← c.self.view_is, c.in_ok-sweep.ensures.dropped) (release_gives g.B.HostObject names (state_with s.table s.stack s.globals.items s.outside.items s.events.items s.ticks) c.sweep.new.self c.self.invariant ((c.facts.ensures.sound).numbered).in_order ((c.facts-2.ensures.sound).numbered).in_order (record { collected = c.in_ok-sweep.ensures.collected; reachable = c.in_ok-sweep.ensures.reachable }) test)
