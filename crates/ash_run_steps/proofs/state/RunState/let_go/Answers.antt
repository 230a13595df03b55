use Rattle.std.proofs.Common.{reverse}
use Rattle.ash_run_steps.specs.RunStates.{state_with}
use Rattle.ash_run_steps.proofs.HoldSteps.{let_go_gives, at_table}
use Rattle.ash_run_steps.proofs.Roots.{held_counted, counts_less, times_letting_back, letting_go}
use Rattle.ash_run_steps.proofs.state.RunState.let_go.Goals as goal

pub unhold_numbers-requires : goal.unhold_numbers-requires
unhold_numbers-requires g c =
    let s = c.self.inside in
    record { held = λ m. rw c.held.ensures.held (held_counted m (state_with s.table s.stack s.globals.items s.outside.items s.events.items s.ticks) c.self.invariant) }

pub invariant_of-self : goal.invariant_of-self
invariant_of-self g c =
    let s = c.self.inside in
    let less = rw c.held.ensures.held at c.unhold_numbers.ensures.unheld in
    rw c.clear_held.ensures.cleared (counts_less (reverse (s.stack.frame).held) (state_with s.table s.stack s.globals.items s.outside.items s.events.items s.ticks) (at_table c.unhold_numbers.new.table (letting_go (state_with s.table s.stack s.globals.items s.outside.items s.events.items s.ticks))) less (λ m. times_letting_back m (state_with s.table s.stack s.globals.items s.outside.items s.events.items s.ticks)) c.self.invariant)

pub returns-clause-let_go : goal.returns-clause-let_go
returns-clause-let_go g c =
    let s = c.self.inside in
    λ names. rw (← c.self.view_is, c.clear_held.ensures.cleared) (let_go_gives g.B.HostObject names (state_with s.table s.stack s.globals.items s.outside.items s.events.items s.ticks) c.unhold_numbers.new.table c.unhold_numbers.ensures.unheld.same)
