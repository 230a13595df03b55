use Rattle.std.proofs.Common.{◌<◌, ◌≤◌, drop, arith}
use Rattle.ash_host.specs.Objects.{handles}
use Rattle.ash_run_steps.specs.RunStates.{state_with}
use Rattle.ash_run_steps.specs.Stacks.{locals_of}
use Rattle.ash_run_steps.proofs.HoldSteps.{at_table}
use Rattle.ash_run_steps.proofs.LocalSteps.{blocks_give, blocks_stay, with_count, times_left, left_counted}
use Rattle.ash_run_steps.proofs.Roots.{counts_less}
use Rattle.ash_run_steps.proofs.state.RunState.leave_blocks.Goals as goal

pub unhold_words-requires : goal.unhold_words-requires
unhold_words-requires g c =
    let s = c.self.inside in
    let fewer : c.args.count < (s.stack.frame).count = omega (arith, c.if-count.true, c.count.ensures.count) in
    record { held = λ m. rw c.locals_from.ensures.locals (left_counted m c.args.count (state_with s.table s.stack s.globals.items s.outside.items s.events.items s.ticks) fewer c.self.invariant) }

pub invariant_of-self : goal.invariant_of-self
invariant_of-self g c =
    let s = c.self.inside in
    let fewer : c.args.count < (s.stack.frame).count = omega (arith, c.if-count.true, c.count.ensures.count) in
    let less = rw c.locals_from.ensures.locals at c.unhold_words.ensures.unheld in
    rw c.set_count.ensures.count (counts_less (handles (drop c.args.count (locals_of s.stack.frame))) (state_with s.table s.stack s.globals.items s.outside.items s.events.items s.ticks) (at_table c.unhold_words.new.table (with_count c.args.count (state_with s.table s.stack s.globals.items s.outside.items s.events.items s.ticks))) less (λ m. times_left m c.args.count (state_with s.table s.stack s.globals.items s.outside.items s.events.items s.ticks) fewer) c.self.invariant)

pub returns-then-count-clause-left : goal.returns-then-count-clause-left
returns-then-count-clause-left g c =
    let s = c.self.inside in
    let fewer : c.args.count < (s.stack.frame).count = omega (arith, c.if-count.true, c.count.ensures.count) in
    λ names. rw (← c.self.view_is, c.set_count.ensures.count) (blocks_give g.B.HostObject names c.args.count (state_with s.table s.stack s.globals.items s.outside.items s.events.items s.ticks) c.unhold_words.new.table c.unhold_words.ensures.unheld.same fewer)

pub returns-else-count-clause-left : goal.returns-else-count-clause-left
returns-else-count-clause-left g c =
    let s = c.self.inside in
    let all : (s.stack.frame).count ≤ c.args.count = omega (arith, c.if-count.false, c.count.ensures.count) in
    λ names. rw (← c.self.view_is) (blocks_stay g.B.HostObject names c.args.count (state_with s.table s.stack s.globals.items s.outside.items s.events.items s.ticks) all)
