use Rattle.std.proofs.Common.{◌≡◌, ◌∷◌, ◌∙◌, [], false, arith, rules}
use Rattle.ash_host.specs.Objects.{handles}
use Rattle.ash_run_steps.specs.RunStates.{state_with, is_alive_in}
use Rattle.ash_run_steps.proofs.LeaveSteps.{back_gives, back_lacks, counts_back, frame_counted}
use Rattle.ash_run_steps.proofs.Roots.{few_holds}
use Rattle.ash_run_steps.proofs.state.RunState.give_back.Goals as goal

pub returns-then-not-is_alive-clause-back : goal.returns-then-not-is_alive-clause-back
returns-then-not-is_alive-clause-back g c =
    let s = c.self.inside in
    let lacks : is_alive_in c.args.word s.table ≡ false = search rules in
    λ names. rw (← c.self.view_is) (back_lacks g.B.HostObject names c.args.word (state_with s.table s.stack s.globals.items s.outside.items s.events.items s.ticks) lacks)

pub hold_word-requires-clause-few : goal.hold_word-requires-clause-few
hold_word-requires-clause-few g c = λ m.
    let s = c.self.inside in
    omega (arith, few_holds m (state_with s.table s.stack s.globals.items s.outside.items s.events.items s.ticks) c.self.invariant, s.globals.ok.0, s.outside.ok.0, c.facts.ensures.few)

pub unhold_frame-requires : goal.unhold_frame-requires
unhold_frame-requires g c =
    let s = c.self.inside in
    record { held = λ m. omega (arith, c.hold_word.ensures.held.counts m, frame_counted m (state_with s.table s.stack s.globals.items s.outside.items s.events.items s.ticks) c.self.invariant) }

pub unhold_word-requires : goal.unhold_word-requires
unhold_word-requires g c =
    let s = c.self.inside in
    record { held = λ m. omega (arith, c.hold_word.ensures.held.counts m, c.unhold_frame.ensures.unheld.counts m, frame_counted m (state_with s.table s.stack s.globals.items s.outside.items s.events.items s.ticks) c.self.invariant) }

pub invariant_of-self : goal.invariant_of-self
invariant_of-self g c =
    let s = c.self.inside in
    let l = c.leave.ensures.left in
    rw (c.in-Ok.ensures.held, l.4, c.clear_held.ensures.cleared) (counts_back (handles (c.args.word ∷ [])) l.0 l.1 (state_with s.table s.stack s.globals.items s.outside.items s.events.items s.ticks) c.unhold_frame.new.table (rw c.clear_held.ensures.cleared at l.2) l.3 c.self.invariant (λ m. omega (arith, c.hold_word.ensures.held.counts m, c.unhold_frame.ensures.unheld.counts m)))

pub invariant_of-self-in-Err : goal.invariant_of-self-in-Err
invariant_of-self-in-Err g c =
    let s = c.self.inside in
    let l = c.leave.ensures.left in
    rw (c.in-Err.ensures.unchanged, l.4, c.clear_held.ensures.cleared) (counts_back [] l.0 l.1 (state_with s.table s.stack s.globals.items s.outside.items s.events.items s.ticks) c.unhold_word.new.table (rw c.clear_held.ensures.cleared at l.2) l.3 c.self.invariant (λ m. omega (arith, c.hold_word.ensures.held.counts m, c.unhold_frame.ensures.unheld.counts m, c.unhold_word.ensures.unheld.counts m)))

pub returns-in-Ok-clause-back : goal.returns-in-Ok-clause-back
returns-in-Ok-clause-back g c = λ names.
    let s = c.self.inside in
    let l = c.leave.ensures.left in
    rw (← c.self.view_is, c.in-Ok.ensures.held, l.4, c.clear_held.ensures.cleared) (back_gives g.B.HostObject names c.args.word l.0 l.1 (state_with s.table s.stack s.globals.items s.outside.items s.events.items s.ticks) c.unhold_frame.new.table (c.unhold_frame.ensures.unheld.same ∙ c.hold_word.ensures.held.same) (rw c.clear_held.ensures.cleared at l.2) l.3)
