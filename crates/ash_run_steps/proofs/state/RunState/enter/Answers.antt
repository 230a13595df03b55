use Rattle.std.proofs.Common.{◌≡◌, ◌∷◌, ◌++◌, [], true, false, sym, ap, ◌∙◌, arith, rules}
use Rattle.std.specs.Prelude.{◌&&◌}
use Rattle.std.specs.List.{list_all}
use Rattle.ash_host.specs.Objects.{handles}
use Rattle.ash_run_steps.specs.RunStates.{state_with, is_alive_in}
use Rattle.ash_run_steps.proofs.Bare.{same_alive}
use Rattle.ash_run_steps.proofs.EnterSteps.{enter_gives, enter_lacks, entered, arguments, times_entered, few_arguments, each_of_all}
use Rattle.ash_run_steps.proofs.HoldSteps.{at_table}
use Rattle.ash_run_steps.proofs.LocalSteps.{and_second}
use Rattle.ash_run_steps.proofs.Roots.{few_holds, counts_more, more_then}
use Rattle.ash_run_steps.proofs.state.RunState.enter.Goals as goal

pub returns-in_default-clause-entered : goal.returns-in_default-clause-entered
returns-in_default-clause-entered g c =
    let s = c.self.inside in
    let a = c.args in
    let lacks : is_alive_in a.this s.table ≡ false = search rules in
    λ names. rw (← c.self.view_is) (enter_lacks g.B.HostObject names a.function a.line a.this a.at a.count (state_with s.table s.stack s.globals.items s.outside.items s.events.items s.ticks) (ap (λ b. b && list_all (λ w. is_alive_in w s.table) (arguments a.at a.count (state_with s.table s.stack s.globals.items s.outside.items s.events.items s.ticks))) lacks))

pub returns-then-not-are_alive-clause-entered : goal.returns-then-not-are_alive-clause-entered
returns-then-not-are_alive-clause-entered g c =
    let s = c.self.inside in
    let a = c.args in
    let no : c.are_alive.result ≡ false = search rules in
    let off = rw c.slots_from.ensures.slots at (sym c.are_alive.ensures.alive ∙ no) in
    λ names. rw (← c.self.view_is) (enter_lacks g.B.HostObject names a.function a.line a.this a.at a.count (state_with s.table s.stack s.globals.items s.outside.items s.events.items s.ticks) (and_second (is_alive_in a.this s.table) _ off))

pub hold_in_slot-requires-clause-few : goal.hold_in_slot-requires-clause-few
hold_in_slot-requires-clause-few g c = λ m.
    let s = c.self.inside in
    omega (arith, few_holds m (state_with s.table s.stack s.globals.items s.outside.items s.events.items s.ticks) c.self.invariant, s.globals.ok.0, s.outside.ok.0, c.facts.ensures.few)

pub hold_words-requires-clause-alive : goal.hold_words-requires-clause-alive
hold_words-requires-clause-alive g c =
    let s = c.self.inside in
    let a = c.args in
    let yes : c.are_alive.result ≡ true = search rules in
    let on = rw c.slots_from.ensures.slots at (sym c.are_alive.ensures.alive ∙ yes) in
    rw (c.locals.ensures.locals, c.in_ok-enter.ensures.entered) (λ k d within.
    same_alive _ s.table c.hold_in_slot.new.table c.hold_in_slot.ensures.held.same ∙ each_of_all (λ w. is_alive_in w s.table) (arguments a.at a.count (state_with s.table s.stack s.globals.items s.outside.items s.events.items s.ticks)) on k d within)

pub hold_words-requires-clause-few : goal.hold_words-requires-clause-few
hold_words-requires-clause-few g c = λ m.
    let s = c.self.inside in
    let a = c.args in
    rw (c.locals.ensures.locals, c.in_ok-enter.ensures.entered) (omega (arith, few_arguments m a.this a.at a.count (state_with s.table s.stack s.globals.items s.outside.items s.events.items s.ticks) c.hold_in_slot.new.table c.hold_in_slot.ensures.held, few_holds m (state_with s.table s.stack s.globals.items s.outside.items s.events.items s.ticks) c.self.invariant, s.globals.ok.0, s.outside.ok.0, c.facts.ensures.few, c.facts.ensures.short))

pub invariant_of-self-2 : goal.invariant_of-self-2
invariant_of-self-2 g c =
    let s = c.self.inside in
    let a = c.args in
    let more = rw (c.locals.ensures.locals, c.in_ok-enter.ensures.entered) at c.hold_words.ensures.held in
    let above = rw (← c.self.view_is) at c.requires.above in
    rw c.in_ok-enter.ensures.entered (counts_more (handles (a.this ∷ []) ++ handles (arguments a.at a.count (state_with s.table s.stack s.globals.items s.outside.items s.events.items s.ticks))) (state_with s.table s.stack s.globals.items s.outside.items s.events.items s.ticks) (at_table c.hold_words.new.table (entered a.function a.line a.this a.back a.at a.count (state_with s.table s.stack s.globals.items s.outside.items s.events.items s.ticks))) (more_then (handles (a.this ∷ [])) _ s.table c.hold_in_slot.new.table c.hold_words.new.table c.hold_in_slot.ensures.held more) (λ m. times_entered m a.function a.line a.this a.back a.at a.count (state_with s.table s.stack s.globals.items s.outside.items s.events.items s.ticks) above) c.self.invariant)

pub returns-clause-entered : goal.returns-clause-entered
returns-clause-entered g c =
    let s = c.self.inside in
    let a = c.args in
    let above = rw (← c.self.view_is) at c.requires.above in
    λ names. rw (← c.self.view_is, c.in_ok-enter.ensures.entered) (enter_gives g.B.HostObject names a.function a.line a.this a.back a.at a.count (state_with s.table s.stack s.globals.items s.outside.items s.events.items s.ticks) c.hold_words.new.table (c.hold_words.ensures.held.same ∙ c.hold_in_slot.ensures.held.same) above)
