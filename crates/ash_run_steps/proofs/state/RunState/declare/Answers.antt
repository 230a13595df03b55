use Rattle.std.proofs.Common.{◌≡◌, ◌∷◌, ◌∙◌, [], sym, false, arith, rules}
use Rattle.std.specs.Prelude.{Some, slice_get}
use Rattle.ash_host.specs.Objects.{handles}
use Rattle.ash_run_steps.specs.RunStates.{state_with, is_alive_in}
use Rattle.ash_run_steps.proofs.DeclareSteps.{declare_gives, declare_lacks, declared, times_declared}
use Rattle.ash_run_steps.proofs.HoldSteps.{at_table}
use Rattle.ash_run_steps.proofs.Roots.{few_holds, counts_more}
use Rattle.ash_run_steps.proofs.state.RunState.declare.Goals as goal

pub returns-in_default-slot_of_handle-clause-declared : goal.returns-in_default-slot_of_handle-clause-declared
returns-in_default-slot_of_handle-clause-declared g c =
    let s = c.self.inside in
    let at : slice_get (s.stack.frame).slots (s.stack.frame).count ≡ Some c.in-Some.word = rw c.count-count.ensures.count at (sym c.word.ensures.word ∙ c.in-Some.is) in
    let lacks : is_alive_in c.in-Some.word s.table ≡ false = search rules in
    λ names. rw (← c.self.view_is) (declare_lacks g.B.HostObject names c.in-Some.word (state_with s.table s.stack s.globals.items s.outside.items s.events.items s.ticks) at lacks)

pub hold_in_slot-requires-clause-few : goal.hold_in_slot-requires-clause-few
hold_in_slot-requires-clause-few g c = λ m.
    let s = c.self.inside in
    omega (arith, few_holds m (state_with s.table s.stack s.globals.items s.outside.items s.events.items s.ticks) c.self.invariant, s.globals.ok.0, s.outside.ok.0, c.facts.ensures.few)

pub invariant_of-self : goal.invariant_of-self
invariant_of-self g c =
    let s = c.self.inside in
    let at : slice_get (s.stack.frame).slots (s.stack.frame).count ≡ Some c.in-Some.word = rw c.count-count.ensures.count at (sym c.word.ensures.word ∙ c.in-Some.is) in
    rw (c.set_count.ensures.count, c.count-count.ensures.count) (counts_more (handles (c.in-Some.word ∷ [])) (state_with s.table s.stack s.globals.items s.outside.items s.events.items s.ticks) (at_table c.hold_in_slot.new.table (declared (state_with s.table s.stack s.globals.items s.outside.items s.events.items s.ticks))) c.hold_in_slot.ensures.held (λ m. times_declared m c.in-Some.word (state_with s.table s.stack s.globals.items s.outside.items s.events.items s.ticks) at) c.self.invariant)

pub returns-clause-declared : goal.returns-clause-declared
returns-clause-declared g c =
    let s = c.self.inside in
    let at : slice_get (s.stack.frame).slots (s.stack.frame).count ≡ Some c.in-Some.word = rw c.count-count.ensures.count at (sym c.word.ensures.word ∙ c.in-Some.is) in
    λ names. rw (← c.self.view_is, c.set_count.ensures.count, c.count-count.ensures.count) (declare_gives g.B.HostObject names c.in-Some.word (state_with s.table s.stack s.globals.items s.outside.items s.events.items s.ticks) c.hold_in_slot.new.table c.hold_in_slot.ensures.held.same at)
