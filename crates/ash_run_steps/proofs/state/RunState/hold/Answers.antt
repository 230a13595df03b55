use Rattle.std.proofs.Common.{◌≡◌, ◌∷◌, [], false, arith, rules}
use Rattle.ash_host.specs.Objects.{handles}
use Rattle.ash_run_steps.specs.RunStates.{state_with, is_alive_in}
use Rattle.ash_run_steps.proofs.HoldSteps.{hold_gives, hold_lacks}
use Rattle.ash_run_steps.proofs.Roots.{few_holds, counts_more, times_holding, holding}
use Rattle.ash_run_steps.proofs.HoldSteps.{at_table}
use Rattle.ash_run_steps.proofs.state.RunState.hold.Goals as goal

pub returns-in_default-clause-held : goal.returns-in_default-clause-held
returns-in_default-clause-held g c =
    let s = c.self.inside in
    let lacks : is_alive_in c.args.word s.table ≡ false = search rules in
    λ names. rw (← c.self.view_is) (hold_lacks g.B.HostObject names c.args.word (state_with s.table s.stack s.globals.items s.outside.items s.events.items s.ticks) lacks)

pub hold_in_slot-requires-clause-few : goal.hold_in_slot-requires-clause-few
hold_in_slot-requires-clause-few g c = λ m.
    let s = c.self.inside in
    omega (arith, few_holds m (state_with s.table s.stack s.globals.items s.outside.items s.events.items s.ticks) c.self.invariant, s.globals.ok.0, s.outside.ok.0, c.facts.ensures.few)

pub invariant_of-self-2 : goal.invariant_of-self-2
invariant_of-self-2 g c =
    let s = c.self.inside in
    let ns = handles (c.args.word ∷ []) in
    rw c.in_ok-push_handle.ensures.held (counts_more ns (state_with s.table s.stack s.globals.items s.outside.items s.events.items s.ticks) (at_table c.hold_in_slot.new.table (holding ns (state_with s.table s.stack s.globals.items s.outside.items s.events.items s.ticks))) c.hold_in_slot.ensures.held (λ m. times_holding m ns (state_with s.table s.stack s.globals.items s.outside.items s.events.items s.ticks)) c.self.invariant)

pub returns-clause-held : goal.returns-clause-held
returns-clause-held g c =
    let s = c.self.inside in
    λ names. rw (← c.self.view_is, c.in_ok-push_handle.ensures.held) (hold_gives g.B.HostObject names c.args.word (state_with s.table s.stack s.globals.items s.outside.items s.events.items s.ticks) c.hold_in_slot.new.table c.hold_in_slot.ensures.held.same)
