use Rattle.std.proofs.Common.{◌≡◌, ◌∷◌, ◌∙◌, [], sym, false, arith, rules}
use Rattle.std.specs.Prelude.{slice_get, None}
use Rattle.ash_host.specs.Objects.{handles}
use Rattle.ash_run_steps.specs.RunStates.{state_with, is_alive_in}
use Rattle.ash_run_steps.specs.Stacks.{locals_of}
use Rattle.ash_run_steps.proofs.HoldSteps.{at_table}
use Rattle.ash_run_steps.proofs.LocalSteps.{write_gives, write_lacks, write_dangles, written, times_written, local_within}
use Rattle.ash_run_steps.proofs.Roots.{few_holds, counts_more}
use Rattle.ash_run_steps.proofs.state.RunState.write_local.Goals as goal

pub returns-in_default-clause-written : goal.returns-in_default-clause-written
returns-in_default-clause-written g c =
    let s = c.self.inside in
    let none : slice_get (locals_of s.stack.frame) c.args.slot ≡ None = cc (c.local.ensures.local, c.in_default.is) in
    λ names. rw (← c.self.view_is) (write_lacks g.B.HostObject names c.args.slot c.args.word (state_with s.table s.stack s.globals.items s.outside.items s.events.items s.ticks) none)

pub returns-then-not-is_alive-clause-written : goal.returns-then-not-is_alive-clause-written
returns-then-not-is_alive-clause-written g c =
    let s = c.self.inside in
    let lacks : is_alive_in c.args.word s.table ≡ false = search rules in
    λ names. rw (← c.self.view_is) (write_dangles g.B.HostObject names c.args.slot c.args.word (state_with s.table s.stack s.globals.items s.outside.items s.events.items s.ticks) lacks)

pub hold_word-requires-clause-few : goal.hold_word-requires-clause-few
hold_word-requires-clause-few g c = λ m.
    let s = c.self.inside in
    omega (arith, few_holds m (state_with s.table s.stack s.globals.items s.outside.items s.events.items s.ticks) c.self.invariant, s.globals.ok.0, s.outside.ok.0, c.facts.ensures.few)

pub set_word-requires : goal.set_word-requires
set_word-requires g c =
    let s = c.self.inside in
    let at = sym c.local.ensures.local ∙ c.in-Some.is in
    record { within = rw c.in_ok-push_handle.ensures.held ((local_within (state_with s.table s.stack s.globals.items s.outside.items s.events.items s.ticks) c.args.slot c.in-Some.before at).1) }

pub invariant_of-self-2 : goal.invariant_of-self-2
invariant_of-self-2 g c =
    let s = c.self.inside in
    let at = sym c.local.ensures.local ∙ c.in-Some.is in
    rw (c.set_word.ensures.written, c.in_ok-push_handle.ensures.held) (counts_more (handles (c.args.word ∷ [])) (state_with s.table s.stack s.globals.items s.outside.items s.events.items s.ticks) (at_table c.hold_word.new.table (written c.args.slot c.args.word c.in-Some.before (state_with s.table s.stack s.globals.items s.outside.items s.events.items s.ticks))) c.hold_word.ensures.held (λ m. times_written m c.args.slot c.args.word c.in-Some.before (state_with s.table s.stack s.globals.items s.outside.items s.events.items s.ticks) at) c.self.invariant)

pub returns-clause-written : goal.returns-clause-written
returns-clause-written g c =
    let s = c.self.inside in
    let at = sym c.local.ensures.local ∙ c.in-Some.is in
    λ names. rw (← c.self.view_is, c.set_word.ensures.written, c.in_ok-push_handle.ensures.held) (write_gives g.B.HostObject names c.args.slot c.args.word c.in-Some.before (state_with s.table s.stack s.globals.items s.outside.items s.events.items s.ticks) c.hold_word.new.table c.hold_word.ensures.held.same at)
