use Rattle.std.proofs.Common.{◌≡◌, ◌<◌, ◌∙◌, sym, ap, false, length, arith, rules}
use Rattle.std.specs.Prelude.{Err}
use Rattle.ash_host.specs.Limits.{max_elements}
use Rattle.ash_objects.specs.Making.{IsFull}
use Rattle.ash_run_steps.specs.RunStates.{state_with}
use Rattle.ash_run_steps.proofs.MakingSteps.{script_made, script_counts, script_stops, script_ends, script_long, script_dangles}
use Rattle.ash_run_steps.proofs.state.RunState.make_script.Goals as goal

pub returns-then-fields-gt-MAX_ELEMENTS-clause-made : goal.returns-then-fields-gt-MAX_ELEMENTS-clause-made
returns-then-fields-gt-MAX_ELEMENTS-clause-made g c = λ names.
    let long : max_elements < length c.args.fields.now = omega arith in
    script_long g.B.HostObject names c.args.owner c.args.class c.args.fields.now c.args.self.now long

pub returns-then-not-are_alive-clause-made : goal.returns-then-not-are_alive-clause-made
returns-then-not-are_alive-clause-made g c = λ names.
    let s = c.self.inside in
    let no : c.are_alive.result ≡ false = search rules in
    let off = sym c.are_alive.ensures.alive ∙ no in
    rw (← c.self.view_is) (script_dangles g.B.HostObject names c.args.owner c.args.class c.args.fields.now (state_with s.table s.stack s.globals.items s.outside.items s.events.items s.ticks) off)

pub returns-in_err-number-clause-made : goal.returns-in_err-number-clause-made
returns-in_err-number-clause-made g c = λ names.
    let s = c.self.inside in
    let old = state_with s.table s.stack s.globals.items s.outside.items s.events.items s.ticks in
    let e = c.in_err-number.ensures in
    let fault = c.in_err-number.field-0.0 in
    rw (← c.self.view_is, e.unchanged) (script_stops g.B.HostObject names c.args.owner c.args.class c.args.fields.now old fault c.from_residual-in_err-number.result c.from_residual-in_err-number.ensures.1
    (script_ends g.B.HostObject names c.args.owner c.args.class c.args.fields.now old fault (λ is. e.full.0 (ap Err is)) (λ is. e.spent.0 (ap Err is)) (λ is. e.pool (ap Err is)) (λ is. e.long (ap Err is))))

pub invariant_of-self-2 : goal.invariant_of-self-2
invariant_of-self-2 g c = λ m.
    let s = c.self.inside in
    let old = state_with s.table s.stack s.globals.items s.outside.items s.events.items s.ticks in
    script_counts c.args.owner c.args.class c.args.fields.now old m c.in_ok-number.number c.in_ok-fields.fields c.new_script.new.self (c.facts.ensures.sound).numbered c.in_ok-fields.ensures.words c.in_ok-number.ensures.made
    ∙ c.self.invariant m

pub returns-clause-made : goal.returns-clause-made
returns-clause-made g c = λ names.
    let s = c.self.inside in
    let old = state_with s.table s.stack s.globals.items s.outside.items s.events.items s.ticks in
    let e = c.in_ok-number.ensures in
    let room : IsFull s.table → ⊥ = λ full. (let no = e.full.1 full in absurd (cc)) in
    rw (← c.self.view_is) (script_made g.B.HostObject names c.args.owner c.args.class c.args.fields.now old c.in_ok-number.number c.in_ok-fields.fields c.new_script.new.self (c.facts.ensures.sound).numbered
    room (λ spent. let no = e.spent.1 (room, spent) in absurd (cc)) e.number c.in_ok-fields.ensures.words e.made)
