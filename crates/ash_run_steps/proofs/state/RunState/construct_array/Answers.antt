use Rattle.std.proofs.Common.{◌≡◌, ◌<◌, ◌∷◌, ◌∙◌, [], refl, ap, arith}
use Rattle.std.specs.Prelude.{Err}
use Rattle.ash_host.specs.Limits.{max_elements}
use Rattle.ash_host.specs.Objects.{Lives}
use Rattle.ash_meaning.specs.ArraySteps.{natural_of}
use Rattle.ash_objects.specs.Making.{IsFull, IsSpent}
use Rattle.ash_objects.specs.Table.{holds_of, slot_of}
use Rattle.ash_run_steps.specs.Keeping.{keeping}
use Rattle.ash_run_steps.specs.RunStates.{state_with, bare}
use Rattle.ash_run_steps.proofs.ArrayMaking.{array_of_zeros, made_in, next_lives, next_holds, construct_gives, construct_ends, construct_stops}
use Rattle.ash_run_steps.proofs.HoldSteps.{at_table}
use Rattle.ash_run_steps.proofs.MadeObjects.{made_holds}
use Rattle.ash_run_steps.proofs.Roots.{counts_more, more_one, times_holding, holding}
use Rattle.ash_run_steps.proofs.state.RunState.construct_array.Goals as goal

pub hold-requires-clause-few : goal.hold-requires-clause-few
hold-requires-clause-few g c =
    let s = c.self.inside in
    let old = state_with s.table s.stack s.globals.items s.outside.items s.events.items s.ticks in
    let body = array_of_zeros c.args.element c.natural_of.result in
    let e = c.in-Ok.ensures in
    let numbered = (c.facts.ensures.sound).numbered in
    let made = made_in (slot_of c.in-Ok.number c.new_array.new.self) body s.table c.new_array.new.self e.made in
    let none = ap (holds_of c.in-Ok.number) made.1 ∙ made_holds made.0 body s.table numbered c.in-Ok.number ∙ ap (λ n. holds_of n s.table) e.number ∙ next_holds s.table numbered in
    omega (arith, none)

pub invariant_of-self-in-Ok : goal.invariant_of-self-in-Ok
invariant_of-self-in-Ok g c =
    let s = c.self.inside in
    let old = state_with s.table s.stack s.globals.items s.outside.items s.events.items s.ticks in
    let body = array_of_zeros c.args.element c.natural_of.result in
    let e = c.in-Ok.ensures in
    let numbered = (c.facts.ensures.sound).numbered in
    let made = made_in (slot_of c.in-Ok.number c.new_array.new.self) body s.table c.new_array.new.self e.made in
    let lives : Lives c.new_array.new.self.objects c.in-Ok.number = next_lives c.in-Ok.number made.0 body s.table c.new_array.new.self e.number made.1 in
    let more = more_one c.in-Ok.number c.new_array.new.self lives in
    let held : c.set_latest_held.new.self ≡ keeping (c.in-Ok.number ∷ []) s.stack = rw c.in_ok-push_held.ensures.held at c.set_latest_held.ensures.held in
    let mid = at_table c.new_array.new.self old in
    rw (held, c.hold.ensures.held) (counts_more (c.in-Ok.number ∷ []) mid (at_table _ (holding (c.in-Ok.number ∷ []) old)) more (λ m. times_holding m (c.in-Ok.number ∷ []) old)
    (λ m. ap (holds_of m) made.1 ∙ made_holds made.0 body s.table numbered m ∙ c.self.invariant m))

pub returns-in-Ok-clause-constructed : goal.returns-in-Ok-clause-constructed
returns-in-Ok-clause-constructed g c = λ names.
    let s = c.self.inside in
    let old = state_with s.table s.stack s.globals.items s.outside.items s.events.items s.ticks in
    let body = array_of_zeros c.args.element c.natural_of.result in
    let e = c.in-Ok.ensures in
    let numbered = (c.facts.ensures.sound).numbered in
    let made = made_in (slot_of c.in-Ok.number c.new_array.new.self) body s.table c.new_array.new.self e.made in
    let lives : Lives c.new_array.new.self.objects c.in-Ok.number = next_lives c.in-Ok.number made.0 body s.table c.new_array.new.self e.number made.1 in
    let more = more_one c.in-Ok.number c.new_array.new.self lives in
    let held : c.set_latest_held.new.self ≡ keeping (c.in-Ok.number ∷ []) s.stack = rw c.in_ok-push_held.ensures.held at c.set_latest_held.ensures.held in
    let is = c.natural_of.ensures.natural in
    let full : IsFull s.table → ⊥ = λ f. (let none = e.full.1 f in absurd (cc)) in
    let spent : IsSpent s.table → ⊥ = λ f. (let none = e.spent.1 (full, f) in absurd (cc)) in
    let long : max_elements < natural_of c.args.count → ⊥ = λ f. (let none = e.long.1 (full, spent, omega (arith, f, is)) in absurd (cc)) in
    rw (← c.self.view_is, held, c.hold.ensures.held) (construct_gives g.B.HostObject names c.args.element c.args.count old c.in-Ok.number made.0 _ numbered full spent long e.number c.natural_of.result is (more.same ∙ ap bare made.1))

pub returns-in-Err-clause-constructed : goal.returns-in-Err-clause-constructed
returns-in-Err-clause-constructed g c = λ names.
    let s = c.self.inside in
    let old = state_with s.table s.stack s.globals.items s.outside.items s.events.items s.ticks in
    let e = c.in-Err.ensures in
    let fault = c.in-Err.fault in
    let stack : c.drop_latest_held.new.self ≡ s.stack = rw c.in_ok-push_held.ensures.held at c.drop_latest_held.ensures.held in
    let new = state_with c.new_array.new.self c.drop_latest_held.new.self s.globals.items s.outside.items s.events.items s.ticks in
    let same : old ≡ new = rw (stack, e.unchanged) refl in
    construct_stops g.B.HostObject names c.args.element c.args.count old fault c.from.result c.args.self.now new c.from.ensures c.self.view_is same
    (construct_ends g.B.HostObject names c.args.element c.args.count old fault (λ is. e.full.0 (ap Err is)) (λ is. e.spent.0 (ap Err is)) (λ is. e.pool (ap Err is)) (λ is. rw c.natural_of.ensures.natural at (e.long.0 (ap Err is))))
