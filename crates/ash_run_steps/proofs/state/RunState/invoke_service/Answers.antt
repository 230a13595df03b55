use Rattle.std.proofs.Common.{◌≡◌, ◌≤◌, take, drop, length, true, rules}
use Rattle.std.specs.Prelude.{slice_get}
use Rattle.std.proofs.lemmas.Option.{slice_get_within}
use Rattle.ash_host.specs.declared.event.Target.TheVariants as targets
use Rattle.ash_host.specs.Calls.{Invoke}
use Rattle.ash_host.specs.Limits.{max_state_bytes}
use Rattle.ash_run_steps.specs.RunStates.{state_with}
use Rattle.ash_run_steps.proofs.AnsweredCalls.{some_of, call_comes, service_answers}
use Rattle.ash_run_steps.proofs.BoxChanges.{with_service}
use Rattle.ash_run_steps.proofs.state.RunState.invoke_service.Goals as goal

pub returns-then-not-is_service-clause-invoked : goal.returns-then-not-is_service-clause-invoked
returns-then-not-is_service-clause-invoked g c = λ names. tt

pub invoke_service-requires : goal.invoke_service-requires
invoke_service-requires g c =
    let s = c.self.inside in
    let yes : c.is_service.result ≡ true = search rules in
    let there = some_of (λ box. length (g.B.HostObject.state box) ≤ max_state_bytes) (slice_get s.table.services c.args.service) (c.is_service.ensures.service yes) in
    record { registered = slice_get_within s.table.services c.args.service there.0 there.1 }

pub returns-clause-invoked : goal.returns-clause-invoked
returns-clause-invoked g c =
    let s = c.self.inside in
    let a = c.args in
    let yes : c.is_service.result ≡ true = search rules in
    let got = rw c.slots_from-args.ensures.slots at c.in_ok-answer.ensures.answered in
    let fits = rw got.was at (c.is_service.ensures.service yes) in
    λ names. rw (← c.self.view_is, got.becomes, c.in_ok-answer.ensures.called) (call_comes g.B.HostObject names (targets.Service a.service) a.function a.declared (take a.count (drop a.at (s.stack.frame).slots)) c.in_ok-answer.answer (state_with s.table s.stack s.globals.items s.outside.items s.events.items s.ticks) (with_service a.service got.after s.table)
    (service_answers g.B.HostObject names a.service (Invoke a.function (take a.count (drop a.at (s.stack.frame).slots))) c.in_ok-answer.answer got.before got.after (state_with s.table s.stack s.globals.items s.outside.items s.events.items s.ticks) got.was got.responds fits c.answers_have_their_ranges.ensures.in_range)
    c.accept.result c.accept.ensures.made)
