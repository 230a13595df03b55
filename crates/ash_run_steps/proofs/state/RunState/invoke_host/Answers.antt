use Rattle.std.proofs.Common.{◌≡◌, ◌∙◌, ap, take, drop, true, false, rules}
use Rattle.ash_host.specs.declared.event.Target.TheVariants as targets
use Rattle.ash_host.specs.Calls.{Invoke}
use Rattle.ash_meaning.specs.HostSteps as hosts
use Rattle.ash_objects.specs.Responses.{with_box}
use Rattle.ash_objects.specs.Table.{with_object, holds_of}
use Rattle.ash_run_steps.specs.RunStates.{state_with}
use Rattle.ash_run_steps.proofs.AnsweredCalls.{invoke_comes, lacks_host, object_answers, object_lacks}
use Rattle.ash_run_steps.proofs.BoxChanges.{holds_boxed}
use Rattle.ash_run_steps.proofs.state.RunState.invoke_host.Goals as goal

pub returns-then-not-is_host-clause-invoked : goal.returns-then-not-is_host-clause-invoked
returns-then-not-is_host-clause-invoked g c =
    let s = c.self.inside in
    let a = c.args in
    let no : c.is_host.result ≡ false = search rules in
    let none = c.is_host.ensures.none no in
    λ names. rw (← c.self.view_is) (lacks_host g.B.HostObject names (targets.Object a.number) (hosts.invoke_host (targets.Object a.number) a.method a.declared (take a.count (drop a.at (s.stack.frame).slots))) (state_with s.table s.stack s.globals.items s.outside.items s.events.items s.ticks) (λ rest. object_lacks g.B.HostObject names a.number (state_with s.table s.stack s.globals.items s.outside.items s.events.items s.ticks) rest none))

pub invariant_of-self-2 : goal.invariant_of-self-2
invariant_of-self-2 g c = λ m.
    let got = c.in_ok-answer.ensures.answered in
    ap (holds_of m) got.becomes ∙ holds_boxed c.args.number m got.after c.self.inside.table ∙ c.self.invariant m

pub returns-clause-invoked : goal.returns-clause-invoked
returns-clause-invoked g c =
    let s = c.self.inside in
    let a = c.args in
    let yes : c.is_host.result ≡ true = search rules in
    let got = rw c.slots_from-args.ensures.slots at c.in_ok-answer.ensures.answered in
    let fits = rw got.was at (c.is_host.ensures.host yes) in
    λ names. rw (← c.self.view_is, got.becomes, c.in_ok-answer.ensures.called) (invoke_comes g.B.HostObject names (targets.Object a.number) a.method a.declared (take a.count (drop a.at (s.stack.frame).slots)) c.in_ok-answer.answer (state_with s.table s.stack s.globals.items s.outside.items s.events.items s.ticks) (with_object a.number (with_box got.after) s.table)
    (object_answers g.B.HostObject names a.number (Invoke a.method (take a.count (drop a.at (s.stack.frame).slots))) c.in_ok-answer.answer got.before got.after (state_with s.table s.stack s.globals.items s.outside.items s.events.items s.ticks) (c.facts.ensures.sound).numbered got.was got.responds fits c.answers_have_their_ranges.ensures.in_range)
    c.accept.result c.accept.ensures.made)
