use Rattle.std.proofs.Common.{◌≡◌, ◌∙◌, ap, take, drop, true, rules}
use Rattle.ash_host.specs.Calls.{Start}
use Rattle.ash_objects.specs.Responses.{with_box}
use Rattle.ash_objects.specs.Table.{with_object, holds_of}
use Rattle.ash_run_steps.specs.RunStates.{state_with}
use Rattle.ash_run_steps.proofs.AnsweredCalls.{start_comes, object_answers}
use Rattle.ash_run_steps.proofs.BoxChanges.{holds_boxed}
use Rattle.ash_run_steps.proofs.state.RunState.start.Goals as goal

pub invariant_of-self : goal.invariant_of-self
invariant_of-self g c = λ m.
    let got = c.start-answer.ensures.answered in
    ap (holds_of m) got.becomes ∙ holds_boxed c.args.number m got.after c.self.inside.table ∙ c.self.invariant m

pub returns-clause-started : goal.returns-clause-started
returns-clause-started g c =
    let s = c.self.inside in
    let a = c.args in
    let yes : c.is_host.result ≡ true = search rules in
    let got = rw c.slots_from-args.ensures.slots at c.start-answer.ensures.answered in
    let fits = rw got.was at (c.is_host.ensures.host yes) in
    λ names. rw (← c.self.view_is, got.becomes) (start_comes g.B.HostObject names a.number (take a.count (drop a.at (s.stack.frame).slots)) c.start-answer.result (state_with s.table s.stack s.globals.items s.outside.items s.events.items s.ticks) (with_object a.number (with_box got.after) s.table)
    (object_answers g.B.HostObject names a.number (Start (take a.count (drop a.at (s.stack.frame).slots))) c.start-answer.result got.before got.after (state_with s.table s.stack s.globals.items s.outside.items s.events.items s.ticks) (c.facts.ensures.sound).numbered got.was got.responds fits c.answers_have_their_ranges.ensures.in_range)
    c.accept.result c.accept.ensures.made)
