use Rattle.std.proofs.Common.{◌≡◌, ◌∙◌, ap, true, false, rules}
use Rattle.ash_host.specs.declared.answer.HostAnswer.TheVariants.{Nothing}
use Rattle.ash_host.specs.declared.event.Target.TheVariants as targets
use Rattle.ash_host.specs.Calls.{Set}
use Rattle.ash_meaning.specs.HostSteps as hosts
use Rattle.ash_objects.specs.Responses.{with_box}
use Rattle.ash_objects.specs.Table.{with_object, holds_of}
use Rattle.ash_run_steps.specs.RunStates.{state_with}
use Rattle.ash_run_steps.proofs.AnsweredCalls.{set_gives, lacks_host, object_answers, object_lacks}
use Rattle.ash_run_steps.proofs.BoxChanges.{holds_boxed}
use Rattle.ash_run_steps.proofs.state.RunState.set_property.Goals as goal

pub returns-then-not-is_host-clause-written : goal.returns-then-not-is_host-clause-written
returns-then-not-is_host-clause-written g c =
    let s = c.self.inside in
    let a = c.args in
    let no : c.is_host.result ≡ false = search rules in
    let none = c.is_host.ensures.none no in
    λ names. rw (← c.self.view_is) (lacks_host g.B.HostObject names (targets.Object a.number) (hosts.set_property a.number a.property a.word) (state_with s.table s.stack s.globals.items s.outside.items s.events.items s.ticks) (λ rest. object_lacks g.B.HostObject names a.number (state_with s.table s.stack s.globals.items s.outside.items s.events.items s.ticks) rest none))

pub invariant_of-self : goal.invariant_of-self
invariant_of-self g c = λ m.
    let got = c.set_prop.ensures.answered in
    ap (holds_of m) got.becomes ∙ holds_boxed c.args.number m got.after c.self.inside.table ∙ c.self.invariant m

pub returns-clause-written : goal.returns-clause-written
returns-clause-written g c =
    let s = c.self.inside in
    let a = c.args in
    let yes : c.is_host.result ≡ true = search rules in
    let got = c.set_prop.ensures.answered in
    let fits = rw got.was at (c.is_host.ensures.host yes) in
    λ names. rw (← c.self.view_is, got.becomes) (set_gives g.B.HostObject names a.number a.property a.word (state_with s.table s.stack s.globals.items s.outside.items s.events.items s.ticks) (with_object a.number (with_box got.after) s.table)
    (object_answers g.B.HostObject names a.number (Set a.property a.word) Nothing got.before got.after (state_with s.table s.stack s.globals.items s.outside.items s.events.items s.ticks) (c.facts.ensures.sound).numbered got.was got.responds fits tt))
