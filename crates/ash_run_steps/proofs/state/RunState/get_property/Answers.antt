use Rattle.std.proofs.Common.{◌≡◌, true, false, rules}
use Rattle.ash_host.specs.declared.answer.HostAnswer.TheVariants.{Value}
use Rattle.ash_host.specs.declared.event.Target.TheVariants as targets
use Rattle.ash_host.specs.Calls.{Get}
use Rattle.ash_meaning.specs.HostSteps as hosts
use Rattle.ash_objects.specs.Responses.{box_at}
use Rattle.ash_run_steps.specs.RunStates.{state_with}
use Rattle.ash_run_steps.proofs.AnsweredCalls.{some_of, get_comes, lacks_host, property_answers, object_lacks}
use Rattle.ash_run_steps.proofs.state.RunState.get_property.Goals as goal

pub returns-then-not-is_host-clause-read : goal.returns-then-not-is_host-clause-read
returns-then-not-is_host-clause-read g c =
    let s = c.self.inside in
    let a = c.args in
    let no : c.is_host.result ≡ false = search rules in
    let none = c.is_host.ensures.none no in
    λ names. rw (← c.self.view_is) (lacks_host g.B.HostObject names (targets.Object a.number) (hosts.get_property a.number a.property a.of) (state_with s.table s.stack s.globals.items s.outside.items s.events.items s.ticks) (λ rest. object_lacks g.B.HostObject names a.number (state_with s.table s.stack s.globals.items s.outside.items s.events.items s.ticks) rest none))

pub returns-clause-read : goal.returns-clause-read
returns-clause-read g c =
    let s = c.self.inside in
    let a = c.args in
    let yes : c.is_host.result ≡ true = search rules in
    let value = c.get_prop.result in
    let there = some_of (λ box. g.B.HostObject.allows box (Get a.property) (g.B.HostObject.state box) (Value value) (g.B.HostObject.state box)) (box_at a.number s.table) c.get_prop.ensures.allowed in
    let fits = rw there.1 at (c.is_host.ensures.host yes) in
    λ names. rw (← c.self.view_is) (get_comes g.B.HostObject names a.number a.property a.of (Value value) (state_with s.table s.stack s.globals.items s.outside.items s.events.items s.ticks) c.accept.result
    (property_answers g.B.HostObject names a.number a.property (Value value) there.0 (state_with s.table s.stack s.globals.items s.outside.items s.events.items s.ticks) (c.facts.ensures.sound).numbered there.1 there.2 fits c.answers_have_their_ranges.ensures.in_range)
    c.accept.ensures.made)
