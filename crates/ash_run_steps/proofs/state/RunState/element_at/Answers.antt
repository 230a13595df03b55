use Rattle.std.proofs.Common.{◌≤◌, ◌<◌, ◌∙◌, sym, length}
use Rattle.ash_run_steps.specs.PartSteps.{words_at}
use Rattle.ash_run_steps.specs.RunStates.{state_with}
use Rattle.ash_run_steps.proofs.ArraySteps.{element_gives, element_past}
use Rattle.ash_run_steps.proofs.AskedObjects.{element_lacks}
use Rattle.ash_run_steps.proofs.state.RunState.element_at.Goals as goal

pub returns-in_default-clause-element : goal.returns-in_default-clause-element
returns-in_default-clause-element g c = λ names.
    element_lacks g.B.HostObject names c.args.array c.args.index c.args.self.now (sym c.handle.ensures.handle ∙ c.in_default.is)

pub returns-then-place-words_at-clause-element : goal.returns-then-place-words_at-clause-element
returns-then-place-words_at-clause-element g c = λ names.
    let s = c.self.inside in
    let past : length (words_at c.in-Some.number s.table) ≤ c.natural_of-place.result = rw c.words_at.ensures.words at c.if-place-words_at.true in
    rw (← c.self.view_is) (element_past g.B.HostObject names (state_with s.table s.stack s.globals.items s.outside.items s.events.items s.ticks) c.args.array c.args.index c.in-Some.number c.natural_of-place.result (sym c.handle.ensures.handle ∙ c.in-Some.is) c.natural_of-place.ensures.natural past)

pub returns-clause-element : goal.returns-clause-element
returns-clause-element g c = λ names.
    let s = c.self.inside in
    let within : c.natural_of-place.result < length (words_at c.in-Some.number s.table) = rw c.words_at.ensures.words at c.if-place-words_at.false in
    rw (← c.self.view_is) (element_gives g.B.HostObject names (state_with s.table s.stack s.globals.items s.outside.items s.events.items s.ticks) c.args.array c.args.index c.in-Some.number c.natural_of-place.result (sym c.handle.ensures.handle ∙ c.in-Some.is) c.natural_of-place.ensures.natural within)
