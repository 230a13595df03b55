use Rattle.std.proofs.Common.{arith}
use Rattle.ash_run_steps.specs.RunStates.{state_with}
use Rattle.ash_run_steps.proofs.BeginSteps.{begun_shown, counts_begun, few_begun}
use Rattle.ash_run_steps.proofs.state.RunState.begin.Goals as goal

pub hold_words-requires-clause-few : goal.hold_words-requires-clause-few
hold_words-requires-clause-few g c = λ m.
    let p = c.args.parts in
    rw c.locals.ensures.locals (omega (arith, few_begun m (state_with p.table c.args.stack p.globals.items p.outside.items p.events.items c.args.ticks) c.requires.held, p.globals.ok.0, p.outside.ok.0, c.facts.ensures.short))

pub invariant_of-result : goal.invariant_of-result
invariant_of-result g c =
    let p = c.args.parts in
    counts_begun (state_with p.table c.args.stack p.globals.items p.outside.items p.events.items c.args.ticks) c.hold_words.new.table c.requires.first c.requires.this c.requires.bare c.requires.held (rw c.locals.ensures.locals at c.hold_words.ensures.held)

pub returns-clause-begun : goal.returns-clause-begun
returns-clause-begun g c = λ names rest.
    let p = c.args.parts in
    begun_shown g.B.HostObject names rest (state_with p.table c.args.stack p.globals.items p.outside.items p.events.items c.args.ticks) c.hold_words.new.table c.requires.first c.hold_words.ensures.held.same
