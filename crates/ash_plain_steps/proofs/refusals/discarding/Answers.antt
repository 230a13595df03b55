use Rattle.std.proofs.Common.{List, sym, ◌∙◌, ap, arith}
use Rattle.ash_plain_steps.proofs.Given.{place_in, discard_nowhere, removal_given}
use Rattle.ash_plain_steps.proofs.refusals.discarding.Goals as goal

pub returns-in-Some-clause-task : goal.returns-in-Some-clause-task
returns-in-Some-clause-task g c embedding =
    removal_given embedding c.args.state.now c.args.name.now c.in-Some.place (omega (arith, c.if-state-ge-MAX_SEQ.false))
    (sym (c.in-Some.ensures.value ∙ ap (λ (l : List _). place_in c.args.name.now l) c.deref.ensures.value))

pub returns-in-None-clause-task : goal.returns-in-None-clause-task
returns-in-None-clause-task g c embedding =
    discard_nowhere embedding c.args.state.now c.args.name.now (omega (arith, c.if-state-ge-MAX_SEQ.false))
    (sym (c.in-None.ensures.value ∙ ap (λ (l : List _). place_in c.args.name.now l) c.deref.ensures.value))
