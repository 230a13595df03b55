use Rattle.std.proofs.Common.{refl}
use Rattle.ash_meaning.proofs.Computing.{computing}
use Rattle.ash_meaning.proofs.outcomes.worked_exception_examples.Goals as goal

pub returns-clause-local : goal.returns-clause-local
unfolding computing
returns-clause-local c = refl

pub returns-clause-if_condition : goal.returns-clause-if_condition
unfolding computing
returns-clause-if_condition c = refl

pub returns-clause-do_condition : goal.returns-clause-do_condition
unfolding computing
returns-clause-do_condition c = refl

pub returns-clause-for_condition : goal.returns-clause-for_condition
unfolding computing
returns-clause-for_condition c = refl

pub returns-clause-for_head : goal.returns-clause-for_head
unfolding computing
returns-clause-for_head c = refl

pub returns-clause-switch_value : goal.returns-clause-switch_value
unfolding computing
returns-clause-switch_value c = refl

pub returns-clause-after_a_member : goal.returns-clause-after_a_member
unfolding computing
returns-clause-after_a_member c = refl

pub returns-clause-second_member : goal.returns-clause-second_member
unfolding computing
returns-clause-second_member c = refl

pub returns-clause-argument_of_a_construction : goal.returns-clause-argument_of_a_construction
unfolding computing
returns-clause-argument_of_a_construction c = refl

pub returns-clause-argument_of_a_draw : goal.returns-clause-argument_of_a_draw
unfolding computing
returns-clause-argument_of_a_draw c = refl

pub returns-clause-condition : goal.returns-clause-condition
unfolding computing
returns-clause-condition c = refl

pub returns-clause-step : goal.returns-clause-step
unfolding computing
returns-clause-step c = refl

pub returns-clause-global : goal.returns-clause-global
unfolding computing
returns-clause-global c = refl
