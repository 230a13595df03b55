use Rattle.std.proofs.Common.{refl}
use Rattle.ash_meaning.proofs.Computing.{computing}
use Rattle.ash_meaning.proofs.examples.worked_control_examples.Goals as goal

pub returns-clause-inner_switch : goal.returns-clause-inner_switch
unfolding computing
returns-clause-inner_switch c = refl

pub returns-clause-continue_in_a_switch : goal.returns-clause-continue_in_a_switch
unfolding computing
returns-clause-continue_in_a_switch c = refl

pub returns-clause-break_in_a_switch : goal.returns-clause-break_in_a_switch
unfolding computing
returns-clause-break_in_a_switch c = refl

pub returns-clause-break_of_the_inner_loop : goal.returns-clause-break_of_the_inner_loop
unfolding computing
returns-clause-break_of_the_inner_loop c = refl

pub returns-clause-in_a_field : goal.returns-clause-in_a_field
unfolding computing
returns-clause-in_a_field c = refl

pub returns-clause-in_a_constructor : goal.returns-clause-in_a_constructor
unfolding computing
returns-clause-in_a_constructor c = refl

pub returns-clause-in_an_argument : goal.returns-clause-in_an_argument
unfolding computing
returns-clause-in_an_argument c = refl

pub returns-clause-in_a_condition : goal.returns-clause-in_a_condition
unfolding computing
returns-clause-in_a_condition c = refl

pub returns-clause-in_a_step : goal.returns-clause-in_a_step
unfolding computing
returns-clause-in_a_step c = refl
