use Rattle.std.proofs.Common.{refl}
use Rattle.ash_meaning.proofs.Computing.{computing}
use Rattle.ash_meaning.proofs.examples.worked_examples.Goals as goal

pub returns-clause-sum : goal.returns-clause-sum
unfolding computing
returns-clause-sum c = refl

pub returns-clause-refused_tick : goal.returns-clause-refused_tick
unfolding computing
returns-clause-refused_tick c = refl

pub returns-clause-toward_zero : goal.returns-clause-toward_zero
unfolding computing
returns-clause-toward_zero c = refl

pub returns-clause-zero_divisor : goal.returns-clause-zero_divisor
unfolding computing
returns-clause-zero_divisor c = refl

pub returns-clause-through_null : goal.returns-clause-through_null
unfolding computing
returns-clause-through_null c = refl

pub returns-clause-first_label : goal.returns-clause-first_label
unfolding computing
returns-clause-first_label c = refl

pub returns-clause-second_label : goal.returns-clause-second_label
unfolding computing
returns-clause-second_label c = refl

pub returns-clause-last_label : goal.returns-clause-last_label
unfolding computing
returns-clause-last_label c = refl

pub returns-clause-looping : goal.returns-clause-looping
unfolding computing
returns-clause-looping c = refl

pub returns-clause-ticks_of_a_loop : goal.returns-clause-ticks_of_a_loop
unfolding computing
returns-clause-ticks_of_a_loop c = refl

pub returns-clause-at_least_once : goal.returns-clause-at_least_once
unfolding computing
returns-clause-at_least_once c = refl

pub returns-clause-ticks_of_a_do : goal.returns-clause-ticks_of_a_do
unfolding computing
returns-clause-ticks_of_a_do c = refl

pub returns-clause-only_what_decides : goal.returns-clause-only_what_decides
unfolding computing
returns-clause-only_what_decides c = refl

pub returns-clause-frames : goal.returns-clause-frames
unfolding computing
returns-clause-frames c = refl

pub returns-clause-frames_and_ticks : goal.returns-clause-frames_and_ticks
unfolding computing
returns-clause-frames_and_ticks c = refl

pub returns-clause-least_by_minus_one : goal.returns-clause-least_by_minus_one
unfolding computing
returns-clause-least_by_minus_one c = refl

pub returns-clause-before_and_after : goal.returns-clause-before_and_after
unfolding computing
returns-clause-before_and_after c = refl

pub returns-clause-line_of_the_entry : goal.returns-clause-line_of_the_entry
unfolding computing
returns-clause-line_of_the_entry c = refl

pub returns-clause-line_of_a_declaration : goal.returns-clause-line_of_a_declaration
unfolding computing
returns-clause-line_of_a_declaration c = refl

pub returns-clause-one_tick_for_two_variables : goal.returns-clause-one_tick_for_two_variables
unfolding computing
returns-clause-one_tick_for_two_variables c = refl

pub returns-clause-line_of_an_exception : goal.returns-clause-line_of_an_exception
unfolding computing
returns-clause-line_of_an_exception c = refl
