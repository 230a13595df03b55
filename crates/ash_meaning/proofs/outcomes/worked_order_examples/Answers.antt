use Rattle.std.proofs.Common.{refl}
use Rattle.ash_meaning.proofs.Computing.{computing}
use Rattle.ash_meaning.proofs.outcomes.worked_order_examples.Goals as goal

pub returns-clause-arguments : goal.returns-clause-arguments
unfolding computing
returns-clause-arguments c = refl

pub returns-clause-arguments_before_null : goal.returns-clause-arguments_before_null
unfolding computing
returns-clause-arguments_before_null c = refl

pub returns-clause-null_after_them : goal.returns-clause-null_after_them
unfolding computing
returns-clause-null_after_them c = refl

pub returns-clause-updated_place : goal.returns-clause-updated_place
unfolding computing
returns-clause-updated_place c = refl

pub returns-clause-counted_place : goal.returns-clause-counted_place
unfolding computing
returns-clause-counted_place c = refl

pub returns-clause-left_operand_first : goal.returns-clause-left_operand_first
unfolding computing
returns-clause-left_operand_first c = refl

pub returns-clause-updated_place_last : goal.returns-clause-updated_place_last
unfolding computing
returns-clause-updated_place_last c = refl

pub returns-clause-decided_by_true : goal.returns-clause-decided_by_true
unfolding computing
returns-clause-decided_by_true c = refl

pub returns-clause-left_open_by_false : goal.returns-clause-left_open_by_false
unfolding computing
returns-clause-left_open_by_false c = refl

pub returns-clause-left_open_by_true : goal.returns-clause-left_open_by_true
unfolding computing
returns-clause-left_open_by_true c = refl

pub returns-clause-methods_in_another_order : goal.returns-clause-methods_in_another_order
unfolding computing
returns-clause-methods_in_another_order c = refl

pub returns-clause-interface_that_is_not_listed : goal.returns-clause-interface_that_is_not_listed
unfolding computing
returns-clause-interface_that_is_not_listed c = refl

pub returns-clause-frame_of_the_caller : goal.returns-clause-frame_of_the_caller
unfolding computing
returns-clause-frame_of_the_caller c = refl

pub returns-clause-frame_of_a_load : goal.returns-clause-frame_of_a_load
unfolding computing
returns-clause-frame_of_a_load c = refl

pub returns-clause-ticks_of_a_load : goal.returns-clause-ticks_of_a_load
unfolding computing
returns-clause-ticks_of_a_load c = refl
