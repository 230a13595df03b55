use Rattle.std.proofs.Common.{refl}
use Rattle.ash_meaning.proofs.Computing.{computing}
use Rattle.ash_meaning.proofs.outcomes.worked_answer_examples.Goals as goal

pub returns-clause-own_answer : goal.returns-clause-own_answer
unfolding computing
returns-clause-own_answer c = refl

pub returns-clause-another_target : goal.returns-clause-another_target
unfolding computing
returns-clause-another_target c = refl

pub returns-clause-another_state : goal.returns-clause-another_state
unfolding computing
returns-clause-another_state c = refl

pub returns-clause-other_arguments : goal.returns-clause-other_arguments
unfolding computing
returns-clause-other_arguments c = refl

pub returns-clause-value_for_none : goal.returns-clause-value_for_none
unfolding computing
returns-clause-value_for_none c = refl

pub returns-clause-value_of_a_start : goal.returns-clause-value_of_a_start
unfolding computing
returns-clause-value_of_a_start c = refl

pub returns-clause-raise_of_a_start : goal.returns-clause-raise_of_a_start
unfolding computing
returns-clause-raise_of_a_start c = refl

pub returns-clause-drawn_and_dropped : goal.returns-clause-drawn_and_dropped
unfolding computing
returns-clause-drawn_and_dropped c = refl

pub returns-clause-property_of_another_type : goal.returns-clause-property_of_another_type
unfolding computing
returns-clause-property_of_another_type c = refl

pub returns-clause-property_without_a_value : goal.returns-clause-property_without_a_value
unfolding computing
returns-clause-property_without_a_value c = refl

pub returns-clause-property_written : goal.returns-clause-property_written
unfolding computing
returns-clause-property_written c = refl

pub returns-clause-property_updated : goal.returns-clause-property_updated
unfolding computing
returns-clause-property_updated c = refl
