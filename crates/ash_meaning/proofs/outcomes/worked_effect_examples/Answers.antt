use Rattle.std.proofs.Common.{refl}
use Rattle.ash_meaning.proofs.Computing.{computing}
use Rattle.ash_meaning.proofs.outcomes.worked_effect_examples.Goals as goal

pub returns-clause-of_a_constructor : goal.returns-clause-of_a_constructor
unfolding computing
returns-clause-of_a_constructor c = refl

pub returns-clause-no_object_is_left : goal.returns-clause-no_object_is_left
unfolding computing
returns-clause-no_object_is_left c = refl

pub returns-clause-its_number_is_taken : goal.returns-clause-its_number_is_taken
unfolding computing
returns-clause-its_number_is_taken c = refl

pub returns-clause-of_a_member : goal.returns-clause-of_a_member
unfolding computing
returns-clause-of_a_member c = refl

pub returns-clause-before_a_construction : goal.returns-clause-before_a_construction
unfolding computing
returns-clause-before_a_construction c = refl

pub returns-clause-before_a_draw : goal.returns-clause-before_a_draw
unfolding computing
returns-clause-before_a_draw c = refl

pub returns-clause-escaped : goal.returns-clause-escaped
unfolding computing
returns-clause-escaped c = refl

pub returns-clause-of_a_condition : goal.returns-clause-of_a_condition
unfolding computing
returns-clause-of_a_condition c = refl

pub returns-clause-of_a_step : goal.returns-clause-of_a_step
unfolding computing
returns-clause-of_a_step c = refl

pub returns-clause-of_an_exception : goal.returns-clause-of_an_exception
unfolding computing
returns-clause-of_an_exception c = refl

pub returns-clause-of_an_abort : goal.returns-clause-of_an_abort
unfolding computing
returns-clause-of_an_abort c = refl
