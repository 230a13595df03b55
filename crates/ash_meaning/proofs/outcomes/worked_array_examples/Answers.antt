use Rattle.std.proofs.Common.{refl}
use Rattle.ash_meaning.proofs.Computing.{computing}
use Rattle.ash_meaning.proofs.outcomes.worked_array_examples.Goals as goal

pub returns-clause-index_before_null : goal.returns-clause-index_before_null
unfolding computing
returns-clause-index_before_null c = refl

pub returns-clause-null_before_bounds : goal.returns-clause-null_before_bounds
unfolding computing
returns-clause-null_before_bounds c = refl

pub returns-clause-too_long_changes_nothing : goal.returns-clause-too_long_changes_nothing
unfolding computing
returns-clause-too_long_changes_nothing c = refl

pub returns-clause-inserted_last : goal.returns-clause-inserted_last
unfolding computing
returns-clause-inserted_last c = refl

pub returns-clause-no_room : goal.returns-clause-no_room
unfolding computing
returns-clause-no_room c = refl

pub returns-clause-taken_away : goal.returns-clause-taken_away
unfolding computing
returns-clause-taken_away c = refl

pub returns-clause-too_many_elements : goal.returns-clause-too_many_elements
unfolding computing
returns-clause-too_many_elements c = refl

pub returns-clause-no_number_is_taken : goal.returns-clause-no_number_is_taken
unfolding computing
returns-clause-no_number_is_taken c = refl

pub returns-clause-number_before_length : goal.returns-clause-number_before_length
unfolding computing
returns-clause-number_before_length c = refl
