use Rattle.std.proofs.Common.{refl}
use Rattle.ash_meaning.proofs.Computing.{computing}
use Rattle.ash_meaning.proofs.outcomes.worked_pool_examples.Goals as goal

pub returns-clause-raise_of_a_service : goal.returns-clause-raise_of_a_service
unfolding computing
returns-clause-raise_of_a_service c = refl

pub returns-clause-its_state_stays : goal.returns-clause-its_state_stays
unfolding computing
returns-clause-its_state_stays c = refl

pub returns-clause-its_event_stays : goal.returns-clause-its_event_stays
unfolding computing
returns-clause-its_event_stays c = refl

pub returns-clause-first_of_its_kind : goal.returns-clause-first_of_its_kind
unfolding computing
returns-clause-first_of_its_kind c = refl

pub returns-clause-none_of_its_kind : goal.returns-clause-none_of_its_kind
unfolding computing
returns-clause-none_of_its_kind c = refl

pub returns-clause-number_before_box : goal.returns-clause-number_before_box
unfolding computing
returns-clause-number_before_box c = refl
