use Rattle.std.proofs.Common.{refl}
use Rattle.ash_meaning.proofs.Computing.{computing}
use Rattle.ash_meaning.proofs.examples.worked_host_examples.Goals as goal

pub returns-clause-held_until_the_expression_ends : goal.returns-clause-held_until_the_expression_ends
unfolding computing
returns-clause-held_until_the_expression_ends c = refl

pub returns-clause-in_ascending_number : goal.returns-clause-in_ascending_number
unfolding computing
returns-clause-in_ascending_number c = refl

pub returns-clause-blocks_left_together : goal.returns-clause-blocks_left_together
unfolding computing
returns-clause-blocks_left_together c = refl

pub returns-clause-empty_pool : goal.returns-clause-empty_pool
unfolding computing
returns-clause-empty_pool c = refl

pub returns-clause-no_answer : goal.returns-clause-no_answer
unfolding computing
returns-clause-no_answer c = refl

pub returns-clause-another_answer : goal.returns-clause-another_answer
unfolding computing
returns-clause-another_answer c = refl

pub returns-clause-raised : goal.returns-clause-raised
unfolding computing
returns-clause-raised c = refl

pub returns-clause-raised_events : goal.returns-clause-raised_events
unfolding computing
returns-clause-raised_events c = refl

pub returns-clause-another_type : goal.returns-clause-another_type
unfolding computing
returns-clause-another_type c = refl

pub returns-clause-no_result : goal.returns-clause-no_result
unfolding computing
returns-clause-no_result c = refl

pub returns-clause-no_memory : goal.returns-clause-no_memory
unfolding computing
returns-clause-no_memory c = refl

pub returns-clause-initializers : goal.returns-clause-initializers
unfolding computing
returns-clause-initializers c = refl

pub returns-clause-effects_stay : goal.returns-clause-effects_stay
unfolding computing
returns-clause-effects_stay c = refl
