use Rattle.std.proofs.Common.{refl}
use Rattle.ash_requests.proofs.Computing.{computing}
use Rattle.ash_requests.proofs.examples.worked_integer_runs.Goals as goal

pub returns-clause-wrapped_sum : goal.returns-clause-wrapped_sum
unfolding computing
returns-clause-wrapped_sum c = refl

pub returns-clause-quotients : goal.returns-clause-quotients
unfolding computing
returns-clause-quotients c = refl

pub returns-clause-least_by_minus_one : goal.returns-clause-least_by_minus_one
unfolding computing
returns-clause-least_by_minus_one c = refl

pub returns-clause-bits_before_comparison : goal.returns-clause-bits_before_comparison
unfolding computing
returns-clause-bits_before_comparison c = refl

pub returns-clause-effects_stay : goal.returns-clause-effects_stay
unfolding computing
returns-clause-effects_stay c = refl

pub returns-clause-another_load : goal.returns-clause-another_load
unfolding computing
returns-clause-another_load c = refl

pub returns-clause-empty_module : goal.returns-clause-empty_module
unfolding computing
returns-clause-empty_module c = refl

pub returns-clause-refusals : goal.returns-clause-refusals
unfolding computing
returns-clause-refusals c = refl
