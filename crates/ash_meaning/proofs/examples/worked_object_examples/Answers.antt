use Rattle.std.proofs.Common.{refl}
use Rattle.ash_meaning.proofs.Computing.{computing}
use Rattle.ash_meaning.proofs.examples.worked_object_examples.Goals as goal

pub returns-clause-right_side_first : goal.returns-clause-right_side_first
unfolding computing
returns-clause-right_side_first c = refl

pub returns-clause-constructed : goal.returns-clause-constructed
unfolding computing
returns-clause-constructed c = refl

pub returns-clause-own_method : goal.returns-clause-own_method
unfolding computing
returns-clause-own_method c = refl

pub returns-clause-cast_to_its_class : goal.returns-clause-cast_to_its_class
unfolding computing
returns-clause-cast_to_its_class c = refl

pub returns-clause-cast_to_another : goal.returns-clause-cast_to_another
unfolding computing
returns-clause-cast_to_another c = refl

pub returns-clause-inserted : goal.returns-clause-inserted
unfolding computing
returns-clause-inserted c = refl

pub returns-clause-removed : goal.returns-clause-removed
unfolding computing
returns-clause-removed c = refl

pub returns-clause-index : goal.returns-clause-index
unfolding computing
returns-clause-index c = refl

pub returns-clause-resized : goal.returns-clause-resized
unfolding computing
returns-clause-resized c = refl

pub returns-clause-too_long : goal.returns-clause-too_long
unfolding computing
returns-clause-too_long c = refl

pub returns-clause-no_element : goal.returns-clause-no_element
unfolding computing
returns-clause-no_element c = refl
