use Rattle.std.proofs.Common.{refl}
use Rattle.ash_meaning.proofs.Computing.{computing}
use Rattle.ash_meaning.proofs.examples.worked_release_examples.Goals as goal

pub returns-clause-condition : goal.returns-clause-condition
unfolding computing
returns-clause-condition c = refl

pub returns-clause-blocks : goal.returns-clause-blocks
unfolding computing
returns-clause-blocks c = refl

pub returns-clause-continued : goal.returns-clause-continued
unfolding computing
returns-clause-continued c = refl

pub returns-clause-returned : goal.returns-clause-returned
unfolding computing
returns-clause-returned c = refl

pub returns-clause-exception : goal.returns-clause-exception
unfolding computing
returns-clause-exception c = refl

pub returns-clause-function_of_the_exception : goal.returns-clause-function_of_the_exception
unfolding computing
returns-clause-function_of_the_exception c = refl

pub returns-clause-construction : goal.returns-clause-construction
unfolding computing
returns-clause-construction c = refl

pub returns-clause-refused_entry : goal.returns-clause-refused_entry
unfolding computing
returns-clause-refused_entry c = refl

pub returns-clause-overwritten : goal.returns-clause-overwritten
unfolding computing
returns-clause-overwritten c = refl

pub returns-clause-read_before : goal.returns-clause-read_before
unfolding computing
returns-clause-read_before c = refl

pub returns-clause-switch_value : goal.returns-clause-switch_value
unfolding computing
returns-clause-switch_value c = refl

pub returns-clause-each_variable : goal.returns-clause-each_variable
unfolding computing
returns-clause-each_variable c = refl

pub returns-clause-each_global : goal.returns-clause-each_global
unfolding computing
returns-clause-each_global c = refl

pub returns-clause-argument : goal.returns-clause-argument
unfolding computing
returns-clause-argument c = refl

pub returns-clause-exception_of_an_argument : goal.returns-clause-exception_of_an_argument
unfolding computing
returns-clause-exception_of_an_argument c = refl
