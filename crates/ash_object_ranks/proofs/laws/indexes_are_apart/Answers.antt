use Rattle.ash_object_ranks.proofs.Indexes as indexes
use Rattle.ash_object_ranks.proofs.laws.indexes_are_apart.Goals as goal

pub returns-clause-classes : goal.returns-clause-classes
returns-clause-classes g = λ m. indexes.classes_differ m

pub returns-clause-interfaces : goal.returns-clause-interfaces
returns-clause-interfaces g = λ host m sound. indexes.interfaces_differ sound

pub returns-clause-apart : goal.returns-clause-apart
returns-clause-apart g = λ host m sound. indexes.classes_are_no_interfaces sound

pub returns-clause-below : goal.returns-clause-below
returns-clause-below g = λ host m sound. indexes.are_below sound
