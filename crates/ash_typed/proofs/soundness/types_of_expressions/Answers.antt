use Rattle.ash_typed.proofs.SoundTypes.{type_is, one_type, place_type}
use Rattle.ash_typed.proofs.soundness.types_of_expressions.Goals as goal

pub returns-clause-typed : goal.returns-clause-typed
returns-clause-typed c = λ env e of h. type_is h

pub returns-clause-one_type : goal.returns-clause-one_type
returns-clause-one_type c = λ env e one other h k. one_type h k

pub returns-clause-place : goal.returns-clause-place
returns-clause-place c = λ env place of h. place_type h
