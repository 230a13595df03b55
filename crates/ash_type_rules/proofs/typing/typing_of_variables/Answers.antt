use Rattle.ash_type_rules.specs.Declarations.{check_decl}
use Rattle.ash_type_rules.proofs.TypingWords.{answered, no_fault_at}
use Rattle.ash_type_rules.proofs.TypingVariables.{begins_complete, begins_sound, declared_complete, declared_sound}
use Rattle.ash_type_rules.proofs.typing.typing_of_variables.Goals as goal

pub returns-clause-begins_complete : goal.returns-clause-begins_complete
returns-clause-begins_complete c = λ env of_at at of i value h. begins_complete h of_at at

pub returns-clause-begins_sound : goal.returns-clause-begins_sound
returns-clause-begins_sound c = begins_sound

pub returns-clause-complete : goal.returns-clause-complete
returns-clause-complete c = λ env at of d i h. declared_complete h at

pub returns-clause-sound : goal.returns-clause-sound
returns-clause-sound c = declared_sound

pub returns-clause-no_fault : goal.returns-clause-no_fault
returns-clause-no_fault c =
    λ env known at of d. (
      λ ok. answered (check_decl env at of d) ok (λ i h. (i, declared_sound env known at of d i h)),
      λ i. no_fault_at (check_decl env at of d) i.0 (declared_complete i.1 at),
    )
