use Rattle.ash_type_rules.specs.ExpressionRules.{check_exprs, all_placed}
use Rattle.ash_type_rules.proofs.TypingWords.{answered, no_fault_at}
use Rattle.ash_type_rules.proofs.TypingComplete.{terms, all_complete}
use Rattle.ash_type_rules.proofs.TypingSound.{all_sound}
use Rattle.ash_type_rules.proofs.typing.typing_of_arguments.Goals as goal

pub returns-clause-complete : goal.returns-clause-complete
returns-clause-complete c = λ env es ts h. all_complete h

pub returns-clause-sound : goal.returns-clause-sound
returns-clause-sound c = all_sound

pub returns-clause-no_fault : goal.returns-clause-no_fault
returns-clause-no_fault c =
    λ env known es. (
      λ ok. answered (check_exprs env es) ok (λ ts h. (terms ts, all_sound env known es ts h)),
      λ ts. no_fault_at (check_exprs env es) (all_placed es ts.0) (all_complete ts.1),
    )
