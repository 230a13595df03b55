use Rattle.std.proofs.Common.{sym, ap, ◌∙◌}
use Rattle.ash_type_rules.specs.ExpressionRules.{check_expr, placed, term_of, first_at}
use Rattle.ash_type_rules.specs.Typing.{is_known}
use Rattle.ash_type_rules.proofs.TypingWords.{answered, no_fault_at, same_ok}
use Rattle.ash_type_rules.proofs.TypingKnown.{known_type}
use Rattle.ash_type_rules.proofs.TypingComplete.{complete}
use Rattle.ash_type_rules.proofs.TypingSound.{sound}
use Rattle.ash_type_rules.proofs.TypingTypes.{type_is, read_is}
use Rattle.ash_type_rules.proofs.typing.typing_of_expressions.Goals as goal

pub returns-clause-complete : goal.returns-clause-complete
returns-clause-complete c = λ env left e t h. complete h

pub returns-clause-sound : goal.returns-clause-sound
returns-clause-sound c = sound

pub returns-clause-no_fault : goal.returns-clause-no_fault
returns-clause-no_fault c =
    λ env known left e. (
      λ ok. answered (check_expr env left e) ok (λ t h. (term_of t, sound env known left e t h)),
      λ t. no_fault_at (check_expr env left e) (placed (first_at e) t.0) (complete t.1),
    )

pub returns-clause-one_term : goal.returns-clause-one_term
returns-clause-one_term c =
    λ env left e t u h k.
    ap term_of (same_ok (placed (first_at e) t) (placed (first_at e) u) (sym (complete h) ∙ complete k))

pub returns-clause-known : goal.returns-clause-known
returns-clause-known c = λ env known left e t h is. let yes = known_type h known in let no = ap is_known is in cc

pub returns-clause-typed : goal.returns-clause-typed
returns-clause-typed c = λ env known left e t h. type_is h known

pub returns-clause-place : goal.returns-clause-place
returns-clause-place c = λ env left e t h. read_is h
