use Rattle.std.proofs.Common.{sym, ◌∙◌}
use Rattle.ash_type_rules.specs.StatementRules.{check_stmts}
use Rattle.ash_type_rules.proofs.TypingWords.{answered, no_fault_at, same_ok}
use Rattle.ash_type_rules.proofs.StatementsComplete.{stmts_complete}
use Rattle.ash_type_rules.proofs.StatementsSound.{stmts_sound}
use Rattle.ash_type_rules.proofs.modules.typing_of_statements.Goals as goal

pub returns-clause-complete : goal.returns-clause-complete
returns-clause-complete c = λ scope ss ts h. stmts_complete h

pub returns-clause-sound : goal.returns-clause-sound
returns-clause-sound c = stmts_sound

pub returns-clause-no_fault : goal.returns-clause-no_fault
returns-clause-no_fault c =
    λ scope known ss. (
      λ ok. answered (check_stmts scope ss) ok (λ ts h. (ts, stmts_sound scope known ss ts h)),
      λ ts. no_fault_at (check_stmts scope ss) ts.0 (stmts_complete ts.1),
    )

pub returns-clause-one_tree : goal.returns-clause-one_tree
returns-clause-one_tree c = λ scope ss ts us h k. same_ok ts us (sym (stmts_complete h) ∙ stmts_complete k)
