use Rattle.std.proofs.Common.{sym, ◌∙◌}
use Rattle.ash_type_rules.specs.ItemRules.{check_module}
use Rattle.ash_type_rules.proofs.TypingWords.{answered, no_fault_at, same_ok}
use Rattle.ash_type_rules.proofs.ModuleLaws.{typed_known, check_module-exact}
use Rattle.ash_type_rules.proofs.modules.typing_of_modules.Goals as goal

pub returns-clause-agrees : goal.returns-clause-agrees
returns-clause-agrees c = check_module-exact

pub returns-clause-no_fault : goal.returns-clause-no_fault
returns-clause-no_fault c =
    λ registrations is. (
      λ ok. answered (check_module registrations is) ok (λ m h. (m, (check_module-exact registrations is m).0 h)),
      λ m. no_fault_at (check_module registrations is) m.0 ((check_module-exact registrations is m.0).1 m.1),
    )

pub returns-clause-one_tree : goal.returns-clause-one_tree
returns-clause-one_tree c =
    λ registrations is t u h k. same_ok t u (sym ((check_module-exact registrations is t).1 h) ∙ (check_module-exact registrations is u).1 k)

pub returns-clause-known : goal.returns-clause-known
returns-clause-known c = typed_known
