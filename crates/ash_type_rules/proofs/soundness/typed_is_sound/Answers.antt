use Rattle.ash_type_rules.proofs.SoundnessExpressions.{term_sound}
use Rattle.ash_type_rules.proofs.SoundnessStatements.{stmts_sound}
use Rattle.ash_type_rules.proofs.SoundnessNesting.{derived_proper}
use Rattle.ash_type_rules.proofs.SoundnessModules.{module_sound}
use Rattle.ash_type_rules.proofs.soundness.typed_is_sound.Goals as goal

pub returns-clause-expressions : goal.returns-clause-expressions
returns-clause-expressions c = λ env known left e t h. (term_sound h known).gives

pub returns-clause-statements : goal.returns-clause-statements
returns-clause-statements c = λ scope known ss ts nest h. stmts_sound h known nest

pub returns-clause-modules : goal.returns-clause-modules
returns-clause-modules c = module_sound

pub returns-clause-derived : goal.returns-clause-derived
returns-clause-derived c = λ registrations free tokens is typed d h. module_sound registrations is typed (derived_proper d) h
