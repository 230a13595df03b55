use Rattle.ash_registry.proofs.Meanings.{some_class, one_class, some_declared, one_declared}
use Rattle.ash_registry.proofs.texts.one_meaning.Goals as goal

pub returns-clause-some_class : goal.returns-clause-some_class
returns-clause-some_class c = some_class

pub returns-clause-one_class : goal.returns-clause-one_class
returns-clause-one_class c = one_class

pub returns-clause-some_declaration : goal.returns-clause-some_declaration
returns-clause-some_declaration c = some_declared

pub returns-clause-one_declaration : goal.returns-clause-one_declaration
returns-clause-one_declaration c = one_declared
