use Rattle.ash_type_rules.proofs.TypingCallees.{variable_written, variable_read_back}
use Rattle.ash_type_rules.proofs.typing.types_of_variables.Goals as goal

pub returns-clause-written : goal.returns-clause-written
returns-clause-written c = variable_written

pub returns-clause-read : goal.returns-clause-read
returns-clause-read c = variable_read_back
