use Rattle.ash_release_laws.proofs.WrongMeanings as wrong
use Rattle.ash_release_laws.proofs.wrong_meanings.holding_on_is_refused.Goals as goal

pub returns-clause-statement : goal.returns-clause-statement
returns-clause-statement c = wrong.held_example

pub returns-clause-refused_statement : goal.returns-clause-refused_statement
returns-clause-refused_statement c = wrong.held_refused

pub returns-clause-call : goal.returns-clause-call
returns-clause-call c = wrong.call_example

pub returns-clause-refused_call : goal.returns-clause-refused_call
returns-clause-refused_call c = wrong.call_refused
