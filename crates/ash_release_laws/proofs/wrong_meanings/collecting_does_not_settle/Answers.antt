use Rattle.ash_release_laws.proofs.WrongMeanings as wrong
use Rattle.ash_release_laws.proofs.wrong_meanings.collecting_does_not_settle.Goals as goal

pub returns-clause-before : goal.returns-clause-before
returns-clause-before c = (wrong.numbered_clearing, wrong.settled_clearing)

pub returns-clause-late : goal.returns-clause-late
returns-clause-late c = wrong.late_example

pub returns-clause-refused : goal.returns-clause-refused
returns-clause-refused c = wrong.late_refused
