use Rattle.ash_release_laws.proofs.WrongMeanings as wrong
use Rattle.ash_release_laws.proofs.wrong_meanings.letting_go_early_takes_what_is_held.Goals as goal

pub returns-clause-before : goal.returns-clause-before
returns-clause-before c = (wrong.numbered_between, wrong.settled_between)

pub returns-clause-early : goal.returns-clause-early
returns-clause-early c = wrong.early_example

pub returns-clause-refused : goal.returns-clause-refused
returns-clause-refused c = wrong.early_refused
