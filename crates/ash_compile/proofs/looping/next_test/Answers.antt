use Rattle.ash_compile.specs.EmittedStatements.{NextTurn}
use Rattle.ash_compile.proofs.looping.next_test.Goals as goal

pub returns-in-None : goal.returns-in-None
returns-in-None c = record { next = NextTurn.leads_back }

pub returns-in-Some : goal.returns-in-Some
returns-in-Some c = record { next = NextTurn.compares c.in-Some.ensures.compares }
