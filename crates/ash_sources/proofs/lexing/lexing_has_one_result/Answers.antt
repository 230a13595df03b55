use Rattle.ash_sources.proofs.LexingLaws.{lexes_total, lexes_one, lexed-exact}
use Rattle.ash_sources.proofs.lexing.lexing_has_one_result.Goals as goal

pub returns-clause-total : goal.returns-clause-total
returns-clause-total c = lexes_total

pub returns-clause-one : goal.returns-clause-one
returns-clause-one c = lexes_one

pub returns-clause-exact : goal.returns-clause-exact
returns-clause-exact c = lexed-exact
