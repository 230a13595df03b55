use Rattle.ash_answer_laws.proofs.RequestsLeave as lemmas
use Rattle.ash_answer_laws.proofs.laws.runs_are_chains.Goals as goal

pub returns-clause-run : goal.returns-clause-run
returns-clause-run g c = lemmas.run_chained

pub returns-clause-every : goal.returns-clause-every
returns-clause-every g c = lemmas.may_run_chained
