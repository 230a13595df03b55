use Rattle.ash_answer_laws.proofs.RequestsLeave as lemmas
use Rattle.ash_answer_laws.proofs.laws.chains_are_runs.Goals as goal

pub returns-clause-run : goal.returns-clause-run
returns-clause-run g c = lemmas.chain_runs

pub returns-clause-every : goal.returns-clause-every
returns-clause-every g c = lemmas.chain_may_run
