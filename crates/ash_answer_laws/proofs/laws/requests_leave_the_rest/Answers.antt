use Rattle.ash_answer_laws.proofs.RequestsLeave as lemmas
use Rattle.ash_answer_laws.proofs.laws.requests_leave_the_rest.Goals as goal

pub returns-clause-run : goal.returns-clause-run
returns-clause-run g c = lemmas.run_leaves

pub returns-clause-every : goal.returns-clause-every
returns-clause-every g c = lemmas.all_leave
