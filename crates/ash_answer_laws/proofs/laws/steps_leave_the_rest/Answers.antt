use Rattle.ash_answer_laws.proofs.RequestsLeave as lemmas
use Rattle.ash_answer_laws.proofs.laws.steps_leave_the_rest.Goals as goal

pub returns-clause-performed : goal.returns-clause-performed
returns-clause-performed g c = lemmas.step_leaves

pub returns-clause-every : goal.returns-clause-every
returns-clause-every g c = lemmas.steps_leave
