use Rattle.ash_answer_laws.proofs.RunsLeave as lemmas
use Rattle.ash_answer_laws.proofs.laws.runs_leave_the_rest.Goals as goal

pub returns : goal.returns
returns c = record { rest = lemmas.runs_leave }
