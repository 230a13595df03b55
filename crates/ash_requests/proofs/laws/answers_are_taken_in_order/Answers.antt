use Rattle.ash_requests.proofs.AnswersInOrder as lemmas
use Rattle.ash_requests.proofs.laws.answers_are_taken_in_order.Goals as goal

pub returns : goal.returns
returns g c = record { in_order = lemmas.runs_take }
