use Rattle.ash_meaning.proofs.AnswersInOrder as answers
use Rattle.ash_meaning.proofs.laws.answers_are_taken_in_order.Goals as goal

pub returns : goal.returns
returns c = record { in_order = answers.taken_in_order }
