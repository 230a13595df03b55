use Rattle.ash_soundness.proofs.Answers as answers
use Rattle.ash_soundness.proofs.laws.valid_answers_fit.Goals as goal

pub returns : goal.returns
returns g c = record { fit = answers.valid_answers_fit g.B.HostObject }
