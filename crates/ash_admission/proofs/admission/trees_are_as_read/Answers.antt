use Rattle.ash_admission.proofs.AdmissionLaws.{as_read}
use Rattle.ash_admission.proofs.admission.trees_are_as_read.Goals as goal

pub returns : goal.returns
returns g c = record { same = λ embedding host ms all h. as_read embedding all host ms h }
