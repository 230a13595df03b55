-- What hosts answer validly, as a well-formed world has it.
use Rattle.std.proofs.Common.{List, [], ◌∷◌}
use Rattle.ash_host.specs.declared.host_object.HostObject.{Ghosts}
use Rattle.ash_host.specs.Records.{HostRecord}
use Rattle.ash_meaning.specs.Answers.{Answerers, AreValid}
use Rattle.ash_soundness.specs.WellFormed.{AreAnswers}

pub valid_answers_fit : {B : Type 0} (host : Ghosts B) (answerers : Answerers B) (records : List HostRecord)
    → AreValid host answerers records → AreAnswers records
valid_answers_fit host answerers [] valid = tt
valid_answers_fit host answerers (r ∷ records) valid = (
  ((valid.0).after_fits, (valid.0).answered_fits),
  valid_answers_fit host answerers records valid.1,
)
