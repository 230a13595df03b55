-- Answers that boxes gave fit what answers may be.
use Rattle.std.proofs.Common.{ℕ, List, [], ◌∷◌}
use Rattle.std.specs.Prelude.{Option, Some, None}
use Rattle.std.specs.List.{AllByRecursion}
use Rattle.ash_host.specs.declared.host_object.HostObject.{Ghosts}
use Rattle.ash_host.specs.Records.{HostRecord}
use Rattle.ash_host.specs.Words.{IsAnswer}
use Rattle.ash_soundness.specs.WellFormed.{IsState, AreAnswers}
use Rattle.ash_objects.specs.Table.{Table}
use Rattle.ash_run_steps.specs.Answered.{IsValidOf}
use Rattle.ash_run_steps.specs.Following.{box_for}

module _ {B : Type 0} (G : Ghosts B) where
  fits : (o : Option B) (r : HostRecord) → IsValidOf G o r → IsState r.after × IsAnswer r.answer
  fits None r valid = absurd valid
  fits (Some box) r valid = (valid.after_fits, valid.answered_fits)

  pub answers_fit : (table : Table B) (drawn : List (ℕ × B)) (records : List HostRecord)
      → AllByRecursion (λ (r : HostRecord). IsValidOf G (box_for table drawn r.target) r) records → AreAnswers records
  answers_fit table drawn [] valid = tt
  answers_fit table drawn (r ∷ records) valid =
      (fits (box_for table drawn r.target) r valid.0, answers_fit table drawn records valid.1)
