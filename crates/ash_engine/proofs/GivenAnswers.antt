-- What boxes gave is such as its type has.
use Rattle.std.proofs.Common.{◌≡◌, ℕ, List, [], ◌∷◌}
use Rattle.std.specs.Prelude.{Option, Some, None}
use Rattle.std.specs.List.{AllByRecursion}
use Rattle.ash_host.specs.declared.event.Event.{Event}
use Rattle.ash_host.specs.declared.host_object.HostObject.{Ghosts}
use Rattle.ash_host.specs.Records.{HostRecord}
use Rattle.ash_host.specs.Words.{IsAnswer}
use Rattle.ash_objects.specs.Table.{Table}
use Rattle.ash_soundness.specs.WellFormed.{IsState, AreAnswers}
use Rattle.ash_run_steps.specs.Answered.{IsValidOf}
use Rattle.ash_run_steps.specs.Becoming.{Gave}
use Rattle.ash_run_steps.specs.Following.{box_for}

module _ {B : Type 0} (G : Ghosts B) where
  one_fits : (o : Option B) (r : HostRecord) → IsValidOf G o r → IsState r.after × IsAnswer r.answer
  one_fits None r valid = absurd valid
  one_fits (Some box) r valid = (valid.after_fits, valid.answered_fits)

  all_fit : (table : Table B) (drawn : List (ℕ × B)) (records : List HostRecord)
      → AllByRecursion (λ (r : HostRecord). IsValidOf G (box_for table drawn r.target) r) records → AreAnswers records
  all_fit table drawn [] valid = tt
  all_fit table drawn (r ∷ records) valid = (one_fits (box_for table drawn r.target) r valid.0, all_fit table drawn records valid.1)

  pub answers_fit : (records : List HostRecord) (old new : Table B) (before after : List Event) → Gave G records old before new after → AreAnswers records
  answers_fit records old new before after gave = all_fit old gave.drawn records gave.valid
