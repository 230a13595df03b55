-- A host may be in what a request leaves, where it may be in what the request finds.
use Rattle.std.proofs.Common.{◌≡◌, ◌≤◌, ℕ, List, [], ◌∷◌, Some, sym, subst, ◌∙◌, length, inl, inr}
use Rattle.std.specs.Prelude.{Option, None}
use Rattle.std.specs.List.{AllByRecursion}
use Rattle.ash_host.specs.declared.host_object.HostObject.{Ghosts}
use Rattle.ash_host.specs.Records.{HostRecord}
use Rattle.ash_host.specs.Words.{IsAnswer}
use Rattle.ash_soundness.specs.WellFormed.{IsState, AreAnswers}
use Rattle.ash_registry.specs.AcceptedRegistrations.{Registration}
use Rattle.ash_requests.specs.States.{Hosts}
use Rattle.ash_requests.specs.Requests.{Request}
use Rattle.ash_requests.specs.Steps.{Step, performed}
use Rattle.ash_requests.specs.Steps as steps
use Rattle.ash_soundness.specs.WellFormedStates.{AreHosts}
use Rattle.ash_soundness.proofs.Stepped.{steps_keep}
use Rattle.ash_sources.specs.SourceFaults.{SourceFault}
use Rattle.ash_sources.proofs.SourceLaws.{read_sound}
use Rattle.ash_image.specs.Image.{max_services}
use Rattle.ash_states.specs.HostStates.{HostState, IsAdmitted, embedding_for, offered_to}
use Rattle.ash_engine.specs.LiveStates.{Boxes, LiveState}
use Rattle.ash_engine.specs.LiveSteps.{IsReached, StepsKeepReached, reached_by, box_at, IsValidOf, LiveStepsKeepReached}
use Rattle.ash_engine.proofs.Untouched.{steps_keep_hosts}

-- after a step of the definitions
pub step_admitted : (budget : ℕ) (request : Request) (old : HostState) (hosts : Hosts) (one : Step SourceFault) → IsAdmitted old → AreHosts hosts → steps.Steps (embedding_for old.registered) budget request old.state hosts one → IsAdmitted (record { registered = old.registered; state = one.state }) × AreHosts one.hosts
step_admitted budget request old hosts one h fit stepped =
    let kept = steps_keep (embedding_for old.registered) (offered_to old.registered) budget request old.state hosts one (read_sound old.registered) h.formed fit stepped in
    let served : length (one.state).services ≡ length (old.state).services = (steps_keep_hosts SourceFault old.state hosts ((h.formed).numbered) (embedding_for old.registered) budget request one stepped).served in (
      record { formed = kept.0; served = served ∙ h.served; few = subst (λ (n : ℕ). n ≤ max_services) (sym served) h.few },
      kept.1,
    )

pub keep_reached : StepsKeepReached
keep_reached answers budget request before reply after h fit s =
    let hosts : Hosts = record { pool = before.pool; answers = answers } in
    let one : Step SourceFault = record { reply = reply; state = (after.durable).state; hosts = record { pool = after.pool; answers = [] } } in
    let kept = step_admitted budget request before.durable hosts one h.admitted (record { pool = h.fit; answers = fit }) (performed s.stepped) in
    record {
      admitted = subst (λ (r : List Registration). IsAdmitted (record { registered = r; state = (after.durable).state })) (sym s.registered) kept.0;
      fit = (kept.1).pool;
    }

-- what very boxes gave is such as its type has
module _ {B : Type 0} (G : Ghosts B) where
  one_fits : (o : Option B) (r : HostRecord) → IsValidOf G o r → IsState r.after × IsAnswer r.answer
  one_fits None r valid = absurd valid
  one_fits (Some box) r valid = (valid.after_fits, valid.answered_fits)

  valid_fit : (old : Boxes B) (drawn : List (ℕ × B)) (answers : List HostRecord) → AllByRecursion (λ (r : HostRecord). IsValidOf G (box_at old drawn r.target) r) answers → AreAnswers answers
  valid_fit old drawn [] valid = tt
  valid_fit old drawn (r ∷ answers) valid = (one_fits (box_at old drawn r.target) r valid.0, valid_fit old drawn answers valid.1)

  pub keep_live : LiveStepsKeepReached G
  keep_live budget request old reply new h (inl step) = keep_reached step.answers budget request (reached_by old) reply (reached_by new) h (valid_fit old.boxes (step.gave).drawn step.answers (step.gave).valid) step.taken
  keep_live budget request old reply new h (inr out) = subst (λ (l : LiveState B). IsReached (reached_by l)) (sym out.unchanged) h
