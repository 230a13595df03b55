-- A request that is refused changes nothing of a host that runs and installs nothing before it.
use Rattle.std.proofs.Common.{◌≡◌, ◌⊎◌, inl, inr, ℕ, [], Option, Some, Ok, Err, sym, ◌∙◌, ap, subst}
use Rattle.std.specs.Result.{result_err}
use Rattle.ash_disk.specs.Device.{Device}
use Rattle.ash_host.specs.declared.host_object.HostObject.{Ghosts}
use Rattle.ash_requests.specs.Requests.{Request, Refusal, Reply, Refused}
use Rattle.ash_requests.specs.Tasks.{TaskResult}
use Rattle.ash_requests.specs.States.{Hosts}
use Rattle.ash_requests.specs.Steps.{Step, unless_refused}
use Rattle.ash_requests.specs.Steps as steps
use Rattle.ash_requests.specs.TaskResults.{TakesMemoryToFind, TaskChangesState}
use Rattle.ash_sources.specs.SourceFaults.{SourceFault}
use Rattle.ash_sources.specs.SourceFaults as sources
use Rattle.ash_states.specs.HostStates.{HostState}
use Rattle.ash_states.specs.StateSteps.{task_of, first_refusal, TaskRunsCode}
use Rattle.ash_engine.specs.LiveStates.{LiveState}
use Rattle.ash_durable.specs.Hosting.{Hosted, WantsInstall, TookStep, HostReplies, Handles, IsAnswer, Refuses}
use Rattle.ash_durable.specs.Hosting.{RefusesFirst}
use Rattle.ash_durable.proofs.Answering.{some_once}
use Rattle.ash_durable.proofs.Changing.{as_it_is}
use Rattle.ash_durable.proofs.Composing.{live_there}

cause_of : (result : TaskResult SourceFault) (cause : Refusal SourceFault) → result_err result ≡ Some cause
    → result ≡ Err cause
cause_of (Ok task) cause is = absurd (cc)
cause_of (Err first) cause is = let same : first ≡ cause = cc in ap (λ (r : Refusal SourceFault). Err r) same

-- where memory was refused, what is refused takes memory to find
takes_to_find : (result : TaskResult SourceFault) (cause : Refusal SourceFault) → result ≡ Err cause
    → TakesMemoryToFind sources.MayTakeMemory result ⊎ TaskChangesState result
    → TakesMemoryToFind sources.MayTakeMemory (Err cause)
takes_to_find result cause is (inl finds) = subst (TakesMemoryToFind sources.MayTakeMemory) is finds
takes_to_find result cause is (inr changes) = absurd (subst TaskChangesState is changes)

stepped_refused : {D B : Type 0} (device : Device D) (G : Ghosts B) (budget : ℕ) (request : Request)
    (live : LiveState B) (old : Hosted D B) (reply : Reply SourceFault) (new : Hosted D B)
    (cause : Refusal SourceFault) → (WantsInstall request old → ⊥)
    → task_of request live.durable ≡ Err cause → TookStep device G budget request live old reply new
    → Refuses cause old reply new
stepped_refused device G budget request live old reply new cause not is took =
    let state = live.durable.state in
    let hosts : Hosts = record { pool = live.pool; answers = took.stepped.answers } in
    let one : Step SourceFault = record {
      reply = reply;
      state = took.after.durable.state;
      hosts = record { pool = took.after.pool; answers = [] };
    } in
    let refused : Some (steps.replied (Refused cause) state hosts) ≡ Some one =
    ap (λ (result : TaskResult SourceFault). unless_refused budget result state hosts) (sym is)
    ∙ took.stepped.taken.stepped in
    let reply_is : Refused cause ≡ reply =
    ap (λ (s : Step SourceFault). s.reply) (some_once (steps.replied (Refused cause) state hosts) one refused) in
    record {
      reply_is = inl (sym reply_is);
      unchanged = took.untouched (subst (λ (r : Reply SourceFault). IsAnswer r → ⊥) reply_is (λ no. no))
          ∙ as_it_is device request live.durable old took.between not took.room;
    }

pub refuses_first : {D B : Type 0} (device : Device D) (G : Ghosts B) (budget : ℕ) (request : Request)
    (old : Hosted D B)
    (reply : Reply SourceFault) (new : Hosted D B) → Handles device G budget request old reply new
    → RefusesFirst request old reply new
refuses_first {D} {B} device G budget request old reply new handled state cause runs not first =
    let known = live_there old.live state runs.state_is in
    let live = known.0 in
    let replies : HostReplies device G budget request (Some live) old reply new =
    subst (λ (l : Option (LiveState B)). HostReplies device G budget request l old reply new) known.1 handled.replies in
    let is : task_of request live.durable ≡ Err cause =
    cause_of (task_of request live.durable) cause (subst (λ (s : HostState). first_refusal request s ≡ Some cause)
    (sym known.2) first) in
    elim replies [
      | inl took ↦ stepped_refused device G budget request live old reply new cause not is took
      | inr (inl out) ↦ record {
        reply_is = inr (
          out.ran_out.reply_is,
          takes_to_find (task_of request live.durable) cause is out.ran_out.finds,
        );
        unchanged = as_it_is device request live.durable old new not out.room;
      }
      | inr (inr (inl lost)) ↦ absurd (subst TaskChangesState is lost.changes)
      | inr (inr (inr (inl lost))) ↦ absurd (subst TaskRunsCode is lost.runs)
      | inr (inr (inr (inr none))) ↦ absurd (not none.wanted)
    ]
