-- What a host did for a list of calls: a run of the definition, up to the first failure.
use Rattle.std.specs.Prelude.{◌≡◌, ◌⊎◌, ℕ, List, [], ◌∷◌, ◌++◌, map, Some, None, Ok, Err}
use Rattle.ash_disk.specs.Device.{Device}
use Rattle.ash_journal.specs.Journal.{generation}
use Rattle.ash_host.specs.declared.host_object.HostObject.{Ghosts}
use Rattle.ash_requests.specs.Requests.{Request, Reply, Refused, DeviceFailed, NoMemory, GenerationSpent, Reopen}
use Rattle.ash_requests.specs.TaskResults.{TaskChangesState}
use Rattle.ash_sources.specs.SourceFaults.{SourceFault}
use Rattle.ash_states.specs.StateSteps.{task_of}
use Rattle.ash_engine.specs.LiveStates.{LiveState}
use Rattle.ash_engine.specs.LiveSteps.{LiveSteps}
use Rattle.ash_durable.specs.Saving.{last_generation}
use Rattle.ash_durable.specs.Hosting.{Hosted, IsRunning, WantsInstall, reply_stopped}
use Rattle.ash_durable.specs.Batches.{BatchSteps, HasBegunToChange, adding_request, HostCall, SingleCall, BatchCall}
use Rattle.ash_durable.specs.Batches.{HostResult, SingleResult, BatchGiven, HandlesCall}

-- why a new generation that was wanted could not be made, with no device failing: the number of the current one is the
-- last, or it is not, and memory was refused
abbrev pub IsNoGeneration : {D B : Type 0} → Hosted D B → Reply SourceFault → Type 0
IsNoGeneration host (Refused GenerationSpent) = generation host.journal ≡ last_generation
IsNoGeneration host (Refused NoMemory) = generation host.journal ≡ last_generation → ⊥
IsNoGeneration host _ = ⊥

-- A new generation was wanted before a request, and there is none: nothing has changed.
pub record HadNoNewGeneration {D B : Type 0} (request : Request) (old : Hosted D B) (reply : Reply SourceFault)
    (new : Hosted D B) : Type 0 where
  pub wanted : WantsInstall request old
  pub cause : IsNoGeneration old reply
  pub unchanged : new ≡ old

-- One call of a host that runs on, from one live state to another: a request takes a step of the definition, or there
-- is no new generation that is wanted before it. So do the requests of a batch, one after the other; or memory was
-- refused before any of them was answered, and the state is as it was.
abbrev pub CallSteps : {D B : Type 0} → Ghosts B → ℕ → HostCall → LiveState B → Hosted D B → HostResult → LiveState B
    → Hosted D B → Type 0
CallSteps G budget (SingleCall request) before old (SingleResult reply) after new =
    LiveSteps G budget request before reply after ⊎ HadNoNewGeneration request old reply new
CallSteps G budget (BatchCall requests) before old (BatchGiven (Ok replies)) after new =
    BatchSteps G budget requests before replies after
CallSteps G budget (BatchCall requests) before old (BatchGiven (Err refusal)) after new = (after ≡ before)
    × ((refusal ≡ NoMemory) ⊎ HadNoNewGeneration (adding_request requests) old (Refused refusal) new)
CallSteps G budget _ before old _ after new = ⊥

-- One call of a host that runs on, as long as no device fails, and neither an answer nor the state is lost.
pub record HostSteps {D B : Type 0} (device : Device D) (G : Ghosts B) (budget : ℕ) (call : HostCall)
    (old : Hosted D B) (result : HostResult) (new : Hosted D B) : Type 0 where
  pub handled : HandlesCall device G budget call old result new
  pub before : LiveState B
  pub after : LiveState B
  pub was : old.live ≡ Some before
  pub is : new.live ≡ Some after
  pub steps : CallSteps G budget call before old result after new

-- each call is handled by the host that the one before it left
abbrev pub HostRuns : {D B : Type 0} → Device D → Ghosts B → ℕ → Hosted D B → List HostCall → List HostResult
    → Hosted D B → Type 0
HostRuns device G budget old [] [] new = new ≡ old
HostRuns {D} {B} device G budget old (call ∷ calls) (result ∷ results) new =
    (next : Hosted D B) × HostSteps device G budget call old result next
    × HostRuns device G budget next calls results new
HostRuns device G budget old _ _ new = ⊥

-- what a call of a host gives that must be reopened
abbrev pub result_stopped : ℕ → HostCall → HostResult
result_stopped seq (SingleCall request) = SingleResult (reply_stopped request seq)
result_stopped seq (BatchCall requests) = BatchGiven (Err Reopen)

-- The results of a host that must be reopened: its number is that of the last answer.
abbrev pub results_until_reopened : List HostCall → ℕ → List HostResult
results_until_reopened calls seq = map (result_stopped seq) calls

-- by this refusal an answer or the state may be lost: a disk failed, or memory ran out
abbrev pub LosesAnswer : Reply SourceFault → Type 0
LosesAnswer (Refused DeviceFailed) = Unit {0}
LosesAnswer (Refused NoMemory) = Unit {0}
LosesAnswer _ = ⊥

-- by this result answers or the state may be lost
abbrev pub LosesAnswers : HostResult → Type 0
LosesAnswers (SingleResult reply) = LosesAnswer reply
LosesAnswers (BatchGiven (Ok replies)) = ⊥
LosesAnswers (BatchGiven (Err refusal)) = LosesAnswer (Refused refusal)

-- A call changes the state: a request does, or one of a batch, after those before it.
abbrev pub CallChanges : {B : Type 0} → Ghosts B → ℕ → HostCall → LiveState B → Type 0
CallChanges G budget (SingleCall request) live = TaskChangesState (task_of request live.durable)
CallChanges G budget (BatchCall requests) live = HasBegunToChange G budget requests live

-- a call before which the state is installed as a new generation
abbrev pub CallWantsInstall : {D B : Type 0} → HostCall → Hosted D B → Type 0
CallWantsInstall (SingleCall request) host = WantsInstall request host
CallWantsInstall (BatchCall requests) host = WantsInstall (adding_request requests) host

-- the result of a call is that a device failed
abbrev pub HasFailedDevice : HostResult → Type 0
HasFailedDevice (SingleResult reply) = reply ≡ Refused DeviceFailed
HasFailedDevice (BatchGiven result) = result ≡ Err DeviceFailed

-- The calls before one are a run of the definition. That one is not refused in the state that the run leads to, and
-- changes it, and its answers or the state were lost; or a device failed while a new generation was installed that was
-- wanted before it. From then on the host must be reopened: its number is that of the run's last state, and each later
-- result is that of such a host.
pub record RunsUntilFailure {D B : Type 0} (device : Device D) (G : Ghosts B) (budget : ℕ) (old : Hosted D B)
    (calls : List HostCall) (results : List HostResult) (new : Hosted D B) : Type 0 where
  pub before : List HostCall
  pub failed : HostCall
  pub later : List HostCall
  pub given : List HostResult
  pub failure : HostResult
  pub last : Hosted D B
  pub live : LiveState B
  pub last_runs : last.live ≡ Some live
  pub calls_are : calls ≡ before ++ failed ∷ later
  pub results_are : results ≡ given ++ failure ∷ results_until_reopened later live.durable.state.seq
  pub run : HostRuns device G budget old before given last
  pub cause : CallChanges G budget failed live ⊎ (CallWantsInstall failed last × HasFailedDevice failure)
  pub loses_answers : LosesAnswers failure
  pub stopped : new.live ≡ None
  pub seq_is : new.seq ≡ live.durable.state.seq

-- A host handled these calls. If it was running, they are a run of the definition up to the first failure, if there is
-- one. If it had to be reopened, it still has to be, and nothing changed.
pub record RunsToFailure {D B : Type 0} (device : Device D) (G : Ghosts B) (budget : ℕ) (old : Hosted D B)
    (calls : List HostCall) (results : List HostResult) (new : Hosted D B) : Type 0 where
  pub running : (live : LiveState B) → old.live ≡ Some live → IsRunning live.durable old
      → HostRuns device G budget old calls results new ⊎ RunsUntilFailure device G budget old calls results new
  pub stopped : old.live ≡ None → (results ≡ results_until_reopened calls old.seq) × (new ≡ old)
