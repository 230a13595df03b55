-- A batch of requests: its steps, what it stores, what a host replies to it and what it leaves.
use Rattle.std.specs.Prelude.{◌≡◌, ◌⊎◌, ◌<◌, ◌≤◌, ℕ, List, [], ◌∷◌, ◌++◌, length, map, take, Option, Some, None, Result}
use Rattle.std.specs.Prelude.{Ok, Err}
use Rattle.ash_disk.specs.Device.{Device}
use Rattle.ash_journal.specs.declared.journal.Journal.{Journal}
use Rattle.ash_journal.specs.JournalFailures.{CountsFailures}
use Rattle.ash_journal.specs.Journal.{LeavesOther}
use Rattle.ash_host.specs.declared.host_object.HostObject.{Ghosts}
use Rattle.ash_requests.specs.Requests.{Request, Load, Call, Discard, Seq, Refusal, Reply, Answered, Refused}
use Rattle.ash_requests.specs.Requests.{NoMemory, Reopen}
use Rattle.ash_sources.specs.SourceFaults.{SourceFault}
use Rattle.ash_image.specs.Delta.{Delta}
use Rattle.ash_image.specs.Deltas.{deltas_tag, deltas, IsDeltasBody}
use Rattle.ash_image.specs.declared.version.Version.TheVariants.{Two}
use Rattle.ash_states.specs.Images.{IsBodyIn}
use Rattle.ash_journal.specs.Layout.{length_limit}
use Rattle.ash_states.specs.HostStates.{HostState}
use Rattle.ash_states.specs.StateSteps.{task_of, TaskRunsCode}
use Rattle.ash_engine.specs.LiveStates.{LiveState, AreOf}
use Rattle.ash_engine.specs.LiveSteps.{TakesStep}
use Rattle.ash_engine.specs.RecordedChanges.{delta_named}
use Rattle.ash_durable.specs.Saving.{HasRecord}
use Rattle.ash_durable.specs.Hosting.{Hosted, first, second, IsRunning, IsSaved, IsSound, RunsSound, IsAnswer}
use Rattle.ash_durable.specs.Hosting.{IsDeviceFailed, Settles, WantsInstall, MakesRoomFor, InstallRefused, WasLost}
use Rattle.ash_durable.specs.Hosting.{HasStopped, Handles}

-- ---- what is asked and what is replied

-- A request of a batch: one of a host, or a line that is none, by the number of its refusal.
pub data BatchRequest : Type 0 where
  Asked : (request : Request) → BatchRequest
  BadRequest : (number : ℕ) → BatchRequest

-- the reply to a request of a batch: the host's, or the number by which a line that is no request is refused
pub data BatchReply : Type 0 where
  Replied : (reply : Reply SourceFault) → BatchReply
  RefusedBad : (number : ℕ) → BatchReply

-- the replies to the requests of a batch, in order; or why the batch as a whole is refused
abbrev pub BatchResult : Type 0
BatchResult = Result (List BatchReply) (Refusal SourceFault)

-- the most requests of a batch
abbrev pub max_batch : ℕ
max_batch = 16

-- ---- the steps of a batch

-- The requests of a batch step one after the other, each from the live state that the one before it left; after each
-- the boxes are those of the state. What is no request is refused by its number, and changes nothing.
pub data BatchSteps {B : Type 0} (G : Ghosts B) (budget : ℕ)
    : List BatchRequest → LiveState B → List BatchReply → LiveState B → Type 0 where
  NoneLeft : (live : LiveState B) → BatchSteps G budget [] live [] live
  Bad : (number : ℕ) (requests : List BatchRequest) (live : LiveState B) (replies : List BatchReply)
      (after : LiveState B) → BatchSteps G budget requests live replies after
      → BatchSteps G budget (BadRequest number ∷ requests) live (RefusedBad number ∷ replies) after
  Step : (request : Request) (requests : List BatchRequest) (live : LiveState B) (reply : Reply SourceFault)
      (next : LiveState B) (replies : List BatchReply) (after : LiveState B)
      → TakesStep G budget request live reply next → AreOf G next → BatchSteps G budget requests next replies after
      → BatchSteps G budget (Asked request ∷ requests) live (Replied reply ∷ replies) after

-- the live state after a request, before those after later ones, if the request was answered
abbrev pub after_answer : {B : Type 0} → Reply SourceFault → LiveState B → List (LiveState B) → List (LiveState B)
after_answer (Answered end seq happened) next later = next ∷ later
after_answer _ next later = later

-- the live states after the requests of a batch that were answered, in order
unfoldable pub answered_in : {B : Type 0} {G : Ghosts B} {budget : ℕ} {requests : List BatchRequest}
    {live : LiveState B} {replies : List BatchReply} {after : LiveState B}
    → BatchSteps G budget requests live replies after → List (LiveState B)
answered_in (NoneLeft live) = []
answered_in (Bad number requests live replies after more) = answered_in more
answered_in (Step request requests live reply next replies after stepped boxes more) =
    after_answer reply next (answered_in more)

-- ---- what a batch stores

-- the body of a record with what each of these live states names as changed, in order
abbrev pub deltas_body : {B : Type 0} → List (LiveState B) → List ℕ
deltas_body answered = deltas_tag ∷ deltas (map delta_named answered)

-- The body of the record of a batch has what each of these live states names as changed, in order. If that is too long
-- for a record, it has the image of the state after the batch.
abbrev pub IsBodyOfBatch : {B : Type 0} → HostState → List (LiveState B) → List ℕ → Type 0
IsBodyOfBatch after answered body =
    ((length (deltas_body answered) < length_limit) × IsDeltasBody body (map delta_named answered))
    ⊎ ((length_limit ≤ length (deltas_body answered)) × IsBodyIn Two body after)

-- a request that may add a record, among those of a batch; else one that adds none
unfoldable pub adding_request : List BatchRequest → Request
adding_request [] = Seq
adding_request (Asked (Load module_name source) ∷ requests) = Load module_name source
adding_request (Asked (Call module_name function arguments) ∷ requests) = Call module_name function arguments
adding_request (Asked (Discard module_name) ∷ requests) = Discard module_name
adding_request (_ ∷ requests) = adding_request requests

-- ---- what came of a batch

-- A batch was carried out: its requests stepped from a live state, once there was room for a record. If some were
-- answered, one record more of the current file has what these changed, or the state after them; if none was, no disk was
-- touched. At every moment since the batch began, what a crash may leave settled on the state before all of it or on
-- the state after all of it.
pub record TookBatch {D B : Type 0} (device : Device D) (G : Ghosts B) (budget : ℕ) (requests : List BatchRequest)
    (live : LiveState B) (old : Hosted D B) (replies : List BatchReply) (new : Hosted D B) : Type 0 where
  pub between : Hosted D B
  pub room : MakesRoomFor device (adding_request requests) live.durable old between
  pub after : LiveState B
  pub steps : BatchSteps G budget requests live replies after
  pub live_is : new.live ≡ Some after
  pub running : IsRunning after.durable new
  pub added : (answered_in steps ≡ [] → ⊥)
      → HasRecord device (IsBodyOfBatch after.durable (answered_in steps)) between.journal new.journal
      × LeavesOther between.journal new.journal
  pub untouched : answered_in steps ≡ [] → new ≡ between
  pub settles : Settles device live.durable after.durable old new

-- Memory was refused before any request of a batch was answered, and the host is as it was once it had room.
pub record BatchRanOut {D B : Type 0} (device : Device D) (requests : List BatchRequest) (live : LiveState B)
    (old : Hosted D B) (refusal : Refusal SourceFault) (new : Hosted D B) : Type 0 where
  pub some_asked : requests ≡ [] → ⊥
  pub room : MakesRoomFor device (adding_request requests) live.durable old new
  pub refusal_is : refusal ≡ NoMemory
  pub running : IsRunning live.durable new
  pub settles : Settles device live.durable live.durable old new

-- Some requests of a batch were answered, and what they changed could not be stored: the files settle on the state
-- before all of it or after all of it until the host is reopened.
pub record BatchNotCommitted {D B : Type 0} (device : Device D) (G : Ghosts B) (budget : ℕ)
    (requests : List BatchRequest) (live : LiveState B) (old : Hosted D B) (refusal : Refusal SourceFault)
    (new : Hosted D B) : Type 0 where
  pub between : Hosted D B
  pub room : MakesRoomFor device (adding_request requests) live.durable old between
  pub replies : List BatchReply
  pub after : LiveState B
  pub steps : BatchSteps G budget requests live replies after
  pub answered : answered_in steps ≡ [] → ⊥
  pub sound : IsSound G after
  pub lost : WasLost between.journal (Refused refusal) new.journal
  pub stopped : HasStopped old new
  pub settles : Settles device live.durable after.durable old new

-- the next of these requests runs code
abbrev pub NextRunsCode : List BatchRequest → HostState → Type 0
NextRunsCode (Asked request ∷ requests) state = TaskRunsCode (task_of request state)
NextRunsCode _ state = ⊥

-- The first requests of a batch stepped from a live state, and some of them were answered, or the next one runs code.
pub record HasBegunToChange {B : Type 0} (G : Ghosts B) (budget : ℕ) (requests : List BatchRequest)
    (live : LiveState B) : Type 0 where
  pub done : List BatchRequest
  pub left : List BatchRequest
  pub requests_are : requests ≡ done ++ left
  pub replies : List BatchReply
  pub reached : LiveState B
  pub steps : BatchSteps G budget done live replies reached
  pub changes : (answered_in steps ≡ [] → ⊥) ⊎ NextRunsCode left reached.durable

-- Memory was refused after a request of a batch was answered, or while code of one ran: the state is lost. The
-- host has to be reopened, and is then in the state before the batch, on which alone the files settle.
pub record BatchLostItsState {D B : Type 0} (device : Device D) (G : Ghosts B) (budget : ℕ)
    (requests : List BatchRequest) (live : LiveState B) (old : Hosted D B) (refusal : Refusal SourceFault)
    (new : Hosted D B) : Type 0 where
  pub between : Hosted D B
  pub room : MakesRoomFor device (adding_request requests) live.durable old between
  pub changes : HasBegunToChange G budget requests live
  pub refusal_is : refusal ≡ NoMemory
  pub journal_same : new.journal ≡ between.journal
  pub stopped : HasStopped old new
  pub settles : Settles device live.durable live.durable old new

-- A new generation was wanted before a batch, and was not installed: no request of it was handled.
pub record BatchHadNoRoom {D B : Type 0} (device : Device D) (requests : List BatchRequest) (state : HostState)
    (old : Hosted D B) (refusal : Refusal SourceFault) (new : Hosted D B) : Type 0 where
  pub wanted : WantsInstall (adding_request requests) old
  pub refused : InstallRefused old (Refused refusal) new
  pub settles : Settles device state state old new

-- What a batch is replied, and what it leaves.
abbrev pub BatchOutcome : {D B : Type 0} → Device D → Ghosts B → ℕ → List BatchRequest → Option (LiveState B)
    → Hosted D B → BatchResult → Hosted D B → Type 0
BatchOutcome device G budget requests (Some live) old (Ok replies) new =
    TookBatch device G budget requests live old replies new
BatchOutcome device G budget requests (Some live) old (Err refusal) new =
    BatchRanOut device requests live old refusal new
    ⊎ (BatchNotCommitted device G budget requests live old refusal new
    ⊎ (BatchLostItsState device G budget requests live old refusal new
    ⊎ BatchHadNoRoom device requests live.durable old refusal new))
BatchOutcome device G budget requests None old (Ok replies) new = ⊥
BatchOutcome device G budget requests None old (Err refusal) new = (refusal ≡ Reopen) × (new ≡ old)

-- the result is that a device failed
abbrev pub FailsBatch : BatchResult → Type 0
FailsBatch (Ok replies) = ⊥
FailsBatch (Err refusal) = IsDeviceFailed (Refused refusal)

-- One batch of a host. If some of its requests were answered, the state after all of it is in the journal before any
-- reply is given, and whatever a crash does afterwards leaves it there.
pub record HandlesBatch {D B : Type 0} (device : Device D) (G : Ghosts B) (budget : ℕ) (requests : List BatchRequest)
    (old : Hosted D B) (result : BatchResult) (new : Hosted D B) : Type 0 where
  pub outcome : BatchOutcome device G budget requests old.live old result new
  pub sound : RunsSound G old → RunsSound G new
  pub saved : IsSaved device old → IsSaved device new
  pub failures : CountsFailures (FailsBatch result) (device.failures (first old)) (device.failures (second old))
      (device.failures (first new)) (device.failures (second new))
  pub honesty_first : device.honest (first new) ≡ device.honest (first old)
  pub honesty_second : device.honest (second new) ≡ device.honest (second old)
  pub registered : new.registered ≡ old.registered

-- ---- calls of a host

-- what a host is asked in one call: one request, or a batch
pub data HostCall : Type 0 where
  SingleCall : (request : Request) → HostCall
  BatchCall : (requests : List BatchRequest) → HostCall

-- what a call gives
pub data HostResult : Type 0 where
  SingleResult : (reply : Reply SourceFault) → HostResult
  BatchGiven : (result : BatchResult) → HostResult

-- one call of a host; a result of the other kind is none of it
abbrev pub HandlesCall : {D B : Type 0} → Device D → Ghosts B → ℕ → HostCall → Hosted D B → HostResult → Hosted D B
    → Type 0
HandlesCall device G budget (SingleCall request) old (SingleResult reply) new =
    Handles device G budget request old reply new
HandlesCall device G budget (BatchCall requests) old (BatchGiven result) new =
    HandlesBatch device G budget requests old result new
HandlesCall device G budget _ old _ new = ⊥

-- Calls in order: each is handled by the host that the one before it left.
abbrev pub HandlesCalls : {D B : Type 0} → Device D → Ghosts B → ℕ → Hosted D B → List HostCall → List HostResult
    → Hosted D B → Type 0
HandlesCalls device G budget old [] [] new = new ≡ old
HandlesCalls {D} {B} device G budget old (call ∷ calls) (result ∷ results) new =
    (next : Hosted D B) × HandlesCall device G budget call old result next
    × HandlesCalls device G budget next calls results new
HandlesCalls device G budget old _ _ new = ⊥

-- requests and replies of their own, as calls and results
abbrev pub single_calls : List Request → List HostCall
single_calls requests = map (λ request. SingleCall request) requests

abbrev pub single_results : List (Reply SourceFault) → List HostResult
single_results replies = map (λ reply. SingleResult reply) replies

-- ---- sources

-- The same request, with no more of a source than its first 65,537 bytes: a source that has more bytes is refused
-- whatever they are.
abbrev pub prefixed : BatchRequest → BatchRequest
prefixed (Asked (Load module_name source)) = Asked (Load module_name (take 65537 source))
prefixed request = request
