-- A host over two disks with boxes of host objects, and what one request does to it.
use Rattle.std.specs.Prelude.{◌≡◌, ◌⊎◌, ℕ, ◌+◌, ◌≤◌, ◌^◌, List, [], ◌∷◌, unwrap_or, Option, IsSome, Some, None, Err}
use Rattle.std.specs.Option.{option_map}
use Rattle.ash_disk.specs.Device.{Device}
use Rattle.ash_journal.specs.declared.journal.Journal.{Journal}
use Rattle.ash_journal.specs.JournalFailures.{CountsFailures}
use Rattle.ash_journal.specs.Journal.{first_disk, second_disk, generation, record_bytes, IsReady}
use Rattle.ash_journal.specs.Journal.{LeavesCurrent, LeavesOther}
use Rattle.ash_host.specs.declared.host_object.HostObject.{Ghosts}
use Rattle.ash_registry.specs.AcceptedRegistrations.{Registration}
use Rattle.ash_requests.specs.Requests.{Request, Load, Call, Discard, Get, Object, Seq, Snapshot, Refusal, Reply}
use Rattle.ash_requests.specs.Requests.{Answered}
use Rattle.ash_requests.specs.Requests.{Number, Refused, Reopen, DeviceFailed, NoMemory, GenerationSpent}
use Rattle.ash_requests.specs.TaskResults.{TakesMemoryToFind, TaskChangesState}
use Rattle.ash_sources.specs.SourceFaults.{SourceFault}
use Rattle.ash_sources.specs.SourceFaults as sources
use Rattle.ash_states.specs.HostStates.{HostState}
use Rattle.ash_states.specs.StateSteps.{task_of, first_refusal, TaskRunsCode}
use Rattle.ash_engine.specs.LiveStates.{LiveState, AreOf}
use Rattle.ash_engine.specs.LiveSteps.{TakesStep, RanOut, IsReached, reached_by}
use Rattle.ash_durable.specs.StoredStates.{AreHonest, HoldsState, BeginsAnew}
use Rattle.ash_durable.specs.Saving.{HasOneMore, last_generation}

-- A host: what is registered; its live state, or none where it must be reopened; the number after the last request that
-- was answered; the journal that keeps its states on two disks.
pub record Hosted (D B : Type 0) : Type 0 where
  pub registered : List Registration
  pub live : Option (LiveState B)
  pub seq : ℕ
  pub journal : Journal D

-- the disk that was handed over first
abbrev pub first : {D B : Type 0} → Hosted D B → D
first host = first_disk host.journal

-- the disk that was handed over second
abbrev pub second : {D B : Type 0} → Hosted D B → D
second host = second_disk host.journal

-- what outlives a request, without the boxes
abbrev pub durable_in : {B : Type 0} → Option (LiveState B) → Option HostState
durable_in live = option_map (λ l. l.durable) live

-- the live state of a host: none where it must be reopened, of which the number after the last answer is known
abbrev pub live_unless : {B : Type 0} → Option ℕ → Option (LiveState B) → Option (LiveState B)
live_unless None live = live
live_unless (Some seq) live = None

-- how many requests have been answered, by a live state; 0 where there is none
abbrev pub seq_in : {B : Type 0} → Option (LiveState B) → ℕ
seq_in live = unwrap_or (option_map (λ s. s.state.seq) (durable_in live)) 0

-- a host that need not be reopened has a live state, and may write records and generations
abbrev pub IsReadyUnless : {D B : Type 0} → Option ℕ → Option (LiveState B) → Journal D → Type 0
IsReadyUnless None live journal = IsSome live × IsReady journal
IsReadyUnless (Some seq) live journal = Unit {0}

-- A host that runs, in this state, which has what is registered with the host. Of the boxes nothing is said.
pub record IsRunning {D B : Type 0} (state : HostState) (host : Hosted D B) : Type 0 where
  pub registered_is : host.registered ≡ state.registered
  pub state_is : durable_in host.live ≡ Some state
  pub seq_is : host.seq ≡ state.state.seq

-- The boxes of a live state are those of its state, and a host may be in it.
pub record IsSound {B : Type 0} (G : Ghosts B) (live : LiveState B) : Type 0 where
  pub boxes : AreOf G live
  pub reached : IsReached (reached_by live)

-- where a host runs, its live state is sound
abbrev pub RunsSound : {D B : Type 0} → Ghosts B → Hosted D B → Type 0
RunsSound {D} {B} G host = (live : LiveState B) → host.live ≡ Some live → IsSound G live

-- the disks of a host do what the disk model says
abbrev pub IsHonest : {D B : Type 0} → Device D → Hosted D B → Type 0
IsHonest device host = AreHonest device (first host) (second host)

-- Where a host runs on honest disks, its files hold its state, and settle on it alone, whatever a crash now does.
abbrev pub IsSaved : {D B : Type 0} → Device D → Hosted D B → Type 0
IsSaved device host = IsHonest device host → (state : HostState) → IsRunning state host
    → HoldsState device state host.journal

-- While a request was handled, at every moment since it began, what a crash may leave settled on one of two states,
-- where the files held the first of them before.
abbrev pub Settles : {D B : Type 0} → Device D → HostState → HostState → Hosted D B → Hosted D B → Type 0
Settles device before after old new = IsHonest device old → IsSaved device old
    → BeginsAnew device before after old.journal new.journal

-- ---- room

-- the most bytes of records after which one more is added
abbrev pub full_record_bytes : ℕ
full_record_bytes = 2 ^ 24

-- the records of the current generation have 16,777,216 bytes or more
abbrev pub IsFull : {D B : Type 0} → Hosted D B → Type 0
IsFull host = full_record_bytes ≤ record_bytes host.journal

-- a request that may add a record
abbrev pub MayAdd : Request → Type 0
MayAdd (Load module_name source) = Unit {0}
MayAdd (Call module_name function arguments) = Unit {0}
MayAdd (Discard module_name) = Unit {0}
MayAdd _ = ⊥

-- A request before which the state is installed as a new generation: each snapshot, and where the records are long
-- enough each request that may add one more.
abbrev pub WantsInstall : {D B : Type 0} → Request → Hosted D B → Type 0
WantsInstall Snapshot host = Unit {0}
WantsInstall request host = MayAdd request × IsFull host

-- The state of a host became a new generation without records, in the file that was not current, and nothing else of
-- the host has changed. At every moment of it the files settled on that state alone.
pub record WasInstalled {D B : Type 0} (device : Device D) (state : HostState) (old new : Hosted D B) : Type 0 where
  pub running : IsRunning state new
  pub live_same : new.live ≡ old.live
  pub higher : generation new.journal ≡ generation old.journal + 1
  pub emptied : record_bytes new.journal ≡ 0
  pub untouched : LeavesCurrent old.journal new.journal
  pub saved : IsSaved device old → IsSaved device new
  pub settles : Settles device state state old new

-- the host that handles a request: where one is wanted, a new generation is installed first
abbrev pub MakesRoomFor : {D B : Type 0} → Device D → Request → HostState → Hosted D B → Hosted D B → Type 0
MakesRoomFor device request state old between =
    ((WantsInstall request old → ⊥) × (between ≡ old))
    ⊎ (WantsInstall request old × WasInstalled device state old between)

-- A host must be reopened from now on. Its number is that of the last request that was answered.
pub record HasStopped {D B : Type 0} (old new : Hosted D B) : Type 0 where
  pub stopped : new.live ≡ None
  pub seq_same : new.seq ≡ old.seq

-- Why no new generation was installed, by the reply: the number of the generation is the last, or memory was refused,
-- and nothing changed; or a device failed, and the current file is as it was.
abbrev pub InstallRefused : {D B : Type 0} → Hosted D B → Reply SourceFault → Hosted D B → Type 0
InstallRefused old (Refused GenerationSpent) new = (generation old.journal ≡ last_generation) × (new ≡ old)
InstallRefused old (Refused NoMemory) new = (generation old.journal ≡ last_generation → ⊥) × (new ≡ old)
InstallRefused old (Refused DeviceFailed) new = (generation old.journal ≡ last_generation → ⊥)
    × HasStopped old new × LeavesCurrent old.journal new.journal
InstallRefused old _ new = ⊥

-- ---- what came of a request

-- an answer, which raises the sequence number and is kept on the disks before it is given
abbrev pub IsAnswer : Reply SourceFault → Type 0
IsAnswer (Answered end seq events) = Unit {0}
IsAnswer _ = ⊥

-- the reply is that a device failed
abbrev pub IsDeviceFailed : Reply SourceFault → Type 0
IsDeviceFailed (Refused DeviceFailed) = Unit {0}
IsDeviceFailed _ = ⊥

-- why an answer was not kept: a device failed, and the file that is not current is as it was; or memory was refused
-- before anything was written
abbrev pub WasLost : {D : Type 0} → Journal D → Reply SourceFault → Journal D → Type 0
WasLost old (Refused DeviceFailed) new = LeavesOther old new
WasLost old (Refused NoMemory) new = new ≡ old
WasLost old _ new = ⊥

-- The step of a request was taken from a live state, and an answer is in one record more of the current file. What is
-- not an answer touches no disk.
pub record TookStep {D B : Type 0} (device : Device D) (G : Ghosts B) (budget : ℕ) (request : Request)
    (live : LiveState B) (old : Hosted D B) (reply : Reply SourceFault) (new : Hosted D B) : Type 0 where
  pub between : Hosted D B
  pub room : MakesRoomFor device request live.durable old between
  pub after : LiveState B
  pub stepped : TakesStep G budget request live reply after
  pub live_is : new.live ≡ Some after
  pub running : IsRunning after.durable new
  pub added : IsAnswer reply → HasOneMore device after between.journal new.journal
      × LeavesOther between.journal new.journal
  pub untouched : (IsAnswer reply → ⊥) → new ≡ between
  pub settles : Settles device live.durable after.durable old new

-- Memory was refused where the request takes it, and the host is as it was once it had room.
pub record WasOutOfMemory {D B : Type 0} (device : Device D) (request : Request) (live : LiveState B)
    (old : Hosted D B) (reply : Reply SourceFault) (new : Hosted D B) : Type 0 where
  pub room : MakesRoomFor device request live.durable old new
  pub ran_out : RanOut request live reply live
  pub running : IsRunning live.durable new
  pub settles : Settles device live.durable live.durable old new

-- A request that is not refused and changes the state had an answer, and it could not be stored: the files settle on
-- the state before it or after it until the host is reopened.
pub record WasNotCommitted {D B : Type 0} (device : Device D) (G : Ghosts B) (budget : ℕ) (request : Request)
    (live : LiveState B) (old : Hosted D B) (reply : Reply SourceFault) (new : Hosted D B) : Type 0 where
  pub between : Hosted D B
  pub room : MakesRoomFor device request live.durable old between
  pub changes : TaskChangesState (task_of request live.durable)
  pub answer : Reply SourceFault
  pub after : LiveState B
  pub stepped : TakesStep G budget request live answer after
  pub sound : IsSound G after
  pub lost : WasLost between.journal reply new.journal
  pub stopped : HasStopped old new
  pub settles : Settles device live.durable after.durable old new

-- Memory was refused while the code of a request ran, or after that: the state is lost. The host has to be reopened, and
-- is then in the state before the request, on which alone the files settle.
pub record LostItsState {D B : Type 0} (device : Device D) (request : Request) (state : HostState)
    (old : Hosted D B) (reply : Reply SourceFault) (new : Hosted D B) : Type 0 where
  pub between : Hosted D B
  pub room : MakesRoomFor device request state old between
  pub runs : TaskRunsCode (task_of request state)
  pub reply_is : reply ≡ Refused NoMemory
  pub journal_same : new.journal ≡ between.journal
  pub stopped : HasStopped old new
  pub settles : Settles device state state old new

-- A new generation was wanted before the request, and was not installed: the request was not handled.
pub record HadNoRoom {D B : Type 0} (device : Device D) (request : Request) (state : HostState) (old : Hosted D B)
    (reply : Reply SourceFault) (new : Hosted D B) : Type 0 where
  pub wanted : WantsInstall request old
  pub refused : InstallRefused old reply new
  pub settles : Settles device state state old new

-- the reply of a host that must be reopened
abbrev pub reply_stopped : Request → ℕ → Reply SourceFault
reply_stopped Seq seq = Number seq
reply_stopped _ seq = Refused Reopen

-- What a request is replied, and what it leaves.
abbrev pub HostReplies : {D B : Type 0} → Device D → Ghosts B → ℕ → Request → Option (LiveState B) → Hosted D B
    → Reply SourceFault → Hosted D B → Type 0
HostReplies device G budget request (Some live) old reply new =
    TookStep device G budget request live old reply new
    ⊎ (WasOutOfMemory device request live old reply new
    ⊎ (WasNotCommitted device G budget request live old reply new
    ⊎ (LostItsState device request live.durable old reply new
    ⊎ HadNoRoom device request live.durable old reply new)))
HostReplies device G budget request None old reply new = (reply ≡ reply_stopped request old.seq) × (new ≡ old)

-- One request of a host. Where it is answered, the new state is in the journal before the reply is given, and whatever
-- a crash does afterwards leaves it there.
pub record Handles {D B : Type 0} (device : Device D) (G : Ghosts B) (budget : ℕ) (request : Request)
    (old : Hosted D B) (reply : Reply SourceFault) (new : Hosted D B) : Type 0 where
  pub replies : HostReplies device G budget request old.live old reply new
  pub sound : RunsSound G old → RunsSound G new
  pub saved : IsSaved device old → IsSaved device new
  pub failures : CountsFailures (IsDeviceFailed reply) (device.failures (first old)) (device.failures (second old))
      (device.failures (first new)) (device.failures (second new))
  pub honesty_first : device.honest (first new) ≡ device.honest (first old)
  pub honesty_second : device.honest (second new) ≡ device.honest (second old)
  pub registered : new.registered ≡ old.registered

-- Requests in order: each is handled by the host that the one before it left.
abbrev pub HandlesAll : {D B : Type 0} → Device D → Ghosts B → ℕ → Hosted D B → List Request
    → List (Reply SourceFault) → Hosted D B → Type 0
HandlesAll device G budget old [] [] new = new ≡ old
HandlesAll {D} {B} device G budget old (request ∷ requests) (reply ∷ replies) new =
    (next : Hosted D B) × Handles device G budget request old reply next
    × HandlesAll device G budget next requests replies new
HandlesAll device G budget old _ _ new = ⊥

-- ---- refusals

-- A request is refused for this cause, or because memory was refused where the cause takes some to find, and nothing of
-- the host changes.
pub record Refuses {D B : Type 0} (cause : Refusal SourceFault) (old : Hosted D B) (reply : Reply SourceFault)
    (new : Hosted D B) : Type 0 where
  pub reply_is : (reply ≡ Refused cause)
      ⊎ ((reply ≡ Refused NoMemory) × TakesMemoryToFind sources.MayTakeMemory (Err cause))
  pub unchanged : new ≡ old

-- A host that runs, and installs nothing before it, refuses each request for which there is a cause, and for the first
-- cause.
abbrev pub RefusesFirst : {D B : Type 0} → Request → Hosted D B → Reply SourceFault → Hosted D B → Type 0
RefusesFirst request old reply new =
    (state : HostState) (cause : Refusal SourceFault) → IsRunning state old → (WantsInstall request old → ⊥)
    → first_refusal request state ≡ Some cause → Refuses cause old reply new

-- ---- snapshots

-- What `snapshot` did that answered `Ok`: the live state is as it was, in a generation one higher, without records.
pub record IsInstalled {D B : Type 0} (old new : Hosted D B) : Type 0 where
  pub higher : generation new.journal ≡ generation old.journal + 1
  pub emptied : record_bytes new.journal ≡ 0
  pub live_same : new.live ≡ old.live
