-- Keeping a state in a journal: as one record more, or as a new generation.
use Rattle.std.specs.Prelude.{◌≡◌, ℕ, ◌+◌, ◌-◌, ◌^◌, List, [], ◌∷◌, ◌++◌, length, Result, Ok, Err, OnOk}
use Rattle.ash_disk.specs.Device.{Device}
use Rattle.ash_journal.specs.declared.journal.Journal.{Journal}
use Rattle.ash_journal.specs.JournalFailures.{CountsFailures}
use Rattle.ash_journal.specs.Journal.{first_disk, second_disk, generation, record_bytes, HasFailed, IsReady, Holds}
use Rattle.ash_journal.specs.Journal.{LeavesCurrent, LeavesOther}
use Rattle.ash_sources.specs.declared.fault.SourceFault.{SourceFault as CodeFault}
use Rattle.ash_requests.specs.declared.refusal.Refusal.{Refusal}
use Rattle.ash_requests.specs.declared.refusal.Refusal.TheVariants as the
use Rattle.ash_host.specs.declared.event.Event.{Event}
use Rattle.ash_change_laws.specs.ChangedStates.{Names}
use Rattle.ash_engine.specs.LiveStates.{LiveState}
use Rattle.ash_engine.specs.RecordedChanges.{IsBodyOfChanges}
use Rattle.ash_states.specs.HostStates.{HostState}
use Rattle.ash_image.specs.declared.version.Version.TheVariants.{Two}
use Rattle.ash_replay.specs.ReplayFaults.{record_header_size}
use Rattle.ash_replay.specs.ReplayedStates.{IsBodyBetween}
use Rattle.ash_durable.specs.StoredStates.{HoldsState, ExtendsHistory, BeginsAnew}

-- Why the code refuses a request.
abbrev pub HostRefusal : Type 0
HostRefusal = Refusal CodeFault

-- a state is not stored because a device failed
abbrev pub IsDeviceRefusal : HostRefusal → Type 0
IsDeviceRefusal the.DeviceFailed = Unit {0}
IsDeviceRefusal _ = ⊥

-- a call fails because a device did
abbrev pub FailsBy : {T : Type 0} → Result T HostRefusal → Type 0
FailsBy (Ok done) = ⊥
FailsBy (Err refusal) = IsDeviceRefusal refusal

-- The names of the changes of a live state name all that differs between this state and what outlives the request.
pub record IsBefore {B : Type 0} (live : LiveState B) (before : HostState) : Type 0 where
  pub registered : before.registered ≡ (live.durable).registered
  pub happened : List Event
  pub names : Names live.changes happened before.state (live.durable).state

-- In the same generation, a journal holds the records that it held and one more, whose body is such a one.
pub record HasRecord {D : Type 0} (device : Device D) (IsBody : List ℕ → Type 0) (old new : Journal D) : Type 0 where
  pub same : generation new ≡ generation old
  pub body : List ℕ
  pub is_body : IsBody body
  pub added : (image : List ℕ) (bodies : List (List ℕ)) → Holds device old image bodies
      → Holds device new image (bodies ++ body ∷ [])
  pub longer : record_bytes new ≡ record_bytes old + record_header_size + length body

-- one record more, whose body is the delta of the changes that a live state names
abbrev pub HasOneMore : {D B : Type 0} → Device D → LiveState B → Journal D → Journal D → Type 0
HasOneMore device live old new = HasRecord device (IsBodyOfChanges live) old new

-- What becomes of a journal to which a record with this body was to be added: that it has it; that memory was refused
-- and nothing changed; or that a device failed, and the journal is to be opened again.
abbrev pub AddsRecordWith : {D : Type 0} → Device D → List ℕ → Journal D → Result (Unit {0}) HostRefusal → Journal D
    → Type 0
AddsRecordWith device body old (Ok done) new = IsReady new × HasRecord device (λ other. other ≡ body) old new
AddsRecordWith device body old (Err the.NoMemory) new = new ≡ old
AddsRecordWith device body old (Err the.DeviceFailed) new = HasFailed new
AddsRecordWith device body old (Err _) new = ⊥

-- A record with this body is added to a journal, in the current file. If the body leads from the state that the journal
-- held to another, it then holds that one.
pub record AddsRecord {D : Type 0} (device : Device D) (body : List ℕ) (old : Journal D)
    (result : Result (Unit {0}) HostRefusal) (new : Journal D) : Type 0 where
  pub outcome : AddsRecordWith device body old result new
  pub untouched : LeavesOther old new
  pub holds : OnOk result ((before after : HostState) → IsBodyBetween Two body before after
      → HoldsState device before old → HoldsState device after new)
  pub moments : (before after : HostState) → IsBodyBetween Two body before after → HoldsState device before old
      → ExtendsHistory device before after old new
  pub failures : CountsFailures (FailsBy result) (device.failures (first_disk old))
      (device.failures (second_disk old)) (device.failures (first_disk new)) (device.failures (second_disk new))
  pub honesty_first : device.honest (first_disk new) ≡ device.honest (first_disk old)
  pub honesty_second : device.honest (second_disk new) ≡ device.honest (second_disk old)

-- What becomes of a journal that what a request changed was to be added to as one record: that it has it, and one
-- record more; that memory was refused and nothing changed; or that a device failed, and the journal is to be opened
-- again.
abbrev pub AddsWith : {D B : Type 0} → Device D → LiveState B → Journal D → Result (Unit {0}) HostRefusal → Journal D
    → Type 0
AddsWith device live old (Ok done) new = IsReady new × HasOneMore device live old new
AddsWith device live old (Err the.NoMemory) new = new ≡ old
AddsWith device live old (Err the.DeviceFailed) new = HasFailed new
AddsWith device live old (Err _) new = ⊥

-- What the last request changed is added to a journal as one record more, in the current file: it then holds what
-- outlives the request, if it held the state before it.
pub record Adds {D B : Type 0} (device : Device D) (live : LiveState B) (old : Journal D)
    (result : Result (Unit {0}) HostRefusal)
    (new : Journal D) : Type 0 where
  pub outcome : AddsWith device live old result new
  pub untouched : LeavesOther old new
  pub holds : OnOk result ((before : HostState) → IsBefore live before → HoldsState device before old
      → HoldsState device live.durable new)
  pub moments : (before : HostState) → IsBefore live before → HoldsState device before old
      → ExtendsHistory device before live.durable old new
  pub failures : CountsFailures (FailsBy result) (device.failures (first_disk old))
      (device.failures (second_disk old)) (device.failures (first_disk new)) (device.failures (second_disk new))
  pub honesty_first : device.honest (first_disk new) ≡ device.honest (first_disk old)
  pub honesty_second : device.honest (second_disk new) ≡ device.honest (second_disk old)

-- the last number of a generation
abbrev pub last_generation : ℕ
last_generation = 2 ^ 64 - 1

-- What becomes of a journal that a state was to be written into as a new generation: that it has it, and no records;
-- that the number of its generation is the last, or memory was refused, and nothing changed; or that a device failed.
abbrev pub InstallsWith : {D : Type 0} → Journal D → Result (Unit {0}) HostRefusal → Journal D → Type 0
InstallsWith old (Ok done) new = IsReady new × (generation new ≡ generation old + 1) × (record_bytes new ≡ 0)
InstallsWith old (Err the.GenerationSpent) new = (generation old ≡ last_generation) × (new ≡ old)
InstallsWith old (Err the.NoMemory) new = (generation old ≡ last_generation → ⊥) × (new ≡ old)
InstallsWith old (Err the.DeviceFailed) new = (generation old ≡ last_generation → ⊥) × HasFailed new
InstallsWith old (Err _) new = ⊥

-- A state that a journal holds is written into it as a new generation, in the file that is not current.
pub record Installs {D : Type 0} (device : Device D) (state : HostState) (old : Journal D)
    (result : Result (Unit {0}) HostRefusal) (new : Journal D) : Type 0 where
  pub outcome : InstallsWith old result new
  pub untouched : LeavesCurrent old new
  pub holds : OnOk result (HoldsState device state old → HoldsState device state new)
  pub moments : HoldsState device state old → BeginsAnew device state state old new
  pub failures : CountsFailures (FailsBy result) (device.failures (first_disk old))
      (device.failures (second_disk old)) (device.failures (first_disk new)) (device.failures (second_disk new))
  pub honesty_first : device.honest (first_disk new) ≡ device.honest (first_disk old)
  pub honesty_second : device.honest (second_disk new) ≡ device.honest (second_disk old)
