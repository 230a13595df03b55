-- Opening a store on two disks with boxes of host objects: why it is refused, and what finding its state, giving it to
-- the boxes, writing over gates that a crash left and moving it to version 2 come to.
use Rattle.std.specs.Prelude.{◌≡◌, ◌⊎◌, ℕ, ◌+◌, List, [], Some, Result, Ok, Err}
use Rattle.ash_disk.specs.Device.{Device}
use Rattle.ash_journal.specs.declared.error.OpenFault.TheVariants as opening
use Rattle.ash_journal.specs.declared.journal.Journal.{Journal}
use Rattle.ash_journal.specs.declared.journal.NextGeneration.{NextGeneration}
use Rattle.ash_journal.specs.declared.journal.OpenedJournal.{OpenedJournal}
use Rattle.ash_journal.specs.Current.{Contents, IsContents, HoldsOneOf, Represent}
use Rattle.ash_journal.specs.Installing.{IsNext}
use Rattle.ash_journal.specs.Journal.{first_disk, second_disk, generation, record_bytes, HasFailed}
use Rattle.ash_journal.specs.Journal.{IsReady, Holds, LeavesCurrent, LeavesRepaired, WritesGates}
use Rattle.ash_journal.specs.Journal.{HoldsBeforeRepair}
use Rattle.ash_journal.specs.Layout.{HasMark}
use Rattle.ash_journal.specs.Opening.{FaultIs}
use Rattle.ash_journal.specs.Reading.{AreAt, bodies_of}
use Rattle.ash_journal.specs.SettledSince.{Extends, HoldsSince, NoContents}
use Rattle.ash_image.specs.declared.version.Version.{Version}
use Rattle.ash_image.specs.declared.version.Version.TheVariants.{One, Two}
use Rattle.ash_states.specs.HostStates.{HostState}
use Rattle.ash_states.specs.Images.{IsImageIn}
use Rattle.ash_host.specs.declared.host_object.HostObject.{Ghosts}
use Rattle.ash_registry.specs.AcceptedRegistrations.{Registration}
use Rattle.ash_engine.specs.LiveStates.{LiveState, EngineState}
use Rattle.ash_engine.specs.RestoredBoxes.{IsShort, IsRefused, Restores}
use Rattle.ash_replay.specs.ReplayFaults.{after_image, IsMisshapen}
use Rattle.ash_replay.specs.ReplayedStates.{AreIn, IsStateOf, IsNotAdmitted, AreOfOthers}
use Rattle.ash_durable.specs.StoreFaults.{IsFailed, IsMishap}
use Rattle.ash_durable.specs.HandedBoxes.{AreSaved, CanOpen}
use Rattle.ash_durable.specs.Hosting.{Hosted, first, second, IsRunning, IsSaved, IsHonest, IsSound}
use Rattle.ash_durable.specs.Saving.{last_generation}
use Rattle.ash_durable.specs.StoredStates.{AreHonest, SettleInAnyVersion, IsEither}
use Rattle.ash_durable.specs.Store.{HandsBack, WereOnlyRead}
use Rattle.ash_durable.specs.declared.fault.OpenRefused.{OpenRefused}
use Rattle.ash_durable.specs.declared.fault.StoreFault.{StoreFault}
use Rattle.ash_durable.specs.declared.fault.StoreFault.TheVariants as faults
use Rattle.ash_durable.specs.declared.store.Found.{Found}

-- two files are of a state with P that a host with this registered may be in
abbrev pub AreOfState : List Registration → (HostState → Type 0) → List ℕ → List ℕ → Type 0
AreOfState registered P x y = (contents : Contents) × Represent contents x y
    × (state : HostState) × (state.registered ≡ registered) × IsStateOf state contents × P state

-- Two files are of a state that a host with this registered may be in, in version 1, these boxes take it, and the
-- number of its generation is the last: there is none for a generation of version 2.
pub record IsSpent {B : Type 0} (G : Ghosts B) (registered : List Registration) (pool services : List B)
    (x y : List ℕ) : Type 0 where
  pub contents : Contents
  pub represented : Represent contents x y
  pub state : HostState
  pub registered_is : state.registered ≡ registered
  pub is_state : IsStateOf state contents
  pub in_one : AreIn One contents
  pub live : LiveState B
  pub restored : Restores G state pool services live
  pub last : HasMark last_generation x ⊎ HasMark last_generation y

-- The files have this fault, with this registered and these boxes: that of the journal in them, of what it holds, or of
-- the boxes for it, the first that holds. But a device may fail at any time, and memory may be refused once the current
-- file is known: where a device failed nothing is said of the files, and where memory was refused only that one of them
-- is current.
abbrev pub StoreFaultIs : {B : Type 0} → Ghosts B → List Registration → List B → List B → StoreFault → List ℕ → List ℕ
    → Type 0
StoreFaultIs G registered pool services (faults.Open (opening.Damaged at)) x y =
    FaultIs (opening.Damaged at) x y
    ⊎ ((contents : Contents) × Represent contents x y
    × (IsMisshapen contents at ⊎ IsNotAdmitted registered contents at))
StoreFaultIs G registered pool services (faults.Open fault) x y = FaultIs fault x y
StoreFaultIs G registered pool services faults.OtherInterface x y =
    (contents : Contents) × Represent contents x y × AreOfOthers registered contents
StoreFaultIs G registered pool services (faults.PoolShort kind) x y =
    AreOfState registered (λ state. IsShort G state pool services kind) x y
StoreFaultIs G registered pool services (faults.RestoreRefused number) x y =
    AreOfState registered (λ state. IsRefused G state pool services number) x y
StoreFaultIs G registered pool services faults.GenerationSpent x y = IsSpent G registered pool services x y
StoreFaultIs G registered pool services (faults.Create fault) x y = ⊥

-- Calls add nothing to two files: at every moment of them a crash leaves the contents that it might have left before
-- they began, and no others.
abbrev pub AddNothing : {D : Type 0} → Device D → D → D → D → D → Type 0
AddNothing device a b a' b' = AreHonest device a b → Extends device a b a' b' NoContents

-- A journal holds the image and the records that two files, as they read, held before, no record more and none less,
-- and they are those of this state, in a version.
pub record HoldsAsRead {D : Type 0} (device : Device D) (a b : D) (version : Version) (state : HostState)
    (journal : Journal D) : Type 0 where
  pub contents : Contents
  pub in_version : AreIn version contents
  pub represented : Represent contents (device.seen a) (device.seen b)
  pub holds : Holds device journal contents.0 contents.1
  pub is_state : IsStateOf state contents

-- A journal was settled, or was begun to be: of its disks, one on which no gate was to be written over is as it was, to
-- another nothing was written but that gate, and the generation has the same number and the size of its records.
pub record OnlySettled {D : Type 0} (device : Device D) (was journal : Journal D) : Type 0 where
  pub only_pending : LeavesRepaired was journal
  pub only_gates : (contents : Contents) → HoldsBeforeRepair device was contents.0 contents.1
      → WritesGates device was journal
  pub number_same : generation journal ≡ generation was
  pub size_same : record_bytes journal ≡ record_bytes was

-- Two disks were read, and the journal that was found on them was settled, or was begun to be: no generation was made.
pub record WasRepaired {D : Type 0} (device : Device D) (a b : D) (journal : Journal D) : Type 0 where
  pub was : Journal D
  pub read : WereOnlyRead device a b (first_disk was) (second_disk was)
  pub finds : AreHonest device a b → (contents : Contents) × HoldsBeforeRepair device was contents.0 contents.1
  pub only : OnlySettled device was journal

-- two disks are those of a journal that was found on them and was begun to be settled
abbrev pub AreOfRepaired : {D : Type 0} → Device D → D → D → D → D → Type 0
AreOfRepaired {D} device a b a' b' = (journal : Journal D) × WasRepaired device a b journal × (a' ≡ first_disk journal)
    × (b' ≡ second_disk journal)

-- A state was found: the files, as they read, are those of it in a version, and the journal holds these very files and
-- no other state.
pub record WasFound {D : Type 0} (device : Device D) (registered : List Registration) (a b : D) (version : Version)
    (state : HostState) (journal : Journal D) : Type 0 where
  pub registered_is : state.registered ≡ registered
  pub ready : IsReady journal
  -- the files hold the records that they held before, no more and no fewer
  pub holds : AreHonest device a b → HoldsAsRead device a b version state journal
  -- nor does a crash on the way leave any other
  pub moments : AddNothing device a b (first_disk journal) (second_disk journal)
  -- the generation is the one that was read, and on each disk nothing was written but a gate that was to be written
  -- over
  pub repaired : WasRepaired device a b journal
  pub disks : HandsBack device ⊥ a b (first_disk journal) (second_disk journal)

-- While an image was installed in place of what a journal holds, at every moment since both its disks had been synced,
-- a crash left the one generation or the other.
abbrev pub InstallsOrNot : {D : Type 0} → Device D → List ℕ → Journal D → Journal D → Type 0
InstallsOrNot device image old new = (contents : Contents) → Holds device old contents.0 contents.1
    → HoldsSince device (device.clock (first_disk old)) (device.clock (second_disk old)) (first_disk new)
    (second_disk new) (HoldsOneOf (IsContents (image, [])) (IsContents contents))

-- A generation of version 1 with this state was moved: a new one of version 2 with the same state, without records, is
-- in the other file, and the disk with the old one was not touched.
pub record WasMoved {D : Type 0} (device : Device D) (state : HostState) (old new : Journal D) : Type 0 where
  pub ready : IsReady new
  pub higher : generation new ≡ generation old + 1
  pub emptied : record_bytes new ≡ 0
  pub untouched : LeavesCurrent old new
  pub image : List ℕ
  pub is_image : IsImageIn Two image state
  pub holds : (contents : Contents) → Holds device old contents.0 contents.1 → Holds device new image []
  pub moments : InstallsOrNot device image old new
  pub disks : HandsBack device ⊥ (first_disk old) (second_disk old) (first_disk new) (second_disk new)

-- A generation of version 1 with this state was to be moved, and a device failed: the disk with it was not touched.
pub record WasNotMoved {D : Type 0} (device : Device D) (state : HostState) (old : Journal D)
    (refused : OpenRefused D) : Type 0 where
  pub new : Journal D
  pub first_is : refused.a ≡ first_disk new
  pub second_is : refused.b ≡ second_disk new
  pub fault_is : refused.fault ≡ faults.Open opening.DeviceFailed
  pub untouched : LeavesCurrent old new
  pub image : List ℕ
  pub is_image : IsImageIn Two image state
  pub moments : InstallsOrNot device image old new
  pub disks : HandsBack device (Unit {0}) (first_disk old) (second_disk old) refused.a refused.b

-- what becomes of the journal of a state that was found in a version: of version 2 it stays, of version 1 it is moved
abbrev pub Keeps : {D : Type 0} → Device D → Version → HostState → Journal D → Journal D → Type 0
Keeps device One state old new = WasMoved device state old new
Keeps device Two state old new = new ≡ old

-- A state was found and is kept in version 2: in the generation in which it was found, or in a new one.
pub record WasKept {D : Type 0} (device : Device D) (registered : List Registration) (a b : D) (state : HostState)
    (journal : Journal D) : Type 0 where
  pub version : Version
  pub old : Journal D
  pub found : WasFound device registered a b version state old
  pub keeps : Keeps device version state old journal

-- A state was found in version 1, these boxes took it, and a device failed while it was moved.
pub record WasLeft {D B : Type 0} (device : Device D) (G : Ghosts B) (registered : List Registration)
    (pool services : List B) (a b : D) (refused : OpenRefused D) : Type 0 where
  pub state : HostState
  pub live : LiveState B
  pub restored : Restores G state pool services live
  pub old : Journal D
  pub found : WasFound device registered a b One state old
  pub left : WasNotMoved device state old refused

-- No state was found, its boxes did not take it, or a device failed before its files held it.
pub record WasNotFound {D B : Type 0} (device : Device D) (G : Ghosts B) (registered : List Registration)
    (pool services : List B) (a b : D) (refused : OpenRefused D) : Type 0 where
  pub cause : AreHonest device a b
      → StoreFaultIs G registered pool services refused.fault (device.seen a) (device.seen b)
  pub read : (IsFailed refused.fault → ⊥) → WereOnlyRead device a b refused.a refused.b
  pub moments : AddNothing device a b refused.a refused.b
  pub repaired : IsFailed refused.fault → WereOnlyRead device a b refused.a refused.b
      ⊎ AreOfRepaired device a b refused.a refused.b
  pub disks : HandsBack device (IsFailed refused.fault) a b refused.a refused.b

-- No host is opened, and both disks are handed back: no state was found that these boxes take, or it was found in
-- version 1 and is left there.
pub data WasRefused {D B : Type 0} (device : Device D) (G : Ghosts B) (registered : List Registration)
    (pool services : List B) (a b : D) (refused : OpenRefused D) : Type 0 where
  NotFound : WasNotFound device G registered pool services a b refused
      → WasRefused device G registered pool services a b refused
  LeftThere : WasLeft device G registered pool services a b refused
      → WasRefused device G registered pool services a b refused

-- An engine has what is registered, and a live state in which this one lives again, with these boxes.
pub record LivesAgain {B : Type 0} (G : Ghosts B) (state : HostState) (pool services : List B)
    (engine : EngineState B) : Type 0 where
  pub live : LiveState B
  pub engine_is : engine ≡ record { registered = state.registered; live = Some live }
  pub restored : Restores G state pool services live
  pub sound : IsSound G live

-- The state of a store was found on two disks, lives again in an engine, and is kept.
pub record HasFound {D B : Type 0} (device : Device D) (G : Ghosts B) (registered : List Registration)
    (pool services : List B) (a b : D) (found : Found D B) : Type 0 where
  pub state : HostState
  pub lives : LivesAgain G state pool services found.engine
  pub kept : WasKept device registered a b state found.journal

-- The state of a store is found on two disks and kept, or both are handed back.
abbrev pub OpensState : {D B : Type 0} → Device D → Ghosts B → List Registration → List B → List B → D → D
    → Result (Found D B) (OpenRefused D) → Type 0
OpensState device G registered pool services a b (Ok found) = HasFound device G registered pool services a b found
OpensState device G registered pool services a b (Err refused) = WasRefused device G registered pool services a b
    refused

-- what a journal that was opened holds
abbrev pub contents_of : {D : Type 0} → OpenedJournal D → Contents
contents_of opened = (opened.image.items, bodies_of opened.records.items)

-- the gates before its records are where the records say
abbrev pub AreInPlace : {D : Type 0} → OpenedJournal D → Type 0
AreInPlace opened = AreAt (after_image opened.image.items) opened.records.items

-- the files hold what was read of them
abbrev pub HoldsRead : {D : Type 0} → Device D → OpenedJournal D → Type 0
HoldsRead device opened = HoldsBeforeRepair device opened.journal opened.image.items (bodies_of opened.records.items)

-- The gates of a journal's files were written over that a crash left.
pub record HasSettled {D : Type 0} (device : Device D) (was journal : Journal D) : Type 0 where
  pub ready : (HasFailed was → ⊥) → IsReady journal
  pub only : OnlySettled device was journal
  pub holds : (contents : Contents) → HoldsBeforeRepair device was contents.0 contents.1
      → Holds device journal contents.0 contents.1
  pub extends : (contents : Contents) → HoldsBeforeRepair device was contents.0 contents.1
      → Extends device (first_disk was) (second_disk was) (first_disk journal) (second_disk journal) NoContents
  pub disks : HandsBack device ⊥ (first_disk was) (second_disk was) (first_disk journal) (second_disk journal)

-- A device failed while they were.
pub record FailedToSettle {D : Type 0} (device : Device D) (was : Journal D) (refused : OpenRefused D) : Type 0 where
  pub fault_is : refused.fault ≡ faults.Open opening.DeviceFailed
  pub journal : Journal D
  pub first_is : refused.a ≡ first_disk journal
  pub second_is : refused.b ≡ second_disk journal
  pub only : OnlySettled device was journal
  pub extends : (contents : Contents) → HoldsBeforeRepair device was contents.0 contents.1
      → Extends device (first_disk was) (second_disk was) (first_disk journal) (second_disk journal) NoContents
  pub disks : HandsBack device (Unit {0}) (first_disk was) (second_disk was) (first_disk journal) (second_disk journal)

-- A state that was stored lives again in an engine, with these boxes; or the fault of the boxes, the first that holds;
-- or memory was refused.
abbrev pub Revives : {B : Type 0} → Ghosts B → HostState → List B → List B → Result (EngineState B) StoreFault → Type 0
Revives G state pool services (Ok engine) = LivesAgain G state pool services engine
Revives G state pool services (Err (faults.PoolShort kind)) = IsShort G state pool services kind
Revives G state pool services (Err (faults.RestoreRefused number)) = IsRefused G state pool services number
Revives G state pool services (Err (faults.Open opening.NoMemory)) = Unit {0}
Revives G state pool services (Err _) = ⊥

-- an engine with a state that was read of a journal, and what became of the gates
abbrev pub Repairs : {D B : Type 0} → Device D → EngineState B → Journal D → Result (Found D B) (OpenRefused D) → Type 0
Repairs device engine was (Ok found) = (found.engine ≡ engine) × HasSettled device was found.journal
Repairs device engine was (Err refused) = FailedToSettle device was refused

-- the generation that is to follow a journal's, with the image of a state in version 2, or why there is none
abbrev pub Prepares : {D : Type 0} → HostState → Journal D → Result NextGeneration StoreFault → Type 0
Prepares state journal (Ok next) = (image : List ℕ) × IsImageIn Two image state × IsNext journal image next
Prepares state journal (Err faults.GenerationSpent) = generation journal ≡ last_generation
Prepares state journal (Err (faults.Open opening.NoMemory)) = generation journal ≡ last_generation → ⊥
Prepares state journal (Err _) = ⊥

-- Why a state is not moved of which nothing was written: its generation has the last number, or else memory was
-- refused.
abbrev pub MayNotMove : {D : Type 0} → Journal D → StoreFault → Type 0
MayNotMove was faults.GenerationSpent = generation was ≡ last_generation
MayNotMove was (faults.Open opening.NoMemory) = generation was ≡ last_generation → ⊥
MayNotMove was _ = ⊥

-- No state is moved, and nothing was written.
pub record NotBegun {D : Type 0} (was : Journal D) (refused : OpenRefused D) : Type 0 where
  pub cause : MayNotMove was refused.fault
  pub first_same : refused.a ≡ first_disk was
  pub second_same : refused.b ≡ second_disk was

-- an engine with a state that was read of a journal in version 1, and what became of it
abbrev pub Moves : {D B : Type 0} → Device D → HostState → EngineState B → Journal D
    → Result (Found D B) (OpenRefused D) → Type 0
Moves {D} device state engine was (Ok found) = (found.engine ≡ engine) × (old : Journal D) × HasSettled device was old
    × WasMoved device state old found.journal
Moves {D} device state engine was (Err refused) = NotBegun was refused ⊎ (FailedToSettle device was refused
    ⊎ ((old : Journal D) × HasSettled device was old × WasNotMoved device state old refused))

-- The state of a journal that was opened was read in a version, and the gates are written over that a crash left.
pub record WasSettled {D : Type 0} (device : Device D) (registered : List Registration) (opened : OpenedJournal D)
    (version : Version) (state : HostState) (journal : Journal D) : Type 0 where
  pub registered_is : state.registered ≡ registered
  pub reads : AreInPlace opened → IsStateOf state (contents_of opened) × AreIn version (contents_of opened)
  pub settled : HasSettled device opened.journal journal

-- a journal that was opened is of a state with P that a host with this registered may be in
abbrev pub ReadsState : {D : Type 0} → List Registration → (HostState → Type 0) → OpenedJournal D → Type 0
ReadsState registered P opened =
    (state : HostState) × (state.registered ≡ registered) × IsStateOf state (contents_of opened) × P state

-- A journal that was opened has a state in version 1, these boxes take it, and the number of its generation is the
-- last.
pub record IsLast {D B : Type 0} (G : Ghosts B) (registered : List Registration) (pool services : List B)
    (opened : OpenedJournal D) : Type 0 where
  pub state : HostState
  pub registered_is : state.registered ≡ registered
  pub is_state : IsStateOf state (contents_of opened)
  pub in_one : AreIn One (contents_of opened)
  pub live : LiveState B
  pub restored : Restores G state pool services live
  pub last : generation opened.journal ≡ last_generation

-- Why the state of a journal that was opened is of no use: a device failed, the boxes did not take it, there is no
-- number for a generation of version 2, or none was read.
abbrev pub UnsettledFor : {D B : Type 0} → Ghosts B → List Registration → List B → List B → OpenedJournal D → StoreFault
    → Type 0
UnsettledFor G registered pool services opened (faults.Open opening.DeviceFailed) = Unit {0}
UnsettledFor G registered pool services opened faults.GenerationSpent = IsLast G registered pool services opened
UnsettledFor G registered pool services opened (faults.PoolShort kind) =
    ReadsState registered (λ state. IsShort G state pool services kind) opened
UnsettledFor G registered pool services opened (faults.RestoreRefused number) =
    ReadsState registered (λ state. IsRefused G state pool services number) opened
UnsettledFor G registered pool services opened (faults.Open (opening.Damaged at)) =
    IsMisshapen (contents_of opened) at ⊎ IsNotAdmitted registered (contents_of opened) at
UnsettledFor G registered pool services opened faults.OtherInterface = AreOfOthers registered (contents_of opened)
UnsettledFor G registered pool services opened (faults.Open opening.NoMemory) = Unit {0}
UnsettledFor G registered pool services opened _ = ⊥

-- No state was read, the boxes did not take it, or none is moved, and nothing is written; or a device failed once it
-- was read.
pub record WasNotSettled {D B : Type 0} (device : Device D) (G : Ghosts B) (registered : List Registration)
    (pool services : List B) (opened : OpenedJournal D) (refused : OpenRefused D) : Type 0 where
  pub cause : AreInPlace opened → UnsettledFor G registered pool services opened refused.fault
  pub read : (IsFailed refused.fault → ⊥) → (refused.a ≡ first_disk opened.journal)
      × (refused.b ≡ second_disk opened.journal)
  pub extends : HoldsRead device opened → Extends device (first_disk opened.journal) (second_disk opened.journal)
      refused.a refused.b NoContents
  pub only : IsFailed refused.fault → (journal : Journal D) × OnlySettled device opened.journal journal
      × (refused.a ≡ first_disk journal) × (refused.b ≡ second_disk journal)
  pub disks : HandsBack device (IsFailed refused.fault) (first_disk opened.journal) (second_disk opened.journal)
      refused.a refused.b

-- The state of a journal that was opened was read in a version, lives again in an engine, and is kept in version 2.
pub record WasSettledIn {D B : Type 0} (device : Device D) (G : Ghosts B) (registered : List Registration)
    (pool services : List B) (opened : OpenedJournal D) (found : Found D B) : Type 0 where
  pub version : Version
  pub state : HostState
  pub lives : LivesAgain G state pool services found.engine
  pub old : Journal D
  pub settled : WasSettled device registered opened version state old
  pub keeps : Keeps device version state old found.journal

-- The state of a journal that was opened was read in version 1, these boxes took it, and a device failed while it was
-- moved.
pub record WasSettledAndLeft {D B : Type 0} (device : Device D) (G : Ghosts B) (registered : List Registration)
    (pool services : List B) (opened : OpenedJournal D) (refused : OpenRefused D) : Type 0 where
  pub state : HostState
  pub live : LiveState B
  pub restored : Restores G state pool services live
  pub old : Journal D
  pub settled : WasSettled device registered opened One state old
  pub left : WasNotMoved device state old refused

-- A journal that was opened holds a state in version 2 that these boxes took, or its disks are handed back.
abbrev pub Settled : {D B : Type 0} → Device D → Ghosts B → List Registration → List B → List B → OpenedJournal D
    → Result (Found D B) (OpenRefused D) → Type 0
Settled device G registered pool services opened (Ok found) =
    WasSettledIn device G registered pool services opened found
Settled device G registered pool services opened (Err refused) =
    WasNotSettled device G registered pool services opened refused
    ⊎ WasSettledAndLeft device G registered pool services opened refused

-- A host was opened with this registered and these boxes: it runs in the state that the files, as they read, are of,
-- and keeps it in version 2; its host objects and its services live again. Where the files settled on two states
-- before, it is one of them, and they settle on it alone.
pub record WasOpened {D B : Type 0} (device : Device D) (G : Ghosts B) (registered : List Registration)
    (pool services : List B) (a b : D) (host : Hosted D B) : Type 0 where
  pub state : HostState
  pub running : IsRunning state host
  pub live : LiveState B
  pub live_is : host.live ≡ Some live
  pub restored : Restores G state pool services live
  pub sound : IsSound G live
  pub kept : WasKept device registered a b state host.journal
  pub same : (s t : HostState) → AreHonest device a b → s.registered ≡ registered → t.registered ≡ registered
      → SettleInAnyVersion device a b (IsEither s t) → IsEither s t state
  pub saved : AreHonest device a b → IsSaved device host

-- A host is opened on two disks, or both are handed back.
abbrev pub Opens : {D B : Type 0} → Device D → Ghosts B → List Registration → List B → List B → D → D
    → Result (Hosted D B) (OpenRefused D) → Type 0
Opens device G registered pool services a b (Ok host) = WasOpened device G registered pool services a b host
Opens device G registered pool services a b (Err refused) = WasRefused device G registered pool services a b refused

-- The disks of an opening when its first phase has ended: those of the journal in which the state was found, before it
-- is moved, where it is; else those that the opening leaves.
abbrev pub first_found : {D B : Type 0} (device : Device D) (G : Ghosts B) (registered : List Registration)
    (pool services : List B) (a b : D) (result : Result (Hosted D B) (OpenRefused D))
    → Opens device G registered pool services a b result → D
first_found device G registered pool services a b (Ok host) opens = first_disk opens.kept.old
first_found device G registered pool services a b (Err refused) (NotFound none) = refused.a
first_found device G registered pool services a b (Err refused) (LeftThere left) = first_disk left.old

abbrev pub second_found : {D B : Type 0} (device : Device D) (G : Ghosts B) (registered : List Registration)
    (pool services : List B) (a b : D) (result : Result (Hosted D B) (OpenRefused D))
    → Opens device G registered pool services a b result → D
second_found device G registered pool services a b (Ok host) opens = second_disk opens.kept.old
second_found device G registered pool services a b (Err refused) (NotFound none) = refused.b
second_found device G registered pool services a b (Err refused) (LeftThere left) = second_disk left.old

-- ---- closing it and opening it again

-- A host that was saved is opened with what was registered, in the state in which it was closed, unless memory is
-- refused or a disk fails, where the boxes are such as the state can be opened with. Each host object and each service
-- of that state has what an object of its kind saves.
abbrev pub OpensAgain : {D B : Type 0} → Device D → Ghosts B → List B → List B → Hosted D B
    → Result (Hosted D B) (OpenRefused D) → Type 0
OpensAgain device G pool services host (Ok opened) =
    (opened.registered ≡ host.registered)
    × ((state : HostState) → IsHonest device host → IsRunning state host → IsSaved device host → IsRunning state opened
    × IsSaved device opened)
OpensAgain device G pool services host (Err refused) =
    (state : HostState) → IsHonest device host → IsRunning state host → IsSaved device host
    → (AreSaved G state → CanOpen G pool services state) → IsMishap refused.fault
