-- Making a store on two disks, and a host with boxes of host objects.
use Rattle.std.specs.Prelude.{◌≡◌, ◌⊎◌, ℕ, ◌<◌, ◌^◌, List, length, slice_index, Some, Result, Ok, Err}
use Rattle.ash_disk.specs.Device.{Device, EveryMomentSince, IsOnlyRead}
use Rattle.ash_journal.specs.declared.error.CreateFault.{CreateFault}
use Rattle.ash_journal.specs.declared.error.CreateFault.TheVariants as creating
use Rattle.ash_journal.specs.declared.journal.Journal.{Journal}
use Rattle.ash_journal.specs.Current.{SettleOn}
use Rattle.ash_journal.specs.JournalFailures.{CountsFailures}
use Rattle.ash_journal.specs.Journal.{first_disk, second_disk, current_disk, generation, record_bytes, IsReady}
use Rattle.ash_journal.specs.Layout.{IsClosed}
use Rattle.ash_journal.specs.Writes.{WasUnused}
use Rattle.ash_image.specs.declared.version.Version.TheVariants.{Two}
use Rattle.ash_states.specs.HostStates.{HostState}
use Rattle.ash_states.specs.Images.{IsImageIn}
use Rattle.ash_host.specs.declared.host_object.HostObject.{Ghosts}
use Rattle.ash_registry.specs.AcceptedRegistrations.{Registration}
use Rattle.ash_engine.specs.LiveStates.{begin}
use Rattle.ash_engine.specs.RestoredBoxes.{HasServices, LacksService}
use Rattle.ash_durable.specs.HandedBoxes.{first_state}
use Rattle.ash_durable.specs.StoreFaults.{IsFailed}
use Rattle.ash_durable.specs.Hosting.{Hosted, IsRunning, IsSaved, IsSound, RunsSound}
use Rattle.ash_durable.specs.StoredStates.{AreHonest, HoldsState, IsOne, HaveStateInTwo}
use Rattle.ash_durable.specs.declared.fault.OpenRefused.{OpenRefused}
use Rattle.ash_durable.specs.declared.fault.StoreFault.{StoreFault}
use Rattle.ash_durable.specs.declared.fault.StoreFault.TheVariants as faults
use Rattle.ash_durable.specs.declared.header.Header.{Header}
use Rattle.ash_durable.specs.declared.store.First.{First}
use Rattle.ash_durable.specs.declared.store.Found.{Found}

-- how a file begins: its length, and its first byte, which is 0 where there is none
pub record IsHeader (header : Header) (bytes : List ℕ) : Type 0 where
  pub length_is : header.length ≡ length bytes
  pub gate_is : header.gate ≡ slice_index bytes 0

-- Two disks are handed back: no count of failures fell, and one rose exactly where a failure is reported; they are as
-- honest as they were.
pub record HandsBack {D : Type 0} (device : Device D) (failed : Type 0) (a b a' b' : D) : Type 0 where
  pub failures : CountsFailures failed (device.failures a) (device.failures b) (device.failures a') (device.failures b')
  pub honesty_first : device.honest a' ≡ device.honest a
  pub honesty_second : device.honest b' ≡ device.honest b

-- both disks were only read and synced
pub record WereOnlyRead {D : Type 0} (device : Device D) (a b a' b' : D) : Type 0 where
  pub read_first : IsOnlyRead device a a'
  pub read_second : IsOnlyRead device b b'

-- both files are closed, as the disks read
pub record AreClosed {D : Type 0} (device : Device D) (a b : D) : Type 0 where
  pub closed_first : IsClosed (device.seen a)
  pub closed_second : IsClosed (device.seen b)

-- no file is open, or they settle on one state, in version 2
abbrev pub IsClosedOrHasState : HostState → List ℕ → List ℕ → Type 0
IsClosedOrHasState state x y = (IsClosed x × IsClosed y) ⊎ SettleOn (HaveStateInTwo (IsOne state)) x y

-- While a store was made, at every moment since two earlier times from which on each file had rested, a crash left no
-- file open, or the store of this state.
abbrev pub MakesOrNot : {D : Type 0} → Device D → HostState → D → D → D → D → Type 0
MakesOrNot device state a b a' b' =
    (p q : ℕ) → AreHonest device a b → WasUnused device p a → WasUnused device q b
    → EveryMomentSince device p q a' b' (IsClosedOrHasState state)

-- A store was made on two disks whose files were closed: its first generation is on the first of them.
pub record WasMade {D : Type 0} (device : Device D) (state : HostState) (a b : D) (journal : Journal D) : Type 0 where
  pub ready : IsReady journal
  pub in_first : current_disk journal ≡ first_disk journal
  pub number : generation journal ≡ 1
  pub emptied : record_bytes journal ≡ 0
  pub closed : AreHonest device a b → AreClosed device a b
  pub holds : AreHonest device a b → HoldsState device state journal
  pub moments : MakesOrNot device state a b (first_disk journal) (second_disk journal)
  pub disks : HandsBack device ⊥ a b (first_disk journal) (second_disk journal)

-- Why no store was made, where some services may lack. Where a file was open, both disks are only read, and so they are
-- except where a device failed.
abbrev pub NotMadeFor : {D : Type 0} → Device D → (ℕ → Type 0) → D → D → StoreFault → D → D → Type 0
NotMadeFor device Lacks a b (faults.Create creating.DeviceFailed) a' b' = AreHonest device a b → AreClosed device a b
    ⊎ WereOnlyRead device a b a' b'
NotMadeFor device Lacks a b (faults.Create creating.AlreadyThere) a' b' =
    AreHonest device a b → WereOnlyRead device a b a' b' × (AreClosed device a b → ⊥)
NotMadeFor device Lacks a b (faults.Create creating.NoMemory) a' b' =
    AreHonest device a b → WereOnlyRead device a b a' b' × AreClosed device a b
NotMadeFor device Lacks a b (faults.PoolShort kind) a' b' =
    Lacks kind × (AreHonest device a b → WereOnlyRead device a b a' b' × AreClosed device a b)
NotMadeFor device Lacks a b _ a' b' = ⊥

-- No store was made, and both disks are handed back.
pub record WasNotMade {D : Type 0} (device : Device D) (Lacks : ℕ → Type 0) (state : HostState) (a b : D)
    (refused : OpenRefused D) : Type 0 where
  pub cause : NotMadeFor device Lacks a b refused.fault refused.a refused.b
  pub moments : MakesOrNot device state a b refused.a refused.b
  pub disks : HandsBack device (IsFailed refused.fault) a b refused.a refused.b

-- A host was made with this registered, these free boxes and these services: it runs in the state before any request,
-- in which no object lives, and which its disks keep. Services beyond those that are registered are dropped.
pub record WasCreated {D B : Type 0} (device : Device D) (G : Ghosts B) (registered : List Registration)
    (pool services : List B) (a b : D) (host : Hosted D B) : Type 0 where
  pub has : HasServices G registered services
  pub live_is : host.live ≡ Some (begin G registered pool services)
  pub running : IsRunning (first_state G registered services) host
  pub sound : RunsSound G host
  pub made : WasMade device (first_state G registered services) a b host.journal
  pub saved : IsSaved device host

-- No host was made, and both disks are handed back: a service may lack, beside what stops the making of a store.
-- Nothing was written, unless the live state is sound whose store was begun.
pub record WasNotCreated {D B : Type 0} (device : Device D) (G : Ghosts B) (registered : List Registration)
    (pool services : List B) (a b : D) (refused : OpenRefused D) : Type 0 where
  pub not_made : WasNotMade device (LacksService G registered services) (first_state G registered services) a b refused
  pub begun : WereOnlyRead device a b refused.a refused.b ⊎ IsSound G (begin G registered pool services)

-- A store was made, and an engine in the state that it holds: the one before any request, with these boxes.
pub record HasMade {D B : Type 0} (device : Device D) (G : Ghosts B) (registered : List Registration)
    (pool services : List B) (a b : D) (store : Found D B) : Type 0 where
  pub has : HasServices G registered services
  pub engine_is : store.engine ≡ record { registered = registered; live = Some (begin G registered pool services) }
  pub sound : IsSound G (begin G registered pool services)
  pub made : WasMade device (first_state G registered services) a b store.journal

-- A store is made on two disks, or both are handed back.
abbrev pub Makes : {D B : Type 0} → Device D → Ghosts B → List Registration → List B → List B → D → D
    → Result (Found D B) (OpenRefused D) → Type 0
Makes device G registered pool services a b (Ok store) = HasMade device G registered pool services a b store
Makes device G registered pool services a b (Err refused) = WasNotCreated device G registered pool services a b refused

-- A host is made on two disks, or both are handed back.
abbrev pub Creates : {D B : Type 0} → Device D → Ghosts B → List Registration → List B → List B → D → D
    → Result (Hosted D B) (OpenRefused D) → Type 0
Creates device G registered pool services a b (Ok host) = WasCreated device G registered pool services a b host
Creates device G registered pool services a b (Err refused) =
    WasNotCreated device G registered pool services a b refused

-- ---- the steps of the making

-- neither file is open, or why no store is made there
abbrev pub FindsWith : {D : Type 0} → Device D → D → D → Result (Unit {0}) CreateFault → D → D → Type 0
FindsWith device a b (Ok found) a' b' = AreHonest device a b → AreClosed device a b
FindsWith device a b (Err fault) a' b' = NotMadeFor device (λ kind. ⊥) a b (faults.Create fault) a' b'

-- a call that makes something failed for a device
abbrev pub HasFailedWith : {T : Type 0} → Result T CreateFault → Type 0
HasFailedWith (Ok value) = ⊥
HasFailedWith (Err fault) = IsFailed (faults.Create fault)

-- Two disks are looked at, and only read, for whether neither file is open.
pub record FindsClosed {D : Type 0} (device : Device D) (a b : D) (result : Result (Unit {0}) CreateFault) (a' b' : D)
    : Type 0 where
  pub finds : FindsWith device a b result a' b'
  pub read : WereOnlyRead device a b a' b'
  pub disks : HandsBack device (HasFailedWith result) a b a' b'

-- a call that prepares something failed for a device
abbrev pub HasFailedIn : {T : Type 0} → Result T StoreFault → Type 0
HasFailedIn (Ok value) = ⊥
HasFailedIn (Err fault) = IsFailed fault

-- The live state before any request, and its image, which fits a generation, where neither file is open; or why there
-- is none.
abbrev pub PreparesWith : {D B : Type 0} → Device D → Ghosts B → List Registration → List B → List B → D → D
    → Result (First B) StoreFault → D → D → Type 0
PreparesWith device G registered pool services a b (Ok first) a' b' =
    HasServices G registered services
    × (first.engine ≡ record { registered = registered; live = Some (begin G registered pool services) })
    × IsSound G (begin G registered pool services)
    × IsImageIn Two first.image.items (first_state G registered services) × (length first.image.items < 2 ^ 28)
    × (AreHonest device a b → AreClosed device a b)
PreparesWith device G registered pool services a b (Err fault) a' b' =
    NotMadeFor device (LacksService G registered services) a b fault a' b'

-- Two disks are looked at, and only read, for a host to be made with these boxes.
pub record PreparesFirst {D B : Type 0} (device : Device D) (G : Ghosts B) (registered : List Registration)
    (pool services : List B) (a b : D) (result : Result (First B) StoreFault) (a' b' : D) : Type 0 where
  pub prepares : PreparesWith device G registered pool services a b result a' b'
  pub read : WereOnlyRead device a b a' b'
  pub disks : HandsBack device (HasFailedIn result) a b a' b'
