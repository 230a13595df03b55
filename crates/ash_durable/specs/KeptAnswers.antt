-- What is left of the answers of a host, whenever a crash comes.
use Rattle.std.specs.Prelude.{◌≡◌, ◌⊎◌, ℕ, List, [], ◌∷◌, ◌++◌}
use Rattle.ash_disk.specs.Device.{Device}
use Rattle.ash_host.specs.declared.host_object.HostObject.{Ghosts}
use Rattle.ash_engine.specs.LiveSteps.{Reached}
use Rattle.ash_durable.specs.Hosting.{Hosted, first, second}
use Rattle.ash_durable.specs.Batches.{HostCall, SingleCall, BatchCall, HostResult}
use Rattle.ash_durable.specs.Lives.{StoreEvent, InDoubt, InDoubtBatch, Crashed, UnderHost, OnDisks, Life, Outlives}
use Rattle.ash_durable.specs.Lives.{RecordsCall}

-- the event of a call in which a crash came
abbrev pub doubt_of : ℕ → HostCall → StoreEvent
doubt_of budget (SingleCall request) = InDoubt budget request
doubt_of budget (BatchCall requests) = InDoubtBatch budget requests

-- After a crash in a call nothing but that call is in doubt.
abbrev pub AreDoubts : ℕ → HostCall → List StoreEvent → Type 0
AreDoubts budget call doubts = (doubts ≡ []) ⊎ (doubts ≡ doubt_of budget call ∷ [])

-- A crash comes at any moment of a call, and leaves two disks. The life of the store goes on with these, and all that a
-- crash may leave of them is of states to which the events before the call lead, and then the call, or not.
abbrev pub OutlivesCrashes : {D B : Type 0} → Device D → Ghosts B → ℕ → Reached → List StoreEvent → HostCall
    → Hosted D B → Hosted D B → Type 0
OutlivesCrashes {D} device G budget start events call old new =
    (a b : D)
    → Crashed device (device.clock (first old)) (device.clock (second old)) (first new) (second new) a b
    → (doubts : List StoreEvent) × AreDoubts budget call doubts × Life device G start (doubts ++ events) (OnDisks a b)
    × Outlives device G start (doubts ++ events) (OnDisks a b)

-- Calls of a host in a life with these events, the newest first. Before each call, after the last, and after a crash at
-- any moment of one, all that a crash may leave is of states to which the events lead: those from before, and each
-- answer that the calls so far were given, in order. Of the call in which the crash came there is all or nothing.
abbrev pub AreKept : {D B : Type 0} → Device D → Ghosts B → ℕ → Reached → List StoreEvent → Hosted D B
    → List HostCall → List HostResult → Hosted D B → Type 0
AreKept device G budget start events old [] [] new =
    (new ≡ old) × Outlives device G start events (UnderHost old)
AreKept {D} {B} device G budget start events old (call ∷ calls) (result ∷ results) new =
    Outlives device G start events (UnderHost old)
    × ((next : Hosted D B) × (one : List StoreEvent) × RecordsCall budget call result one
    × OutlivesCrashes device G budget start events call old next
    × AreKept device G budget start (one ++ events) next calls results new)
AreKept device G budget start events old _ _ new = ⊥

-- In every life of the store the answers of these calls are kept.
abbrev pub KeepsAnswers : {D B : Type 0} → Device D → Ghosts B → ℕ → Hosted D B → List HostCall → List HostResult
    → Hosted D B → Type 0
KeepsAnswers device G budget old calls results new =
    (start : Reached) (events : List StoreEvent) → Life device G start events (UnderHost old)
    → AreKept device G budget start events old calls results new
