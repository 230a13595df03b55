-- What the parts of a request do to a host.
use Rattle.std.specs.Prelude.{◌≡◌, ℕ, List, Some, None, Result, Ok, Err, OnOk}
use Rattle.ash_disk.specs.Device.{Device}
use Rattle.ash_journal.specs.JournalFailures.{CountsFailures}
use Rattle.ash_journal.specs.Journal.{LeavesOther}
use Rattle.ash_requests.specs.Requests.{Request}
use Rattle.ash_states.specs.HostStates.{HostState}
use Rattle.ash_engine.specs.LiveStates.{LiveState}
use Rattle.ash_image.specs.declared.version.Version.TheVariants.{Two}
use Rattle.ash_replay.specs.ReplayedStates.{IsBodyBetween}
use Rattle.ash_durable.specs.StoredStates.{HoldsState, ExtendsHistory}
use Rattle.ash_durable.specs.Saving.{HostRefusal, FailsBy, HasRecord, HasOneMore, IsBefore}
use Rattle.ash_durable.specs.Hosting.{Hosted, first, second, IsRunning, IsFull, MayAdd, WantsInstall, Settles}
use Rattle.ash_durable.specs.Hosting.{WasInstalled, InstallRefused, WasLost}
use Rattle.ash_durable.specs.HostReplies.{refused_by}

-- a call counted the failures of a host's disks, changed neither their honesty nor what is registered
pub record PreservesDisks {D B T : Type 0} (device : Device D) (old : Hosted D B) (result : Result T HostRefusal)
    (new : Hosted D B) : Type 0 where
  pub failures : CountsFailures (FailsBy result) (device.failures (first old)) (device.failures (second old))
      (device.failures (first new)) (device.failures (second new))
  pub honesty_first : device.honest (first new) ≡ device.honest (first old)
  pub honesty_second : device.honest (second new) ≡ device.honest (second old)
  pub registered : new.registered ≡ old.registered

-- what came of a new generation that was to hold the state of a host that runs
abbrev pub InstallsInto : {D B : Type 0} → Device D → HostState → Hosted D B → Result (Unit {0}) HostRefusal
    → Hosted D B
    → Type 0
InstallsInto device state old (Ok done) new = WasInstalled device state old new
InstallsInto device state old (Err refusal) new = InstallRefused old (refused_by refusal) new

-- A new generation was to hold the state of a host that runs.
pub record TriesInstall {D B : Type 0} (device : Device D) (old : Hosted D B) (result : Result (Unit {0}) HostRefusal)
    (new : Hosted D B) : Type 0 where
  pub installs : (state : HostState) → IsRunning state old → InstallsInto device state old result new
      × Settles device state state old new
  pub disks : PreservesDisks device old result new

-- Room was to be made for a request of a host that runs: a new generation is installed where one is wanted.
pub record MakesRoom {D B : Type 0} (device : Device D) (request : Request) (old : Hosted D B)
    (result : Result (Unit {0}) HostRefusal) (new : Hosted D B) : Type 0 where
  pub runs : (live : LiveState B) → old.live ≡ Some live → IsRunning live.durable old
  pub enough : (state : HostState) → IsRunning state old → (WantsInstall request old → ⊥)
      → (result ≡ Ok tt) × (new ≡ old)
  pub wanted : (state : HostState) → IsRunning state old → WantsInstall request old → TriesInstall device old result new
  pub room : OnOk result (MayAdd request → IsFull new → ⊥)
  pub disks : PreservesDisks device old result new

-- what came of one record more that was to hold what a request changed
abbrev pub CommitsWith : {D B : Type 0} → Device D → ℕ → LiveState B → Hosted D B → Result (Unit {0}) HostRefusal
    → Hosted D B
    → Type 0
CommitsWith device seq live old (Ok done) new =
    IsRunning live.durable new × (new.live ≡ old.live) × HasOneMore device live old.journal new.journal
    × LeavesOther old.journal new.journal
CommitsWith device seq live old (Err refusal) new =
    (new.live ≡ None) × (new.seq ≡ seq) × WasLost old.journal (refused_by refusal) new.journal

-- The state of a host, which a request has changed, was to be stored before the answer is returned, beside the one
-- before it that the files held.
pub record Commits {D B : Type 0} (device : Device D) (seq : ℕ) (old : Hosted D B)
    (result : Result (Unit {0}) HostRefusal)
    (new : Hosted D B) : Type 0 where
  pub outcome : (live : LiveState B) → old.live ≡ Some live → CommitsWith device seq live old result new
  pub holds : OnOk result ((before : HostState) (live : LiveState B) → old.live ≡ Some live → IsBefore live before
      → HoldsState device before old.journal → HoldsState device live.durable new.journal)
  pub moments : (before : HostState) (live : LiveState B) → old.live ≡ Some live → IsBefore live before
      → HoldsState device before old.journal → ExtendsHistory device before live.durable old.journal new.journal
  pub disks : PreservesDisks device old result new

-- what came of a record with this body that was to be added
abbrev pub CommitsRecordWith : {D B : Type 0} → Device D → ℕ → List ℕ → LiveState B → Hosted D B
    → Result (Unit {0}) HostRefusal → Hosted D B → Type 0
CommitsRecordWith device seq body live old (Ok done) new =
    IsRunning live.durable new × (new.live ≡ old.live)
    × HasRecord device (λ other. other ≡ body) old.journal new.journal × LeavesOther old.journal new.journal
CommitsRecordWith device seq body live old (Err refusal) new =
    (new.live ≡ None) × (new.seq ≡ seq) × WasLost old.journal (refused_by refusal) new.journal

-- A record with this body was to be added, before what it has is answered. If the body leads from the state that the
-- files held to another, they then hold that one.
pub record CommitsRecord {D B : Type 0} (device : Device D) (seq : ℕ) (body : List ℕ) (old : Hosted D B)
    (result : Result (Unit {0}) HostRefusal) (new : Hosted D B) : Type 0 where
  pub outcome : (live : LiveState B) → old.live ≡ Some live → CommitsRecordWith device seq body live old result new
  pub holds : OnOk result ((before after : HostState) → IsBodyBetween Two body before after
      → HoldsState device before old.journal → HoldsState device after new.journal)
  pub moments : (before after : HostState) → IsBodyBetween Two body before after
      → HoldsState device before old.journal → ExtendsHistory device before after old.journal new.journal
  pub disks : PreservesDisks device old result new
