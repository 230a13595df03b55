-- These definitions say what holds of the disks of one type, and of one disk of it during calls.
use Rattle.std.specs.Prelude.{◌≡◌, ℕ, List}
use Rattle.std.specs.Bool.{IsTrue}
use Rattle.ash_disk.specs.DiskImage.{LeavesOnly}
use Rattle.ash_disk.specs.Moments.{HoldsDuring, EveryMoment}
use Rattle.ash_disk.specs.declared.disk.Disk.{Ghosts}

-- `Device D` is the record of all ghost members of `Disk`: `D.Disk` in a clause under the bound `D: Disk`.
abbrev pub Device : Type 0 → Type 1
Device D = Ghosts D

-- A crash now leaves what a read of the disk gives, and nothing else.
abbrev pub IsDurable : {D : Type 0} → Device D → D → Type 0
IsDurable device disk = LeavesOnly (device.seen disk) (device.leaves disk (device.clock disk))

-- Calls took a disk from old to new, and at each moment of them a crash leaves only images with P.
abbrev pub HoldsThroughout : {D : Type 0} → Device D → D → D → (List ℕ → Type 0) → Type 0
HoldsThroughout device old new P =
    HoldsDuring (device.clock old) (device.clock new) (device.leaves old) (device.leaves new) P

-- R holds of every two images that two disks might have left at two moments, one of each disk, since two earlier times.
abbrev pub EveryMomentSince : {D : Type 0} → Device D → ℕ → ℕ → D → D → (List ℕ → List ℕ → Type 0) → Type 0
EveryMomentSince device a b first second R =
    EveryMoment a (device.clock first) (device.leaves first) b (device.clock second) (device.leaves second) R

-- A disk was only read and synced: it reads as before, and at each moment a crash leaves nothing that it could not
-- leave before.
pub record IsOnlyRead {D : Type 0} (device : Device D) (old new : D) : Type 0 where
  pub honesty : device.honest new ≡ device.honest old
  pub seen : IsTrue (device.honest old) → device.seen new ≡ device.seen old
  pub moments : IsTrue (device.honest old) → HoldsThroughout device old new (device.leaves old (device.clock old))
