-- These definitions say what one disk holds before and while a gate is written.
use Rattle.std.specs.Prelude.{◌≡◌, ◌⊎◌, ℕ, ◌≤◌, Bool, true, false, IsTrue, List, [], ◌∷◌, ◌++◌, length, drop}
use Rattle.ash_disk.specs.Device.{Device, IsDurable, HoldsThroughout}
use Rattle.ash_disk.specs.DiskImage.{Torn}
use Rattle.ash_journal.specs.Layout.{mark, block, IsShut}

-- The disk is honest, its file is all on the device, and the file has these bytes before an offset and these from it
-- on.
pub record IsSplit {D : Type 0} (device : Device D) (disk : D) (at : ℕ) (prefix suffix : List ℕ) : Type 0 where
  pub honest_disk : IsTrue (device.honest disk)
  pub long : length prefix ≡ at
  pub bytes : device.seen disk ≡ prefix ++ suffix
  pub durable : IsDurable device disk

-- The disk's file is these bytes, and all of it is on the device.
pub record IsOn {D : Type 0} (device : Device D) (disk : D) (file : List ℕ) : Type 0 where
  pub bytes : device.seen disk ≡ file
  pub durable : IsDurable device disk

-- No byte of the disk was written but the one at an offset: every other byte reads as before, and at each moment a
-- crash leaves it as it was.
pub record WritesByte {D : Type 0} (device : Device D) (at : ℕ) (old new : D) : Type 0 where
  pub seen : Torn at 1 (device.seen old) (device.seen new)
  pub moments : HoldsThroughout device old new (Torn at 1 (device.seen old))

-- `WhileShut prefix suffix image` says what a crash may leave while 0 is written over a gate.
abbrev pub WhileShut : List ℕ → List ℕ → List ℕ → Type 0
WhileShut prefix suffix image = (image ≡ prefix ++ suffix) ⊎ ((gate : ℕ) × (image ≡ prefix ++ gate ∷ drop 1 suffix))

-- `WhileCommitted prefix bytes suffix image` says what a crash may leave while bytes are written after a gate that is
-- 0, and then 1 over the gate: until the bytes are on the device the gate is 0, and while the gate is written they are
-- whole after it.
abbrev pub WhileCommitted : List ℕ → List ℕ → List ℕ → List ℕ → Type 0
WhileCommitted prefix bytes suffix image =
    ((rest : List ℕ) × (image ≡ prefix ++ 0 ∷ rest))
    ⊎ ((gate : ℕ) × (image ≡ prefix ++ gate ∷ (bytes ++ drop (length bytes) suffix)))

-- `repaired stray suffix` is these bytes, with 0 for the first of them where it is stray.
abbrev pub repaired : Bool → List ℕ → List ℕ
repaired true suffix = 0 ∷ drop 1 suffix
repaired false suffix = suffix

-- `WhileRepaired stray prefix suffix image` says what a crash may leave while a gate is repaired where it is stray.
abbrev pub WhileRepaired : Bool → List ℕ → List ℕ → List ℕ → Type 0
WhileRepaired stray prefix suffix image =
    (image ≡ prefix ++ suffix) ⊎ ((stray ≡ true) × (gate : ℕ) × (image ≡ prefix ++ gate ∷ drop 1 suffix))

-- `WhileReplaced is_open bytes file image` says what a crash may leave while bytes replace those of a file.
abbrev pub WhileReplaced : Bool → List ℕ → List ℕ → List ℕ → Type 0
WhileReplaced is_open bytes file image =
    WhileRepaired is_open [] file image ⊎ WhileCommitted [] bytes (drop 1 file) image

-- The file has at most one byte, or its first gate is 0: it was never in use, or no longer is.
abbrev pub IsUnused : List ℕ → Type 0
IsUnused file = (length file ≤ 1) ⊎ IsShut file

-- All images that a crash may leave have at most one byte, or all have 0 for their first gate.
abbrev pub AreUnused : (List ℕ → Type 0) → Type 0
AreUnused images = ((image : List ℕ) → images image → length image ≤ 1)
    ⊎ ((image : List ℕ) → images image → IsShut image)

-- The disk has been unused since an earlier time: at each moment of it, up to now, all images that a crash might have
-- left have at most one byte, or all have 0 for their first gate.
pub record WasUnused {D : Type 0} (device : Device D) (since : ℕ) (disk : D) : Type 0 where
  pub began : since ≤ device.clock disk
  pub idle : (time : ℕ) → since ≤ time → time ≤ device.clock disk → AreUnused (device.leaves disk time)

-- `WhileStarted bytes file image` says what a crash may leave while bytes are written to a file that was unused.
abbrev pub WhileStarted : List ℕ → List ℕ → List ℕ → Type 0
WhileStarted bytes file image = IsUnused image ⊎ WhileCommitted [] bytes (drop 1 file) image

-- `WhileCreated image file` says what a crash may leave of the first file while a journal is created.
abbrev pub WhileCreated : List ℕ → List ℕ → Type 0
WhileCreated image file =
    IsUnused file ⊎ ((gate : ℕ) × (rest : List ℕ) × (file ≡ gate ∷ (mark 1 ++ (block image ++ 0 ∷ rest))))
