-- These definitions say what a journal has of two disks, and where it writes on them.
use Rattle.std.specs.Prelude.{◌≡◌, ℕ, ◌+◌, ◌<◌, ◌≤◌, ◌^◌, Bool, IsTrue, length}
use Rattle.ash_disk.specs.Device.{Device}
use Rattle.ash_journal.specs.declared.other_state.OtherState.{OtherState}
use Rattle.ash_journal.specs.declared.other_state.OtherState.TheVariants.{Shut}

-- The disks of a journal, and what it knows of them.
pub record JournalFields (D : Type 0) : Type 0 where
  pub current : D
  pub other : D
  pub swapped : Bool
  pub generation : ℕ
  pub end : ℕ
  pub record_bytes : ℕ
  pub stray : Bool
  pub other_state : OtherState
  pub failed : Bool

-- The gate at the end of the current file is within it if its disk is honest, and so is the first gate of the other if
-- that is shut. So every write of a journal begins at most at the end of the file.
pub record IsPlaced {D : Type 0} (device : Device D) (end size : ℕ) (other_state : OtherState) (current other : D)
    : Type 0 where
  pub within : end ≤ size + 2 ^ 33
  pub current_inside : IsTrue (device.honest current) → end < length (device.seen current)
  pub other_inside : other_state ≡ Shut → IsTrue (device.honest other) → 0 < length (device.seen other)
