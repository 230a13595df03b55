-- These definitions say what is read of a file.
use Rattle.std.specs.Prelude.{◌≡◌, ◌≢◌, ℕ, ◌+◌, ◌<◌, ◌≤◌, Bool, true, false, List, [], ◌∷◌, ◌++◌, length, map}
use Rattle.std.specs.Prelude.{Result, IfErr}
use Rattle.ash_disk.specs.Failures.{Rose}
use Rattle.ash_journal.specs.declared.one_file.FileHeader.{FileHeader}
use Rattle.ash_journal.specs.declared.one_file.FileHeader.TheVariants.{Closed, Unmarked, Marked}
use Rattle.ash_journal.specs.declared.record.Record.{Record}
use Rattle.ash_journal.specs.declared.error.OpenFault.{OpenFault}
use Rattle.ash_journal.specs.declared.error.OpenFault.TheVariants.{DeviceFailed, NoGeneration, Damaged, NoMemory}
use Rattle.ash_journal.specs.Layout.{block, header_size, length_limit, committed_bytes, FieldsFit, IsClosed, IsShut, IsDamagedAt, HasMark}
use Rattle.ash_journal.specs.Layout.{LacksMark}

-- The first gate is 0, or it is not.
abbrev pub ShutIs : Bool → List ℕ → Type 0
ShutIs true file = IsShut file
ShutIs false file = IsShut file → ⊥

-- The file has this header.
abbrev pub HeaderIs : FileHeader → List ℕ → Type 0
HeaderIs (Closed gate) file = IsClosed file × ShutIs gate.shut file
HeaderIs Unmarked file = LacksMark file
HeaderIs (Marked generation) file = HasMark generation file

-- The count of a device does not fall: where the answer is that it failed, the count rose, and where it is another, the
-- count did not.
pub record Counts (failed : Type 0) (before after : ℕ) : Type 0 where
  pub never_falls : before ≤ after
  pub counted : failed → Rose before after
  pub none : (failed → ⊥) → after ≡ before

-- The bytes begin with the block of this body and this gate.
abbrev pub IsFileBlock : List ℕ → ℕ → List ℕ → Type 0
IsFileBlock body gate bytes = (length body < length_limit) × (more : List ℕ) × (bytes ≡ block body ++ gate ∷ more)

-- `bodies_of found` are the bodies of records.
abbrev pub bodies_of : List Record → List (List ℕ)
bodies_of found = map (λ r. r.body.items) found

-- The gates before records follow one another, from an offset on.
abbrev pub AreAt : ℕ → List Record → Type 0
AreAt at [] = Unit {0}
AreAt at (r ∷ found) = (r.gate ≡ at) × AreAt (at + 5 + length r.body.items) found

-- The file is read up to a gate: its records from the first gate after its image on, and that gate.
pub record IsReadTo (generation : ℕ) (image : List ℕ) (found : List Record) (end : ℕ) (gate : ℕ)
    (file : List ℕ) : Type 0 where
  pub after : List ℕ
  pub bytes : file ≡ committed_bytes generation image (bodies_of found) ++ gate ∷ after
  pub fits : FieldsFit generation image (bodies_of found)
  pub end_is : end ≡ length (committed_bytes generation image (bodies_of found))
  pub placed : AreAt (header_size + length image) found

-- The file is read whole, up to a gate that is not open.
abbrev pub IsFileRead : ℕ → List ℕ → List Record → ℕ → ℕ → List ℕ → Type 0
IsFileRead generation image found end gate file = IsReadTo generation image found end gate file × (gate ≢ 1)

-- `IsFileFault fault file` says what a current file is like where a fault is reported as it is read.
abbrev pub IsFileFault : OpenFault → List ℕ → Type 0
IsFileFault DeviceFailed file = Unit {0}
IsFileFault NoMemory file = Unit {0}
IsFileFault NoGeneration file = ⊥
IsFileFault (Damaged at) file = IsDamagedAt at file

-- The fault is a failure of the device, or that memory ran out.
abbrev pub IsUnread : OpenFault → Type 0
IsUnread DeviceFailed = Unit {0}
IsUnread NoMemory = Unit {0}
IsUnread _ = ⊥

-- No fault is reported but a failure of the device, or that memory ran out.
abbrev pub IsFailure : {T : Type 0} → Result T OpenFault → Type 0
IsFailure result = IfErr result IsUnread
