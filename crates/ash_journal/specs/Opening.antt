-- These definitions say what is read of two files.
use Rattle.std.specs.Prelude.{◌≡◌, ◌⊎◌, ℕ, List, []}
use Rattle.ash_journal.specs.declared.error.OpenFault.{OpenFault}
use Rattle.ash_journal.specs.declared.error.OpenFault.TheVariants.{DeviceFailed, NoGeneration, Damaged, NoMemory}
use Rattle.ash_journal.specs.declared.error.CreateFault.{CreateFault}
use Rattle.ash_journal.specs.declared.error.CreateFault.TheVariants as reasons
use Rattle.ash_journal.specs.declared.two_files.Choice.{Choice}
use Rattle.ash_journal.specs.declared.two_files.Headers.{Headers}
use Rattle.ash_journal.specs.declared.one_file.CurrentFile.{CurrentFile}
use Rattle.ash_journal.specs.OtherState.{first_of, second_of, OtherIs}
use Rattle.ash_journal.specs.Current.{IsContents, IsOlder, SettleOn}
use Rattle.ash_journal.specs.Layout.{IsOpen, IsClosed, IsDamagedAt, HasMark, LacksMark}
use Rattle.ash_journal.specs.Reading.{HeaderIs, IsFileRead}

-- One of two files is open and has no generation, or both are open with one number.
abbrev pub IsUnsound : List ℕ → List ℕ → Type 0
IsUnsound first second =
    LacksMark first ⊎ LacksMark second ⊎ ((generation : ℕ) × HasMark generation first × HasMark generation second)

-- The first file is current, and it is damaged at this offset.
abbrev pub IsDamagedCurrent : ℕ → List ℕ → List ℕ → Type 0
IsDamagedCurrent at current other =
    (generation : ℕ) × HasMark generation current × IsOlder generation other × IsDamagedAt at current

-- One of two files has a mark, and the other is closed or older.
abbrev pub HasCurrent : List ℕ → List ℕ → Type 0
HasCurrent first second =
    ((generation : ℕ) × HasMark generation first × IsOlder generation second)
    ⊎ ((generation : ℕ) × HasMark generation second × IsOlder generation first)

-- `FaultIs fault first second` says that two files have this fault.
abbrev pub FaultIs : OpenFault → List ℕ → List ℕ → Type 0
FaultIs DeviceFailed first second = Unit {0}
FaultIs NoMemory first second = HasCurrent first second
FaultIs NoGeneration first second = IsClosed first × IsClosed second
FaultIs (Damaged at) first second =
    (IsUnsound first second × (at ≡ 0)) ⊎ (IsDamagedCurrent at first second ⊎ IsDamagedCurrent at second first)

-- The choice names the current file, and it has the state of the other.
abbrev pub ChoiceIs : Choice → List ℕ → List ℕ → Type 0
ChoiceIs choice first second =
    HasMark choice.generation (first_of choice.swapped first second)
    × OtherIs choice.other_state choice.generation (second_of choice.swapped first second)

-- This is the current of two files as it was read, and the choice has the state of the other.
abbrev pub ContentsAre : Choice → CurrentFile → List ℕ → List ℕ → Type 0
ContentsAre choice current_file first second =
    IsFileRead choice.generation current_file.image.items current_file.tail.records.items current_file.tail.end
    current_file.tail.gate (first_of choice.swapped first second)
    × OtherIs choice.other_state choice.generation (second_of choice.swapped first second)

-- These are the headers of two files.
pub record HeadersAre (headers : Headers) (first second : List ℕ) : Type 0 where
  pub first_header : HeaderIs headers.first first
  pub second_header : HeaderIs headers.second second

-- `CreateFaultIs fault first second unchanged` says why no journal was created, and what that leaves: a file was open,
-- or none was and memory ran out; but for a failure of the device, nothing is written.
abbrev pub CreateFaultIs : CreateFault → List ℕ → List ℕ → Type 0 → Type 0
CreateFaultIs reasons.DeviceFailed first second unchanged = Unit {0}
CreateFaultIs reasons.AlreadyThere first second unchanged = (IsOpen first ⊎ IsOpen second) × unchanged
CreateFaultIs reasons.NoMemory first second unchanged = (IsClosed first × IsClosed second) × unchanged

-- No file is open, or the two settle on this image with no records.
abbrev pub IsCreatedOrClosed : List ℕ → List ℕ → List ℕ → Type 0
IsCreatedOrClosed image first second =
    (IsClosed first × IsClosed second) ⊎ SettleOn (IsContents (image, [])) first second
