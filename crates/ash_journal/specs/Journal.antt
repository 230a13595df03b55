-- These definitions say what a journal shows, and what its files hold.
use Rattle.std.specs.Prelude.{◌≡◌, ◌≢◌, ◌^◌, ℕ, Bool, true, false, IsTrue, List, ◌∷◌, ◌++◌, length}
use Rattle.ash_disk.specs.Device.{Device, IsDurable}
use Rattle.ash_journal.specs.declared.journal.Journal.{Journal}
use Rattle.ash_journal.specs.declared.other_state.OtherState.{OtherState}
use Rattle.ash_journal.specs.declared.other_state.OtherState.TheVariants.{Shut, Older}
use Rattle.ash_journal.specs.JournalFailures.{CountsFailuresOf}
use Rattle.ash_journal.specs.Layout.{committed_bytes, records, FieldsFit}
use Rattle.ash_journal.specs.Current.{IsContents}
use Rattle.ash_journal.specs.OtherState.{first_of, second_of, is_stray, OtherIs}
use Rattle.ash_journal.specs.SettledSince.{HoldsSince}
use Rattle.ash_journal.specs.Writes.{WritesByte}

-- `first_disk j` is the disk that was handed over first.
abbrev pub first_disk : {D : Type 0} → Journal D → D
first_disk j = first_of j.swapped j.current j.other

-- `second_disk j` is the disk that was handed over second.
abbrev pub second_disk : {D : Type 0} → Journal D → D
second_disk j = second_of j.swapped j.current j.other

-- The first disk stays as it was where it is the current one, else the second does.
abbrev pub LeavesCurrentOf : {D : Type 0} → Bool → D → D → D → D → Type 0
LeavesCurrentOf false first second first_after second_after = first_after ≡ first
LeavesCurrentOf true first second first_after second_after = second_after ≡ second

-- The disk that is not current stays as it was.
abbrev pub LeavesOtherOf : {D : Type 0} → Bool → D → D → D → D → Type 0
LeavesOtherOf false first second first_after second_after = second_after ≡ second
LeavesOtherOf true first second first_after second_after = first_after ≡ first

-- `current_disk j` is the disk that holds the current file.
abbrev pub current_disk : {D : Type 0} → Journal D → D
current_disk j = j.current

-- `generation j` is the number of the current generation.
abbrev pub generation : {D : Type 0} → Journal D → ℕ
generation j = j.generation

-- `record_bytes j` is how many bytes the open records take: their lengths, bodies and gates.
abbrev pub record_bytes : {D : Type 0} → Journal D → ℕ
record_bytes j = j.record_bytes

-- A record is added only where the open records take fewer bytes than `record_bytes_limit`.
abbrev pub record_bytes_limit : ℕ
record_bytes_limit = 2 ^ 62

-- The gate after the last open record is 0, or it is stray and still to be written over.
abbrev pub EndIs : Bool → ℕ → Type 0
EndIs false gate = gate ≡ 0
EndIs true gate = gate ≢ 0

-- No gate is to be written over.
abbrev pub NeedsNoRepair : Bool → OtherState → Type 0
NeedsNoRepair false Shut = Unit {0}
NeedsNoRepair false Older = Unit {0}
NeedsNoRepair _ _ = ⊥

-- Two honest disks hold this image and these records, all of it is on the devices, and a journal knows what it needs of
-- them.
pub record FilesAre {D : Type 0} (device : Device D) (number end size : ℕ) (stray : Bool) (other_state : OtherState)
    (current other : D) (image : List ℕ) (bodies : List (List ℕ)) : Type 0 where
  pub current_honest : IsTrue (device.honest current)
  pub other_honest : IsTrue (device.honest other)
  pub gate : ℕ
  pub after : List ℕ
  pub shut : gate ≢ 1
  pub bytes : device.seen current ≡ committed_bytes number image bodies ++ gate ∷ after
  pub fits : FieldsFit number image bodies
  pub end_is : end ≡ length (committed_bytes number image bodies)
  pub size_is : size ≡ length (records bodies)
  pub gate_is : EndIs stray gate
  pub other_is : OtherIs other_state number (device.seen other)
  pub current_durable : IsDurable device current
  pub other_durable : IsDurable device other

-- The files hold this image and these records, as `open` finds them: gates may have to be repaired.
abbrev pub HoldsBeforeRepair : {D : Type 0} → Device D → Journal D → List ℕ → List (List ℕ) → Type 0
HoldsBeforeRepair device j image bodies =
    FilesAre device j.generation j.end j.record_bytes j.stray j.other_state j.current j.other image bodies

-- No gate of a journal's files is to be written over.
abbrev pub IsRepaired : {D : Type 0} → Journal D → Type 0
IsRepaired j = NeedsNoRepair j.stray j.other_state

-- A device failed in a call of the journal, so that it must be opened again.
abbrev pub HasFailed : {D : Type 0} → Journal D → Type 0
HasFailed j = j.failed ≡ true

-- Records and generations may be written: no call of the journal has failed, and no gate is to be written over.
pub record IsReady {D : Type 0} (j : Journal D) : Type 0 where
  pub sound : j.failed ≡ false
  pub repaired : IsRepaired j

-- The files hold this image and these records, no gate is to be written over, and the files settle on these contents
-- alone.
pub record Holds {D : Type 0} (device : Device D) (j : Journal D) (image : List ℕ)
    (bodies : List (List ℕ)) : Type 0 where
  pub files : HoldsBeforeRepair device j image bodies
  pub repaired : IsRepaired j
  pub run : HoldsSince device (device.clock (first_disk j)) (device.clock (second_disk j)) (first_disk j)
      (second_disk j)
      (IsContents (image, bodies))

-- The disk that holds the current file stays as it was.
abbrev pub LeavesCurrent : {D : Type 0} → Journal D → Journal D → Type 0
LeavesCurrent old new =
    LeavesCurrentOf old.swapped (first_disk old) (second_disk old) (first_disk new) (second_disk new)

-- The disk that does not hold the current file stays as it was.
abbrev pub LeavesOther : {D : Type 0} → Journal D → Journal D → Type 0
LeavesOther old new = LeavesOtherOf old.swapped (first_disk old) (second_disk old) (first_disk new) (second_disk new)

-- A disk of which no gate is to be written over stays as it was.
abbrev pub LeavesRepaired : {D : Type 0} → Journal D → Journal D → Type 0
LeavesRepaired old new =
    (old.stray ≡ false → LeavesCurrent old new) × (is_stray old.other_state ≡ false → LeavesOther old new)

-- The counts of a journal's disks rose where a device failed, and did not change elsewhere.
abbrev pub CountsFailuresIn : {D : Type 0} → Device D → Type 0 → Journal D → Journal D → Type 0
CountsFailuresIn device failed old new =
    CountsFailuresOf device failed (first_disk old) (second_disk old) (first_disk new) (second_disk new)

-- Nothing was written to a journal's disks but the gates that a repair writes over: of the current file the one after
-- its last open record, and of the other its first.
pub record WritesGates {D : Type 0} (device : Device D) (old new : Journal D) : Type 0 where
  pub in_first : WritesByte device (first_of old.swapped old.end 0) (first_disk old) (first_disk new)
  pub in_second : WritesByte device (second_of old.swapped old.end 0) (second_disk old) (second_disk new)
