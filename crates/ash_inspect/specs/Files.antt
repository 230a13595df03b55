-- What is said of a file.
use Rattle.std.specs.Prelude.{◌≡◌, ◌⊎◌, ℕ, List, ◌∷◌, ◌++◌}
use Rattle.ash_journal.specs.Layout.{mark, committed_bytes, FieldsFit, IsClosed, HasMark, LacksMark, IsDamagedAt}
use Rattle.ash_inspect.specs.declared.header.Header.{Header}
use Rattle.ash_inspect.specs.declared.header.Header.TheVariants.{Closed, Unmarked, Marked}
use Rattle.ash_inspect.specs.declared.file_fault.FileFault.{FileFault}
use Rattle.ash_inspect.specs.declared.file_fault.FileFault.TheVariants as faults

-- the file has this header
abbrev pub HeaderIs : Header → List ℕ → Type 0
HeaderIs Closed file = IsClosed file
HeaderIs Unmarked file = LacksMark file
HeaderIs (Marked generation) file = HasMark generation file

-- after its first byte, whatever that is, the file has the mark of this generation
abbrev pub IsMarkedBehind : ℕ → List ℕ → Type 0
IsMarkedBehind generation file = (gate : ℕ) × (rest : List ℕ) × (file ≡ gate ∷ (mark generation ++ rest))

-- why no generation is read of the file
abbrev pub FileFaultIs : FileFault → List ℕ → Type 0
FileFaultIs faults.Closed file = IsClosed file
FileFaultIs (faults.Damaged at) file = (LacksMark file × (at ≡ 0)) ⊎ IsDamagedAt at file
FileFaultIs faults.NoMemory file = Unit {0}

-- The file begins with a generation's image and these records.
pub record BeginsWith (generation : ℕ) (image : List ℕ) (bodies : List (List ℕ)) (file : List ℕ) : Type 0 where
  pub fits : FieldsFit generation image bodies
  pub rest : List ℕ
  pub bytes : file ≡ committed_bytes generation image bodies ++ rest
