-- What is reported of the files of a store.
use Rattle.std.specs.Prelude.{◌≡◌, ℕ, ◌<◌, ◌≤◌, List, Option, length, None, Some, IfSome, slice_set}
use Rattle.ash_journal.specs.Layout.{IsFile, IsClosed, HasMark, LacksMark}
use Rattle.ash_journal.specs.Reading.{AreAt, bodies_of}
use Rattle.ash_journal.specs.Current.{IsOlder}
use Rattle.ash_journal.specs.Opening.{IsUnsound}
use Rattle.ash_inspect.specs.Files.{BeginsWith, FileFaultIs}
use Rattle.ash_inspect.specs.Known.{IsKnown, IsKnownOf, LeadToNone}
use Rattle.ash_image.specs.declared.version.Version.{Version}
use Rattle.ash_image.specs.Snapshots.{Snapshot}
use Rattle.ash_replay.specs.Replay.{IsStateIn}
use Rattle.ash_replay.specs.ReplayFaults.{after_image}
use Rattle.ash_inspect.specs.declared.file_fault.FileFault.TheVariants as faults
use Rattle.ash_inspect.specs.declared.report.Damage.{Damage}
use Rattle.ash_inspect.specs.declared.report.Damage.TheVariants as damages
use Rattle.ash_inspect.specs.declared.report.OpenFile.{OpenFile}
use Rattle.ash_inspect.specs.declared.report.FileReport.{FileReport}
use Rattle.ash_inspect.specs.declared.report.FileReport.TheVariants as reports
use Rattle.ash_inspect.specs.declared.store.Current.{Current}
use Rattle.ash_inspect.specs.declared.store.Current.TheVariants as current
use Rattle.ash_inspect.specs.declared.store.Side.TheVariants.{First, Second}
use Rattle.ash_inspect.specs.declared.reading.Reading.{Reading}
use Rattle.ash_inspect.specs.declared.known.KnownState.{KnownState}

-- The state that is known is the one to which all records of the file lead, up to a gate that is not open.
pub record IsWholly (o : OpenFile) (image : List ℕ) (bodies : List (List ℕ)) (file : List ℕ) : Type 0 where
  pub is_file : IsFile o.generation image bodies file
  pub known : KnownState
  pub is_known : o.known ≡ Some known
  pub all : known.records ≡ length bodies

-- the damage is there: the file is cut short, or its image and its whole records lead to no state
abbrev pub DamageIs : Damage → List ℕ → List ℕ → List (List ℕ) → Type 0
DamageIs damages.NoImage file image bodies = LeadToNone image bodies
DamageIs (damages.CutShort at) file image bodies = FileFaultIs (faults.Damaged at) file
DamageIs (damages.LeadsNowhere at) file image bodies = LeadToNone image bodies

-- The file begins with the generation that is reported, and its whole records. The state that is known is the one to
-- which the first of them lead. If no damage is reported, these are all of its records, and the file is whole. Damage
-- that is reported is there.
pub record IsOpenFile (o : OpenFile) (file : List ℕ) : Type 0 where
  pub image : List ℕ
  pub bodies : List (List ℕ)
  pub begins : BeginsWith o.generation image bodies file
  pub count : o.records ≡ length bodies
  pub known : IfSome o.known (λ k. IsKnown k image bodies)
  pub whole : o.damage ≡ None → IsWholly o image bodies file
  pub damage : IfSome o.damage (λ d. DamageIs d file image bodies)

-- Nothing is wrong with what was read, of which this state is known.
pub record IsSound (reading : Reading) (found : Option KnownState) : Type 0 where
  pub state : KnownState
  pub is_found : found ≡ Some state
  pub all : length reading.generation.records.items ≤ state.records
  pub to_the_end : reading.cut ≡ None

-- where damage was found in what was read, of which this state is known
abbrev pub IsFound : Damage → Reading → Option KnownState → Type 0
IsFound damages.NoImage reading found = found ≡ None
IsFound (damages.CutShort at) reading found = reading.cut ≡ Some at
IsFound (damages.LeadsNowhere at) reading found =
    (known : KnownState) × (found ≡ Some known) × (known.records < length reading.generation.records.items)

-- what was read of an open file is what is reported of it
pub record IsReported (o : OpenFile) (reading : Reading) : Type 0 where
  pub generation : o.generation ≡ reading.generation.number
  pub count : o.records ≡ length reading.generation.records.items
  pub known : IfSome o.known
      (λ k. IsKnown k reading.generation.image.items (bodies_of reading.generation.records.items))
  pub sound : o.damage ≡ None → IsSound reading o.known
  pub found : IfSome o.damage (λ d. IsFound d reading o.known)
  pub all : (version : Version) (s : Snapshot)
      → AreAt (after_image reading.generation.image.items) reading.generation.records.items
      → IsStateIn version (reading.generation.image.items, bodies_of reading.generation.records.items) s
      → IsKnownOf (length reading.generation.records.items) o.known

-- what is reported of a file is what it holds
abbrev pub IsReport : FileReport → List ℕ → Type 0
IsReport (reports.Closed behind) file = IsClosed file × IfSome behind (λ o. IsOpenFile o (slice_set file 0 1))
IsReport reports.Unmarked file = LacksMark file
IsReport (reports.NoImage generation) file = HasMark generation file
IsReport (reports.Open o) file = HasMark o.generation file × IsOpenFile o file

-- one of two files has a mark, and the other is closed or older
abbrev pub IsNewer : List ℕ → List ℕ → Type 0
IsNewer current other = (generation : ℕ) × HasMark generation current × IsOlder generation other

-- which of two files is current
abbrev pub IsCurrentSide : Current → List ℕ → List ℕ → Type 0
IsCurrentSide (current.Is First) first second = IsNewer first second
IsCurrentSide (current.Is Second) first second = IsNewer second first
IsCurrentSide current.None first second = IsClosed first × IsClosed second
IsCurrentSide current.Unclear first second = IsUnsound first second
