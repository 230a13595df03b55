-- Checking a script: its bytes are read and judged, and the verdict is written.
use Rattle.std.specs.Prelude.{◌≡◌, ◌<◌, ◌⊎◌, ℕ, List, [], ◌∷◌, ◌++◌, length, codes, Option, Some, None, option_map}
use Rattle.std.specs.Prelude.{Result, Ok, Err, IfSome}
use Rattle.std.specs.Io.KnownBytes.{Appends, Keeps}
use Rattle.ash_registry.specs.AcceptedRegistrations.{Registration}
use Rattle.ash_sources.specs.declared.fault.SourceFault as code
use Rattle.ash_sources.specs.SourceFaults.{SourceFault, fault_of, TakesMemoryFor}
use Rattle.ash_sources.specs.CheckedSource.{SourceResult, checked_source}
use Rattle.ash_lines.specs.Source.{Feed, Faults}
use Rattle.ash_lines.specs.Sink.{Outlet, WritesAll, FailsPartway}
use Rattle.ash_lines.specs.Reading.{max_prefix_bytes, source_prefix}
use Rattle.ash_lines.specs.RefusalTexts.{fault_text}
use Rattle.ash_lines.specs.declared.source.ReadFault.TheVariants as read_faults
use Rattle.ash_serve.specs.declared.fault.RunFault.TheVariants as faults
use Rattle.ash_serve.specs.declared.program.ending.ProgramEnd.{ProgramEnd}
use Rattle.ash_serve.specs.declared.program.ending.Ending.{Ending}
use Rattle.ash_serve.specs.declared.program.ending.Ending.TheVariants as endings
use Rattle.ash_serve.specs.declared.program.fault.ProgramFault.{ProgramFault}
use Rattle.ash_serve.specs.declared.program.fault.ProgramFault.TheVariants as program

-- the text of the verdict on a script: `ok`, or its refusal as the reply to a `load` has it
abbrev pub verdict_text : Option SourceFault → List ℕ
verdict_text None = codes "ok"
verdict_text (Some fault) = fault_text fault

-- the verdict as a line
abbrev pub verdict_line : Option SourceFault → List ℕ
verdict_line verdict = verdict_text verdict ++ 10 ∷ []

-- how the program ends by the verdict
abbrev pub ending_of : Option SourceFault → Ending
ending_of None = endings.Well
ending_of (Some fault) = endings.Refused

-- what the code's verdict represents
abbrev pub verdict_of : Option code.SourceFault → Option SourceFault
verdict_of verdict = option_map fault_of verdict

-- why a source is refused, if it is
abbrev pub fault_in : SourceResult → Option SourceFault
fault_in (Ok items) = None
fault_in (Err fault) = Some fault

abbrev pub verdict_on : List Registration → List ℕ → Option SourceFault
verdict_on registered source = fault_in (checked_source registered source)

-- It may take memory to judge any source but one that is too long.
abbrev pub MayTakeMemoryToCheck : List Registration → List ℕ → Type 0
MayTakeMemoryToCheck registered source = TakesMemoryFor (checked_source registered source)

-- Judging a source gave why it is refused, if it is, or there was no memory.
abbrev pub Judges : List Registration → List ℕ → Result (Option code.SourceFault) ProgramFault → Type 0
Judges registered source (Ok verdict) = verdict_of verdict ≡ verdict_on registered source
Judges registered source (Err program.NoMemory) = MayTakeMemoryToCheck registered source
Judges registered source (Err _) = ⊥

-- The verdict was written, and this is how the program ends by it; or a write failed.
abbrev pub WritesVerdict : {K : Type 0} → Outlet K → K → Option SourceFault → Result Ending ProgramFault → K
    → Type 0
WritesVerdict outlet old verdict (Ok ending) new =
    (ending ≡ ending_of verdict) × WritesAll outlet old (verdict_line verdict) new
WritesVerdict outlet old verdict (Err (program.Run faults.Write)) new =
    FailsPartway outlet old (verdict_line verdict) new
WritesVerdict outlet old verdict (Err _) new = ⊥

-- A script was read: all that a source gives, or the first 65,537 bytes, by which it is seen to be too long.
abbrev pub ReadsScript : {S : Type 0} → Feed S → S → List ℕ → S → Type 0
ReadsScript feed old script new =
    feed.reads old script new
    × ((length script ≡ max_prefix_bytes) ⊎ ((length script < max_prefix_bytes) × feed.ended new))

-- how a script is read and the verdict on it is written: what the source gives, and what the sink
-- does
pub record ScriptStreams (S K : Type 0) : Type 1 where
  pub feed : Feed S
  pub outlet : Outlet K

-- what a check reads from and what it writes to, at one moment
pub record CheckState (S K : Type 0) : Type 0 where
  pub input : S
  pub output : K

-- by these relations of a source and of a sink
abbrev pub streams_with : {S K : Type 0} → Feed S → Outlet K → ScriptStreams S K
streams_with feed outlet = record { feed = feed; outlet = outlet }

-- this input and this output
abbrev pub check_state : {S K : Type 0} → S → K → CheckState S K
check_state input output = record { input = input; output = output }

-- The script of a source was read and the verdict on it was written; or a read or a write failed, or
-- there was no memory.
abbrev pub ChecksScript : {S K : Type 0} → ScriptStreams S K → List Registration → CheckState S K
    → Result Ending ProgramFault → CheckState S K → Type 0
ChecksScript streams registered before (Ok ending) after =
    (script : List ℕ) × ReadsScript streams.feed before.input script after.input
    × WritesVerdict streams.outlet before.output (verdict_on registered script) (Ok ending)
    after.output
ChecksScript streams registered before (Err (program.Run faults.Write)) after =
    (script : List ℕ) × ReadsScript streams.feed before.input script after.input
    × FailsPartway streams.outlet before.output (verdict_line (verdict_on registered script))
    after.output
ChecksScript streams registered before (Err (program.Run (faults.Read fault))) after =
    (script : List ℕ) × (length script < max_prefix_bytes)
    × Faults streams.feed before.input script fault after.input
    × (after.output ≡ before.output)
ChecksScript streams registered before (Err program.NoMemory) after =
    ((after.input ≡ before.input)
    ⊎ ((script : List ℕ) × ReadsScript streams.feed before.input script after.input
    × MayTakeMemoryToCheck registered script))
    × (after.output ≡ before.output)
ChecksScript streams registered before (Err _) after = ⊥

-- The script of a file, where its bytes are known, is all of them or the first 65,537.
abbrev pub IsScriptOf : Option (List ℕ) → List ℕ → Type 0
IsScriptOf file script = IfSome file (λ bytes. script ≡ source_prefix bytes)

-- the bytes of a file and those that are written, where these are known
abbrev pub KnownCheck : Type 0
KnownCheck = CheckState (Option (List ℕ)) (Option (List ℕ))

-- The same of a file and a writer, by their bytes alone, where these are known.
abbrev pub ChecksFile : List Registration → KnownCheck → Result Ending ProgramFault → Option (List ℕ)
    → Type 0
ChecksFile registered before (Ok ending) output =
    (script : List ℕ) × IsScriptOf before.input script
    × (ending ≡ ending_of (verdict_on registered script))
    × Appends before.output output (verdict_line (verdict_on registered script))
ChecksFile registered before (Err (program.Run faults.Write)) output =
    (script : List ℕ) × IsScriptOf before.input script
    × (out : List ℕ) × (lost : List ℕ) × Appends before.output output out
    × (verdict_line (verdict_on registered script) ≡ out ++ lost)
ChecksFile registered before (Err (program.Run (faults.Read read_faults.Failed))) output =
    Keeps before.output output
ChecksFile registered before (Err program.NoMemory) output = Keeps before.output output
ChecksFile registered before (Err _) output = ⊥

-- The status that the program ends with once it has written this line: 1 for a refusal.
abbrev pub verdict_status : Option SourceFault → ℕ
verdict_status None = 0
verdict_status (Some fault) = 1

-- What a check of a file comes to as a program, by the fault that it writes on standard error, if
-- there is one. With none, the line for the script is on standard output, and the status is that of
-- the line. A fault has the status 1, and only where it is one of writing there may be a prefix of
-- the line.
abbrev pub EndsBy : List Registration → KnownCheck → ℕ → Option ProgramFault → Option (List ℕ) → Type 0
EndsBy registered before status None output =
    (script : List ℕ) × IsScriptOf before.input script
    × (status ≡ verdict_status (verdict_on registered script))
    × Appends before.output output (verdict_line (verdict_on registered script))
EndsBy registered before status (Some (program.Run faults.Write)) output =
    (script : List ℕ) × IsScriptOf before.input script × (status ≡ 1)
    × (out : List ℕ) × (lost : List ℕ) × Appends before.output output out
    × (verdict_line (verdict_on registered script) ≡ out ++ lost)
EndsBy registered before status (Some (program.Run (faults.Read read_faults.Failed))) output =
    (status ≡ 1) × Keeps before.output output
EndsBy registered before status (Some program.NoMemory) output =
    (status ≡ 1) × Keeps before.output output
EndsBy registered before status (Some _) output = ⊥

abbrev pub EndsCheck : List Registration → KnownCheck → ProgramEnd → Option (List ℕ) → Type 0
EndsCheck registered before end output = EndsBy registered before end.status end.fault output
