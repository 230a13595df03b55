-- Why a source has no typed tree, without where names lie in memory; the code by which that is reported; and how
-- reading a source fails.
use Rattle.std.specs.Prelude.{◌≡◌, ℕ, List, Result, Ok, Err}
use Rattle.ash_lex.specs.LexCodes as lexical
use Rattle.ash_lex.specs.declared.faults.LexFault.{LexFault}
use Rattle.ash_lex.specs.declared.faults.LexFault.TheVariants as lex_faults
use Rattle.ash_parse.specs.ParseFaults as syntactic
use Rattle.ash_parse.specs.declared.faults.ParseFault.{ParseFault}
use Rattle.ash_parse.specs.declared.faults.ParseFault.TheVariants as parse_faults
use Rattle.ash_check.specs.ScriptFaults as checking
use Rattle.ash_check.specs.ScriptFaults.{ScriptFault, script_fault_of}
use Rattle.ash_check.specs.declared.faults.ScriptError.{ScriptError}
use Rattle.ash_check.specs.declared.faults.ScriptError.TheVariants as script_errors
use Rattle.ash_sources.specs.declared.fault.SourceFault as code
use Rattle.ash_sources.specs.declared.fault.SourceFault.TheVariants as the
use Rattle.ash_sources.specs.declared.fault.SourceError.{SourceError}
use Rattle.ash_sources.specs.declared.fault.SourceError.TheVariants as errors

-- why a source has no typed tree: the fault of the layer that finds it, whole
pub data SourceFault : Type 0 where
  Lexical : (fault : LexFault) → SourceFault
  Syntactic : (fault : ParseFault) → SourceFault
  Checked : (fault : ScriptFault) → SourceFault

-- the number and the name of a fault
abbrev pub code_of : SourceFault → List ℕ
code_of (Lexical fault) = lexical.code_of fault
code_of (Syntactic fault) = syntactic.code_of fault
code_of (Checked fault) = checking.code_of fault

-- what the code's faults represent

abbrev pub fault_of : code.SourceFault → SourceFault
fault_of (the.Lexical fault) = Lexical fault
fault_of (the.Syntactic fault) = Syntactic fault
fault_of (the.Checked fault) = Checked (script_fault_of fault)

-- A layer's fault makes this error: it is the source's, unless it says that memory was refused.

abbrev pub lexical_error : LexFault → SourceError
lexical_error lex_faults.NoMemory = errors.NoMemory
lexical_error fault = errors.Fault (the.Lexical fault)

abbrev pub syntactic_error : ParseFault → SourceError
syntactic_error parse_faults.NoMemory = errors.NoMemory
syntactic_error fault = errors.Fault (the.Syntactic fault)

abbrev pub checked_error : ScriptError → SourceError
checked_error (script_errors.Fault fault) = errors.Fault (the.Checked fault)
checked_error script_errors.NoMemory = errors.NoMemory

-- how reading a source fails

-- Memory may be taken to find each fault but that of a source which its length alone refuses.
abbrev pub MayTakeMemory : SourceFault → Type 0
MayTakeMemory (Lexical lex_faults.SourceTooLong) = ⊥
MayTakeMemory fault = Unit {0}

-- Memory may be taken to find what a source comes to, unless it is such a fault.
abbrev pub TakesMemoryFor : {A : Type 0} → Result A SourceFault → Type 0
TakesMemoryFor (Ok found) = Unit {0}
TakesMemoryFor (Err fault) = MayTakeMemory fault

-- The error is the fault that a source comes to, or that memory was refused, where finding what it comes to may take
-- some.
abbrev pub RefusesSource : {A : Type 0} → Result A SourceFault → SourceError → Type 0
RefusesSource outcome (errors.Fault fault) = outcome ≡ Err (fault_of fault)
RefusesSource outcome errors.NoMemory = TakesMemoryFor outcome

-- The error is a fault of which this holds, or that memory was refused, where some may be taken.
abbrev pub RefusesWhere : (SourceFault → Type 0) → Type 0 → SourceError → Type 0
RefusesWhere HasFault TakesMemory (errors.Fault fault) = HasFault (fault_of fault)
RefusesWhere HasFault TakesMemory errors.NoMemory = TakesMemory

-- This holds of the fault, if the error is one.
abbrev pub IfFault : (SourceFault → Type 0) → SourceError → Type 0
IfFault Holds error = RefusesWhere Holds (Unit {0}) error
