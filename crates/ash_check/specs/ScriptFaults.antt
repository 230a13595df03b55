-- Why a script is refused, without where names lie in memory; the codes by which that is reported; and how the check of
-- a script fails.
use Rattle.std.specs.Prelude.{ℕ, List, map, string_bytes, codes}
use Rattle.ash_type_rules.specs.declared.fault.Fault.{Fault}
use Rattle.ash_type_rules.specs.RuleCodes as typing
use Rattle.ash_check_names.specs.declared.error.CheckError.{CheckError}
use Rattle.ash_check_names.specs.declared.error.CheckError.TheVariants as parts
use Rattle.ash_check.specs.declared.faults.ScriptFault as code
use Rattle.ash_check.specs.declared.faults.ScriptFault.TheVariants as the
use Rattle.ash_check.specs.declared.faults.ScriptError.{ScriptError}
use Rattle.ash_check.specs.declared.faults.ScriptError.TheVariants as errors

-- why a script is refused
pub data ScriptFault : Type 0 where
  -- a rule that is broken at an offset
  Broken : Fault → ScriptFault
  -- classes that could form a cycle, by their names: the first one, and the others on the path back to it
  Cyclic : List (List ℕ) → ScriptFault

-- the number and the name of a fault
abbrev pub code_of : ScriptFault → List ℕ
code_of (Broken fault) = typing.code_of fault.rule
code_of (Cyclic names) = codes "309 CyclicType"

-- what the code's faults represent
abbrev pub script_fault_of : code.ScriptFault → ScriptFault
script_fault_of (the.Broken fault) = Broken fault
script_fault_of (the.Cyclic names) = Cyclic (map string_bytes names.0.items)

-- the error of a script's check where the check of a part ends by this error
abbrev pub script_error : CheckError → ScriptError
script_error (parts.Fault fault) = errors.Fault (the.Broken fault)
script_error parts.NoMemory = errors.NoMemory
