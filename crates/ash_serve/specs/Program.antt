-- The statuses of the program, and the codes of the faults that end it.
use Rattle.std.specs.Prelude.{ℕ, List, Some, None, Result, Ok, Err, codes}
use Rattle.ash_registry.specs.Refusals as registry
use Rattle.ash_durable.specs.StoreFaults as store
use Rattle.ash_lines.specs.Source.{read_code}
use Rattle.ash_serve.specs.declared.fault.RunFault.{RunFault}
use Rattle.ash_serve.specs.declared.fault.RunFault.TheVariants as run
use Rattle.ash_serve.specs.declared.program.ending.ProgramEnd.{ProgramEnd}
use Rattle.ash_serve.specs.declared.program.ending.Ending.{Ending}
use Rattle.ash_serve.specs.declared.program.ending.Ending.TheVariants as endings
use Rattle.ash_serve.specs.declared.program.fault.ProgramFault.{ProgramFault}
use Rattle.ash_serve.specs.declared.program.fault.ProgramFault.TheVariants.{Usage, NoMemory, Registry, Store, Run}

-- the number and the name of what ends a run
abbrev pub run_code : RunFault → List ℕ
run_code run.Truncated = codes "603 Truncated"
run_code (run.Read fault) = read_code fault
run_code run.Write = codes "606 Write"
run_code run.NoMemory = codes "509 NoMemory"

-- what the program writes of a fault: the number and the name of it; for wrong words, that they are
abbrev pub code_of : ProgramFault → List ℕ
code_of Usage = codes "usage"
code_of NoMemory = codes "509 NoMemory"
code_of (Registry fault) = registry.code_of fault
code_of (Store fault) = store.code_of fault
code_of (Run fault) = run_code fault

-- the status of a fault: 2 for wrong words, 1 for any other
abbrev pub status_of : ProgramFault → ℕ
status_of Usage = 2
status_of NoMemory = 1
status_of (Registry fault) = 1
status_of (Store fault) = 1
status_of (Run fault) = 1

-- the status where no fault ends the program: 1 where the script that was checked is refused
abbrev pub ending_status : Ending → ℕ
ending_status endings.Well = 0
ending_status endings.Refused = 1

-- how the program ends by what it did: with a status, and with a fault where one ended it
abbrev pub end_of : Result Ending ProgramFault → ProgramEnd
end_of (Ok ending) = record { status = ending_status ending; fault = None }
end_of (Err fault) = record { status = status_of fault; fault = Some fault }
