-- What the readers of sources find.
use Rattle.std.specs.Prelude.{Result, Ok, Err}
use Rattle.ash_typed.specs.declared.tree.items.Module as script
use Rattle.ash_typed.specs.Modules.{Module, module_of}

-- what the code reads a source as, where `fault` says what the faults of sources represent
abbrev pub read_seen : {Code Fault : Type 0} → (Code → Fault) → Result script.Module Code → Result Module Fault
read_seen fault (Ok tree) = Ok (module_of tree)
read_seen fault (Err f) = Err (fault f)

-- Memory is taken for the tree of a source, and for the faults of which `takes` holds.
abbrev pub TakesMemoryToRead : {Fault : Type 0} → (Fault → Type 0) → Result Module Fault → Type 0
TakesMemoryToRead takes (Ok tree) = Unit {0}
TakesMemoryToRead takes (Err fault) = takes fault
