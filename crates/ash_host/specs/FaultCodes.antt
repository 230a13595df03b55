-- The code by which refused memory is reported.
use Rattle.std.specs.Prelude.{ℕ, List, codes}
use Rattle.ash_host.specs.declared.fault.NoMemory.{NoMemory}

-- its number and its name
abbrev pub code_of : NoMemory → List ℕ
code_of _ = codes "509 NoMemory"
