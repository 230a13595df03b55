-- What boxes are as host objects.
use Rattle.std.specs.Prelude.{ℕ, List, []}
use Rattle.ash_machine_fixtures.specs.declared.noted.Inner.{Inner}
use Rattle.ash_machine_fixtures.specs.declared.noted.Inner.TheVariants.{Counter, Tally, Buffer, Odd}
use Rattle.ash_host.specs.Ints.{int_bytes}

-- the kind of a box
abbrev pub kind_in : Inner → ℕ
kind_in (Counter _) = 1
kind_in (Tally _) = 2
kind_in (Buffer _) = 3
kind_in Odd = 9

-- its state
abbrev pub state_in : Inner → List ℕ
state_in (Counter counter) = int_bytes counter.value
state_in (Tally tally) = int_bytes tally.total
state_in (Buffer buffer) = buffer.bytes.items
state_in Odd = []
