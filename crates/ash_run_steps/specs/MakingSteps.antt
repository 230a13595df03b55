-- Objects that are made, under the guards that a machine tests.
use Rattle.std.specs.Prelude.{ℕ, ◌&&◌, Bool, nat_le, List, length}
use Rattle.ash_host.specs.declared.word.Word.{Word}
use Rattle.ash_host.specs.Objects.{Script}
use Rattle.ash_host.specs.Limits.{max_elements}
use Rattle.ash_meaning.specs.declared.exception.Exception.TheVariants as exceptions
use Rattle.ash_meaning.specs.Activity.{Activity}
use Rattle.ash_meaning.specs.ObjectSteps as objects
use Rattle.ash_meaning.specs.Runs.{◌>>◌}
use Rattle.ash_objects.specs.declared.making.MakeFault.{MakeFault}
use Rattle.ash_objects.specs.declared.making.MakeFault.TheVariants as faults
use Rattle.ash_run_steps.specs.Guarded.{Guarded, guarded}
use Rattle.ash_run_steps.specs.GuardedSteps.{are_alive}
use Rattle.ash_run_steps.specs.declared.stop.Stop.{Stop}
use Rattle.ash_run_steps.specs.declared.stop.Stop.TheVariants as stops

-- what ends a run if no object is made
abbrev pub stop_of : MakeFault → Stop
stop_of faults.ObjectLimit = stops.Raised exceptions.ObjectLimit
stop_of faults.NumbersSpent = stops.Raised exceptions.NumbersSpent
stop_of faults.PoolEmpty = stops.Raised exceptions.PoolEmpty
stop_of faults.ArrayLimit = stops.Raised exceptions.ArrayLimit
stop_of faults.NoMemory = stops.NoMemory

-- A new object may have these fields: there are no more than may be, and none is a handle to what doesn't live.
abbrev pub may_have : List Word → Activity → Bool
may_have fields activity = nat_le (length fields) max_elements && are_alive fields activity

-- Makes an object of the class at a place in the source of a module, and gives its number.
abbrev pub make_script : List ℕ → ℕ → List Word → Guarded ℕ
make_script owner class fields =
    guarded (may_have fields) (objects.demand_number >> objects.make (Script owner class fields))
