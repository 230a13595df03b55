-- Steps that speak with hosts, under the guard that a machine tests: who is asked is there.
use Rattle.std.specs.Prelude.{◌≡◌, ℕ, Bool, List, ◌++◌, Option, None, is_some, Result, Ok, Err}
use Rattle.ash_host.specs.declared.event.Target.{Target}
use Rattle.ash_host.specs.declared.event.Target.TheVariants as targets
use Rattle.ash_host.specs.declared.word.Word.{Word}
use Rattle.ash_host.specs.Calls.{Start}
use Rattle.ash_typed.specs.declared.types.VarType.{VarType}
use Rattle.ash_meaning.specs.Activity.{Activity}
use Rattle.ash_meaning.specs.Runs.{Run, Progress, Done, Ended, NoStep, Raising, ◌>>=◌}
use Rattle.ash_meaning.specs.HostSteps as hosts
use Rattle.ash_run_steps.specs.declared.stop.Stop.{Stop}
use Rattle.ash_run_steps.specs.declared.stop.Stop.TheVariants as stops
use Rattle.ash_run_steps.specs.Guarded.{Guarded, guarded}
use Rattle.ash_run_steps.specs.Stacks.{Frames}

-- the host object that a call goes to lives, or there is such a service
abbrev pub is_there : Target → Activity → Bool
is_there target activity = is_some (hosts.state_of target activity.world)

-- Runs a method of a host object, or a function of a service.
abbrev pub invoke_host : Target → ℕ → Option VarType → List Word → Guarded Word
invoke_host target id result args = guarded (is_there target) (hosts.invoke_host target id result args)

-- Reads a property of a host object.
abbrev pub get_property : ℕ → ℕ → VarType → Guarded Word
get_property number id of = guarded (is_there (targets.Object number)) (hosts.get_property number id of)

-- Writes a property of a host object.
abbrev pub set_property : ℕ → ℕ → Word → Guarded (Unit {0})
set_property number id word = guarded (is_there (targets.Object number)) (hosts.set_property number id word)

-- Begins the life of a host object.
abbrev pub start_host : ℕ → List Word → Run Word
start_host number args = hosts.call_host (targets.Object number) (Start args) >>= hosts.accept None

-- What is made of an answer: a value, an exception, or no step if the host found no memory. The activity stays.
abbrev pub IsMade : {A : Type 0} → Progress A → Result A Stop → Activity → Type 0
IsMade progress (Ok value) activity = progress ≡ Done value activity
IsMade progress (Err (stops.Raised exception)) activity = progress ≡ Ended (Raising exception) activity
IsMade progress (Err stops.OutOfTicks) activity = ⊥
IsMade progress (Err stops.Unsound) activity = ⊥
IsMade progress (Err stops.NoMemory) activity = progress ≡ NoStep

-- The frame that runs holds these objects as well.
abbrev pub holding : List ℕ → Frames → Frames
holding numbers frames = record frames { frame = record frames.frame { held = numbers ++ (frames.frame).held } }
