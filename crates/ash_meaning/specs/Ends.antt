-- How a run of a function, or of the initializers of a module, ends, and what it leaves.
--
-- A phrase makes progress: it is done, or ended by an interrupt, in some activity. The progress of a whole run has an
-- end, as a reply shows it, and the end with the world that is left is its outcome.
use Rattle.std.specs.Prelude.{ℕ, List, [], codes, map, Option, Some, None}
use Rattle.std.specs.Option.{option_and_then}
use Rattle.ash_host.specs.declared.word.Word.{Word}
use Rattle.ash_host.specs.declared.word.Word.TheVariants.{Null}
use Rattle.ash_typed.specs.Modules.{Module}
use Rattle.ash_typed.specs.Signatures.{types_of_globals}
use Rattle.ash_meaning.specs.declared.exception.Exception.{Exception}
use Rattle.ash_meaning.specs.Activity.{World, Frame, Activity}
use Rattle.ash_meaning.specs.Runs.{Interrupt, Raising, OutOfTicks, Progress, Done, Ended, NoStep, give, ◌>>◌}
use Rattle.ash_meaning.specs.Frames.{frame_of, tick}
use Rattle.ash_meaning.specs.Releases.{sweep}
use Rattle.ash_meaning.specs.OperatorMeaning.{zero_of}
use Rattle.ash_meaning.specs.Classes.{Program, FreeFunction, Entry, entry_of}
use Rattle.ash_meaning.specs.Functions.{initialize_module, body, calls_within}

-- how a run ends: at its end, or by an exception or a refused tick, with the function and the line of the innermost
-- frame
pub data End : Type 0 where
  Finished : (value : Option Word) → End
  Threw : (exception : Exception) (function : List ℕ) (line : ℕ) → End
  Aborted : (function : List ℕ) (line : ℕ) → End

-- how it ends, and the world that it leaves
pub record Outcome : Type 0 where
  pub end : End
  pub world : World

abbrev pub interrupted_in : Interrupt → Frame → End
interrupted_in (Raising exception) frame = Threw exception frame.function frame.line
interrupted_in OutOfTicks frame = Aborted frame.function frame.line

-- At the end of a run all frames are given up at once. What was done before stays.
abbrev pub outcome_with : End → World → Outcome
outcome_with end world = record { end = end; world = sweep [] world }

abbrev pub outcome_of : Progress (Option Word) → Option Outcome
outcome_of (Done value activity) = Some (outcome_with (Finished value) activity.world)
outcome_of (Ended interrupt activity) = Some (outcome_with (interrupted_in interrupt activity.frame) activity.world)
outcome_of NoStep = None

-- one frame, and no callers
abbrev pub begun : World → ℕ → Frame → Activity
begun world budget frame = record { world = world; ticks = budget; frame = frame; callers = [] }

-- a call from outside, of the function at a place, with the words of its arguments

abbrev pub call_entry : Program → List Word → ℕ → World → Entry → Option Outcome
call_entry program args budget world e =
    outcome_of ((tick e.line >> body program budget e) (begun world budget (frame_of e.name e.line Null args)))

abbrev pub call_function : Program → ℕ → List Word → ℕ → World → Option Outcome
call_function program place args budget world =
    option_and_then (call_entry program args budget world) (entry_of program.tree (FreeFunction place))

-- a module that is loaded: its globals are zero, `false` or null, then the initializers run in one frame without a tick
-- of its own

abbrev pub with_globals : Module → World → World
with_globals m world = record world { globals = map zero_of (types_of_globals m.globals) }

abbrev pub init_frame : Frame
init_frame = frame_of (codes "(init)") 1 Null []

abbrev pub load_module : Program → ℕ → World → Option Outcome
load_module program budget world =
    outcome_of ((initialize_module (calls_within program budget) 0 (program.tree).globals >> give None)
    (begun (with_globals program.tree world) budget init_frame))
