-- What runs, and what it runs on. Phrases speak of it by named steps alone.
use Rattle.std.specs.Prelude.{ℕ, List}
use Rattle.ash_host.specs.declared.word.Word.{Word}
use Rattle.ash_host.specs.declared.event.Event.{Event}
use Rattle.ash_host.specs.Objects.{LiveObjects}
use Rattle.ash_host.specs.Records.{HostRecord}

-- a free box, by its kind and its state
pub record FreeBox : Type 0 where
  pub kind : ℕ
  pub state : List ℕ

-- What a run finds and what it leaves: the globals of the module that runs, the objects that something outside holds,
-- as the globals of other modules do, the objects, which know their modules by name, the last number that was given to
-- one, the states of the services, the pool, what hosts will still answer, and the events so far.
pub record World : Type 0 where
  pub globals : List Word
  pub outside : List ℕ
  pub objects : LiveObjects (List ℕ)
  pub last : ℕ
  pub services : List (List ℕ)
  pub pool : List FreeBox
  pub answers : List HostRecord
  pub events : List Event

-- The frame of a function that runs: its name, the line that it has come to, the object whose method it is, or null,
-- its locals by slot, and the objects that it holds until the full expression ends.
pub record Frame : Type 0 where
  pub function : List ℕ
  pub line : ℕ
  pub this : Word
  pub locals : List Word
  pub held : List ℕ

-- What runs: the world, the ticks left, and the frame that runs now apart from its callers, the nearest of them first.
pub record Activity : Type 0 where
  pub world : World
  pub ticks : ℕ
  pub frame : Frame
  pub callers : List Frame

-- the activity with the frame that runs changed, or the world
abbrev pub in_frame : (Frame → Frame) → Activity → Activity
in_frame change activity = record activity { frame = change activity.frame }

abbrev pub in_world : (World → World) → Activity → Activity
in_world change activity = record activity { world = change activity.world }
