-- What phrases do, as transitions: each changes what runs in one way, and a trace is one transition after another.
use Rattle.std.specs.Prelude.{◌≡◌, ◌+◌, ℕ, false, List, ◌∷◌, Some, slice_get}
use Rattle.ash_host.specs.declared.word.Word.{Word}
use Rattle.ash_host.specs.declared.event.Event.TheVariants.{Drew, Called}
use Rattle.ash_host.specs.declared.event.Target.{Target}
use Rattle.ash_host.specs.Calls.{HostCall}
use Rattle.ash_host.specs.Objects.{Plain, Host, is_host}
use Rattle.ash_host.specs.Records.{HostRecord}
use Rattle.ash_meaning.specs.Activity.{FreeBox, World, Frame, Activity}
use Rattle.ash_meaning.specs.Releases.{sweep}
use Rattle.ash_meaning.specs.Frames.{back_in}
use Rattle.ash_meaning.specs.ObjectSteps.{with_object, with_words, with_new}
use Rattle.ash_meaning.specs.HostSteps.{with_event, next_answer, after_answer, place_of_kind, without_box}
use Rattle.ash_meaning.specs.Locations.{with_global}

-- the world after a box was taken from this place of the pool, as the object of the next number
abbrev pub drawn : ℕ → FreeBox → World → World
drawn place box world =
    with_event (Drew (world.last + 1)) (with_new (Host box.kind box.state) (without_box place world))

-- What a phrase changes in the world: it writes a global, or the words of an object; it makes an object of a class or
-- an array; it draws the first free box of a kind; it takes the answer that a host gives to a call; it notes that a
-- method was called.
pub data WorldTransition (old new : World) : Type 0 where
  WritesGlobal : (place : ℕ) (word : Word) → new ≡ with_global place word old → WorldTransition old new
  WritesWords : (number : ℕ) (words : List Word) → new ≡ with_object number (with_words words) old
      → WorldTransition old new
  Makes : (object : Plain (List ℕ)) → is_host object ≡ false → new ≡ with_new object old → WorldTransition old new
  Draws : (kind place : ℕ) (box : FreeBox) → place_of_kind kind old ≡ Some place → slice_get old.pool place ≡ Some box
      → new ≡ drawn place box old → WorldTransition old new
  TakesAnswer : (target : Target) (call : HostCall) (next : HostRecord) (left : List HostRecord)
      → next_answer target call old ≡ Some (next, left) → new ≡ after_answer target next left old
      → WorldTransition old new
  Notes : (target : Target) (id : ℕ) → new ≡ with_event (Called target id) old → WorldTransition old new

-- what a release point leaves of an activity
abbrev pub after_release : Activity → Activity
after_release activity = record activity { world = sweep (activity.frame ∷ activity.callers) activity.world }

-- What a phrase changes in what runs: it takes a tick; it sets the line, the locals or what is held of the frame that
-- runs; it enters a frame, or leaves one with a result; it changes the world; it comes to a release point.
pub data Transition (old new : Activity) : Type 0 where
  TakesTick : (left : ℕ) → old.ticks ≡ left + 1 → new ≡ record old { ticks = left } → Transition old new
  InFrame : (line : ℕ) (locals : List Word) (held : List ℕ)
      → new ≡ record old { frame = record old.frame { line = line; locals = locals; held = held } } → Transition old new
  Enters : (frame : Frame) → new ≡ record old { frame = frame; callers = old.frame ∷ old.callers } → Transition old new
  Leaves : (result : Word) → new ≡ back_in old.callers result old → Transition old new
  InWorld : (world : World) → WorldTransition old.world world → new ≡ record old { world = world } → Transition old new
  Releases : new ≡ after_release old → Transition old new

-- one transition after another, from an activity on
pub data Trace (first : Activity) : Activity → Type 0 where
  Here : Trace first first
  Then : {middle last : Activity} → Trace first middle → Transition middle last → Trace first last
