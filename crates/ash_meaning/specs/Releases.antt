-- What frames hold, and release points, at which everything goes that can't be reached.
use Rattle.std.specs.Prelude.{ℕ, List, [], ◌∷◌, ◌++◌, map, take, length, flat_map}
use Rattle.ash_host.specs.declared.word.Word.{Word}
use Rattle.ash_host.specs.declared.event.Event.TheVariants.{Dropped}
use Rattle.ash_host.specs.Objects.{handles}
use Rattle.ash_host.specs.Reach.{after_sweep, drops_of_sweep}
use Rattle.ash_meaning.specs.Activity.{World, Frame, in_frame}
use Rattle.ash_meaning.specs.Runs.{Run, give, ◌>>=◌, ◌>>◌, look, change}

-- what is held

-- the frame holds these objects as well
abbrev pub holding : List ℕ → Frame → Frame
holding numbers frame = record frame { held = numbers ++ frame.held }

-- Holds what these words are handles to until the full expression ends.
abbrev pub hold_all : List Word → Run (Unit {0})
hold_all words = change (in_frame (holding (handles words)))

abbrev pub hold : Word → Run (Unit {0})
hold word = hold_all (word ∷ [])

-- a value, which is held where it is a handle
abbrev pub give_held : Word → Run Word
give_held word = hold word >> give word

-- what a frame reaches by itself
abbrev pub roots_of_frame : Frame → List ℕ
roots_of_frame frame = handles (frame.this ∷ frame.locals) ++ frame.held

-- from where everything is reached: from the globals of other modules, from those of this one and from these frames
abbrev pub roots : List Frame → World → List ℕ
roots frames world = world.outside ++ handles world.globals ++ flat_map roots_of_frame frames

-- release points

-- What can't be reached goes, the host objects among it by ascending number.
unfoldable pub sweep : List Frame → World → World
sweep frames world =
    record world {
      objects = after_sweep (roots frames world) world.objects;
      events = world.events ++ map Dropped (drops_of_sweep (roots frames world) world.objects);
    }

-- A release point.
unfoldable pub release : Run (Unit {0})
release = change (λ activity. record activity { world = sweep (activity.frame ∷ activity.callers) activity.world })

-- The end of a full expression: nothing is held any more.
abbrev pub let_go : Frame → Frame
let_go frame = record frame { held = [] }

abbrev pub end_expression : Run (Unit {0})
end_expression = change (in_frame let_go) >> release

-- a full expression, with what is done with its value before it ends
abbrev pub full : {A : Type 0} → Run A → Run A
full run = run >>= (λ value. end_expression >> give value)

-- locals of blocks

-- how many locals there are
abbrev pub count_locals : Run ℕ
count_locals = look (λ activity. length activity.frame.locals)

-- one more local
abbrev pub declaring : Word → Frame → Frame
declaring word frame = record frame { locals = frame.locals ++ word ∷ [] }

abbrev pub declare : Word → Run (Unit {0})
declare word = change (in_frame (declaring word))

-- Leaves blocks, whose locals are those after the first so many. What they alone held stays up to the release point.
abbrev pub keeping : ℕ → Frame → Frame
keeping count frame = record frame { locals = take count frame.locals }

abbrev pub leave_blocks : ℕ → Run (Unit {0})
leave_blocks count = change (in_frame (keeping count))
