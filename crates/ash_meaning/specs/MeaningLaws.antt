-- The laws of the meaning.
use Rattle.std.specs.Prelude.{◌≡◌, ◌≤◌, ◌<◌, ◌+◌, ◌++◌, ◌∷◌, ℕ, List, [], map, Contains, Option, Some, None}
use Rattle.ash_host.specs.declared.word.Word.{Word}
use Rattle.ash_host.specs.declared.word.Word.TheVariants as words
use Rattle.ash_host.specs.declared.event.Event.{Event}
use Rattle.ash_host.specs.declared.event.Event.TheVariants.{Dropped}
use Rattle.ash_host.specs.Objects.{object_at, Lives as LivesIn}
use Rattle.ash_host.specs.Reach.{Swept, hosts_gone}
use Rattle.ash_host.specs.Records.{HostRecord}
use Rattle.ash_typed.specs.TypedTree.{Expr, Place, Exprs}
use Rattle.ash_typed.specs.StatementTree.{Stmt}
use Rattle.ash_meaning.specs.Activity.{World, Frame, Activity}
use Rattle.ash_meaning.specs.Releases.{roots, release}
use Rattle.ash_meaning.specs.Runs.{Raising, OutOfTicks, Progress, Done, Ended, NoStep, Run, ◌>>◌}
use Rattle.ash_meaning.specs.Frames.{frame_of, tick}
use Rattle.ash_meaning.specs.Locations.{Location}
use Rattle.ash_meaning.specs.Classes.{Program, ModuleCallee, FreeFunction, Entry, entry_of}
use Rattle.ash_meaning.specs.CallMeaning.{call, construct}
use Rattle.ash_meaning.specs.ExpressionMeaning.{expression, location, arguments}
use Rattle.ash_meaning.specs.StatementMeaning.{Flow, statement}
use Rattle.ash_meaning.specs.Functions.{body, calls_within, initialize_module}
use Rattle.ash_meaning.specs.Ends.{End, Finished, Threw, Aborted, Outcome, begun, with_globals}
use Rattle.ash_meaning.specs.Ends.{init_frame, call_function, load_module}
pub use Rattle.ash_meaning.specs.Traces.{after_release}
use Rattle.ash_meaning.specs.Traces.{Trace}
use Rattle.ash_meaning.specs.Numbers.{numbering_of, NumberLives}

-- depth

-- at most so many ticks are left, wherever a phrase came
abbrev pub LeavesAtMost : {A : Type 0} → ℕ → Progress A → Type 0
LeavesAtMost ticks (Done value activity) = activity.ticks ≤ ticks
LeavesAtMost ticks (Ended interrupt activity) = activity.ticks ≤ ticks
LeavesAtMost ticks NoStep = Unit {0}

-- Wherever at most so many ticks are left, two runs come to the same, and none gains ticks.
pub record AreSame {A : Type 0} (ticks : ℕ) (one other : Run A) : Type 0 where
  pub same : (activity : Activity) → activity.ticks ≤ ticks → one activity ≡ other activity
  pub left : (activity : Activity) → activity.ticks ≤ ticks → LeavesAtMost activity.ticks (one activity)

-- what a function does from its entry on, at this depth
abbrev pub entered : Program → ℕ → Entry → Run (Option Word)
entered program depth e = tick e.line >> body program depth e

-- what the initializers of a module do, at this depth
abbrev pub initialized : Program → ℕ → Run (Unit {0})
initialized program depth = initialize_module (calls_within program depth) 0 (program.tree).globals

-- The depth is no part of the meaning: from any depth at least the ticks left, a function, and the initializers of a
-- module, come to the same; and no ticks are gained.
pub record DepthIsNoPart (program : Program) (ticks depth other : ℕ) : Type 0 where
  pub functions : (e : Entry) → AreSame ticks (entered program depth e) (entered program other e)
  pub initializers : AreSame ticks (initialized program depth) (initialized program other)

-- release points

-- What a release point does to the world: what can be reached from the roots stays as it was, and all else goes; the
-- host objects among it are the last events, by ascending number; nothing else changes.
pub record IsReleased (frames : List Frame) (old new : World) : Type 0 where
  pub swept : Swept (Contains (roots frames old)) old.objects new.objects (hosts_gone old.objects new.objects)
  pub events : new.events ≡ old.events ++ map Dropped (hosts_gone old.objects new.objects)
  pub others : new ≡ record old { objects = new.objects; events = new.events }

-- A release point of a run is that of its frames, and changes nothing but the world.
pub record ReleasesTheUnreachable (activity : Activity) : Type 0 where
  pub runs : release activity ≡ Done tt (after_release activity)
  pub world : IsReleased (activity.frame ∷ activity.callers) activity.world (after_release activity).world

-- phrases

-- What holds of a run holds of all that the phrases of a module do, at this depth.
pub record OfPhrases (program : Program) (depth : ℕ) (Holds : (A : Type 0) → Run A → Type 0) : Type 0 where
  pub expressions : (e : Expr) → Holds Word (expression (calls_within program depth) e)
  pub places : (place : Place) → Holds Location (location (calls_within program depth) place)
  pub argument_lists : (es : Exprs) → Holds (List Word) (arguments (calls_within program depth) es)
  pub statements : (s : Stmt) → Holds Flow (statement (calls_within program depth) depth s)
  pub functions : (e : Entry) → Holds (Option Word) (entered program depth e)
  pub initializers : Holds (Unit {0}) (initialized program depth)

-- A phrase comes by a trace to its value, or to what ends the run; a tick is refused only where none is left.
abbrev pub ComesBy : {A : Type 0} → Activity → Progress A → Type 0
ComesBy first (Done value activity) = Trace first activity
ComesBy first (Ended (Raising exception) activity) = Trace first activity
ComesBy first (Ended OutOfTicks activity) = Trace first activity × (activity.ticks ≡ 0)
ComesBy first NoStep = Unit {0}

abbrev pub IsTraced : ℕ → (A : Type 0) → Run A → Type 0
IsTraced depth A run = (activity : Activity) → activity.ticks ≤ depth → ComesBy activity (run activity)

abbrev pub PhrasesAreTraces : Program → ℕ → Type 0
PhrasesAreTraces program depth = OfPhrases program depth (IsTraced depth)

-- ticks

abbrev pub GainsNone : ℕ → (A : Type 0) → Run A → Type 0
GainsNone depth A run = (activity : Activity) → activity.ticks ≤ depth → LeavesAtMost activity.ticks (run activity)

-- where a call comes to its end, it has taken a tick at least
abbrev pub TakesTicks : {A : Type 0} → ℕ → Progress A → Type 0
TakesTicks ticks (Done value activity) = activity.ticks < ticks
TakesTicks ticks _ = Unit {0}

-- No phrase gains ticks, and a call or a construction that comes to its end has taken one at least.
pub record TicksFall (program : Program) (depth : ℕ) : Type 0 where
  pub phrases : OfPhrases program depth (GainsNone depth)
  pub calls : (callee : ModuleCallee) (this : Word) (args : List Word) (activity : Activity) → activity.ticks ≤ depth
      → TakesTicks activity.ticks (call (calls_within program depth) callee this args activity)
  pub constructions : (class : ℕ) (args : List Word) (activity : Activity) → activity.ticks ≤ depth
      → TakesTicks activity.ticks (construct (calls_within program depth) class args activity)

-- more ticks

abbrev pub with_more : ℕ → Activity → Activity
with_more more activity = record activity { ticks = activity.ticks + more }

-- What a phrase comes to from one activity, and from the same with more ticks: the same, with more ticks left; but
-- where it ended since no tick was left, it goes on from where it ended.
abbrev pub ExtendsWithMoreTicks : {A : Type 0} → ℕ → Progress A → Progress A → Type 0
ExtendsWithMoreTicks more (Done value activity) other = other ≡ Done value (with_more more activity)
ExtendsWithMoreTicks more (Ended (Raising exception) activity) other = other
    ≡ Ended (Raising exception) (with_more more activity)
ExtendsWithMoreTicks more (Ended OutOfTicks activity) other = ComesBy (with_more more activity) other
ExtendsWithMoreTicks more NoStep other = other ≡ NoStep

abbrev pub GoesOnWithMore : ℕ → (A : Type 0) → Run A → Type 0
GoesOnWithMore depth A run =
    (more : ℕ) (activity : Activity) → activity.ticks + more ≤ depth
    → ExtendsWithMoreTicks more (run activity) (run (with_more more activity))

abbrev pub MoreTicksGoOn : Program → ℕ → Type 0
MoreTicksGoOn program depth = OfPhrases program depth (GoesOnWithMore depth)

-- ends

-- where a run ended, by the frame that it ended in; an aborted one took all its ticks
abbrev pub EndsIn : Activity → End → Type 0
EndsIn last (Finished value) = Unit {0}
EndsIn last (Threw exception function line) = (last.frame.function ≡ function) × (last.frame.line ≡ line)
EndsIn last (Aborted function line) = (last.frame.function ≡ function) × (last.frame.line ≡ line) × (last.ticks ≡ 0)

-- However a run ends, what it did stays: the world that it leaves is that of its last activity, to which a trace leads,
-- but for the release point of all frames.
pub record EffectsStay (first : Activity) (outcome : Outcome) : Type 0 where
  pub last : Activity
  pub trace : Trace first last
  pub end : EndsIn last outcome.end
  pub ticks : last.ticks ≤ first.ticks
  pub released : IsReleased [] last.world outcome.world

-- what a run of the function begins with
abbrev pub first_of_call : Entry → List Word → ℕ → World → Activity
first_of_call e args budget world = begun world budget (frame_of e.name e.line words.Null args)

abbrev pub first_of_load : Program → ℕ → World → Activity
first_of_load program budget world = begun (with_globals program.tree world) budget init_frame

-- Whatever a call or a load comes to within a budget, its effects stay.
pub record RunsStay (program : Program) (budget : ℕ) (world : World) : Type 0 where
  pub calls : (place : ℕ) (args : List Word) (outcome : Outcome)
      → call_function program place args budget world ≡ Some outcome
      → (e : Entry) × (entry_of program.tree (FreeFunction place) ≡ Some e)
      × EffectsStay (first_of_call e args budget world) outcome
  pub loads : (outcome : Outcome) → load_module program budget world ≡ Some outcome
      → EffectsStay (first_of_load program budget world) outcome

abbrev pub IsNotAborted : End → Type 0
IsNotAborted (Aborted function line) = ⊥
IsNotAborted _ = Unit {0}

abbrev pub IsAborted : End → Type 0
IsAborted (Aborted function line) = Unit {0}
IsAborted _ = ⊥

-- What one outcome leaves is left on the way to another: where the first run ended, the other goes on, with more ticks.
pub record IsOnTheWay (more : ℕ) (outcome later : Outcome) : Type 0 where
  pub last : Activity
  pub released : IsReleased [] last.world outcome.world
  pub goes_on : EffectsStay (with_more more last) later

-- A run that is not aborted comes to the same within any larger budget; one that is aborted is on the way to what it
-- comes to there.
pub record BudgetSuffices (program : Program) (budget more : ℕ) (world : World) : Type 0 where
  pub calls : (place : ℕ) (args : List Word) (outcome : Outcome)
      → call_function program place args budget world ≡ Some outcome → IsNotAborted outcome.end
      → call_function program place args (budget + more) world ≡ Some outcome
  pub loads : (outcome : Outcome) → load_module program budget world ≡ Some outcome → IsNotAborted outcome.end
      → load_module program (budget + more) world ≡ Some outcome
  pub aborted_calls : (place : ℕ) (args : List Word) (outcome later : Outcome)
      → call_function program place args budget world ≡ Some outcome → IsAborted outcome.end
      → call_function program place args (budget + more) world ≡ Some later → IsOnTheWay more outcome later
  pub aborted_loads : (outcome later : Outcome) → load_module program budget world ≡ Some outcome
      → IsAborted outcome.end → load_module program (budget + more) world ≡ Some later → IsOnTheWay more outcome later

-- objects and their numbers

-- Along a trace events are added, and each number has its life.
pub record NumbersLiveOnce (first last : World) : Type 0 where
  pub more : List Event
  pub events : last.events ≡ first.events ++ more
  pub lives : NumberLives (numbering_of first) more (numbering_of last)

-- An object that is there at first and no more at last went at a release point between them.
pub record WentAtRelease (number : ℕ) (first last : Activity) : Type 0 where
  pub point : Activity
  pub before : Trace first point
  pub there : LivesIn point.world.objects number
  pub gone : object_at number (after_release point).world.objects ≡ None
  pub released : IsReleased (point.frame ∷ point.callers) point.world (after_release point).world
  pub after : Trace (after_release point) last

abbrev pub GoAtReleases : Activity → Activity → Type 0
GoAtReleases first last =
    (number : ℕ) → LivesIn first.world.objects number → object_at number last.world.objects ≡ None
    → WentAtRelease number first last

-- The answers of hosts are taken in order: along a trace the first of them, and the others are left.
abbrev pub TakesInOrder : World → World → Type 0
TakesInOrder first last = (taken : List HostRecord) × (first.answers ≡ taken ++ last.answers)
