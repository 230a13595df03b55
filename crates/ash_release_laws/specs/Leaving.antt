-- When objects leave: at the first release point at which they can't be reached.
use Rattle.std.specs.Prelude.{◌≡◌, ◌≤◌, ◌↔◌, ◌∷◌, ℕ, List, [], Contains, Some}
use Rattle.ash_host.specs.Objects.{Host, object_at, Lives}
use Rattle.ash_host.specs.Reach.{hosts_gone}
use Rattle.ash_host.specs.declared.word.Word.{Word}
use Rattle.ash_typed.specs.TypedTree.{Expr}
use Rattle.ash_typed.specs.StatementTree.{Stmt}
use Rattle.ash_meaning.specs.Activity.{World, Activity}
use Rattle.ash_meaning.specs.Runs.{Progress, Done, Ended, NoStep, Run}
use Rattle.ash_meaning.specs.Releases.{full}
use Rattle.ash_meaning.specs.Classes.{Program, ModuleCallee, FreeFunction, Entry, entry_of}
use Rattle.ash_meaning.specs.CallMeaning.{call, construct}
use Rattle.ash_meaning.specs.ExpressionMeaning.{expression}
use Rattle.ash_meaning.specs.StatementMeaning.{Flow, On, statement}
use Rattle.ash_meaning.specs.Functions.{calls_within}
use Rattle.ash_meaning.specs.Ends.{Outcome, call_function, load_module}
use Rattle.ash_meaning.specs.MeaningLaws.{IsReleased, entered, initialized, first_of_call, first_of_load}
use Rattle.ash_meaning.specs.Traces.{Transition, Releases, Trace, Here, Then, after_release}
use Rattle.ash_release_laws.specs.Settling.{ReachesFrom, Reaches, IsNumbered, IsSettledFrom, IsSettled}
use Rattle.ash_release_laws.specs.Settling.{AtEachEnd}

-- If a transition is a release point, the object can be reached at it.
abbrev pub IsReachedAt : ℕ → {old new : Activity} → Transition old new → Type 0
IsReachedAt number {old} (Releases e) = Reaches old number
IsReachedAt number _ = Unit {0}

-- The object can be reached at each release point of a trace.
abbrev pub IsReachedThroughout : ℕ → {first last : Activity} → Trace first last → Type 0
IsReachedThroughout number Here = Unit {0}
IsReachedThroughout number (Then before transition) =
    IsReachedThroughout number before × IsReachedAt number transition

-- An object that lives at first lives at last exactly if it can be reached at each release point between them.
abbrev pub LivesWhileReached : {first last : Activity} → Trace first last → Type 0
LivesWhileReached {first} {last} trace =
    (number : ℕ) → Lives (first.world).objects number
    → (Lives (last.world).objects number ↔ IsReachedThroughout number trace)

-- one trace after another
abbrev pub joined : {first middle last : Activity} → Trace first middle → Trace middle last → Trace first last
joined before Here = before
joined before (Then after transition) = Then (joined before after) transition

-- An object leaves at the first release point of a trace at which it can't be reached. The trace goes before it, by it
-- and after it. The object could be reached at each release point before; it is there until then, and not after. If it
-- is a host object, it is among those whose leaving is the last events there.
pub record LeavesAtTheFirst (number : ℕ) {first last : Activity} (trace : Trace first last) : Type 0 where
  pub point : Activity
  pub next : Activity
  pub step : next ≡ after_release point
  pub before : Trace first point
  pub after : Trace next last
  pub whole : trace ≡ joined (Then before (Releases step)) after
  pub reached : IsReachedThroughout number before
  pub there : Lives (point.world).objects number
  pub unreached : ¬ Reaches point number
  pub left : ¬ Lives (next.world).objects number
  pub released : IsReleased (point.frame ∷ point.callers) point.world next.world
  pub dropped : (kind : ℕ) (state : List ℕ) → object_at number (point.world).objects ≡ Some (Host kind state)
      → Contains (hosts_gone (point.world).objects (next.world).objects) number

-- Each object that lives where a trace begins lives at its end exactly if it can be reached at each release point of
-- it, and if not, it leaves at the first at which it can't.
pub record LeaveAlong {first last : Activity} (trace : Trace first last) : Type 0 where
  pub lives : LivesWhileReached trace
  pub left : (number : ℕ) → Lives (first.world).objects number → ¬ Lives (last.world).objects number
      → LeavesAtTheFirst number trace

-- So it is from each activity on that is on the way: of each object that lives anywhere between the first and the last,
-- and whatever trace leads there.
abbrev pub LeaveFromAnywhere : Activity → Activity → Type 0
LeaveFromAnywhere first last = (middle : Activity) → Trace first middle → (after : Trace middle last) → LeaveAlong after

-- A trace leads to the last activity, and each object that is gone there left at the first release point at which it
-- couldn't be reached.
pub record LeaveNoEarlier (first last : Activity) : Type 0 where
  pub trace : Trace first last
  pub from_anywhere : LeaveFromAnywhere first last

-- And none is late: what lives at last can be reached.
pub record LeaveOnTime (first last : Activity) : Type 0 where
  pub no_earlier : LeaveNoEarlier first last
  pub none_late : IsSettled last

-- Objects leave on time in a run, at each of its ends, within so many ticks.
abbrev pub LetsGoOnTime : ℕ → (A : Type 0) → Run A → Type 0
LetsGoOnTime depth A run =
    (activity : Activity) → activity.ticks ≤ depth → IsNumbered activity → IsSettled activity
    → AtEachEnd (λ value left. LeaveOnTime activity left) (LeaveOnTime activity) (run activity)

-- Objects leave on time if a statement goes on. A jump is on its way to a release point: what can't be reached any more
-- leaves there.
abbrev pub LeaveByFlow : Activity → Flow → Activity → Type 0
LeaveByFlow first On last = LeaveOnTime first last
LeaveByFlow first _ last = LeaveNoEarlier first last

-- Objects leave on time in a statement, within so many ticks; but not before the release point to which a jump leads.
abbrev pub LetsGoByFlow : ℕ → Run Flow → Type 0
LetsGoByFlow depth run =
    (activity : Activity) → activity.ticks ≤ depth → IsNumbered activity → IsSettled activity
    → AtEachEnd (LeaveByFlow activity) (LeaveOnTime activity) (run activity)

-- Objects leave on time, at this depth: in a full expression, in a statement, and in a call.
pub record ObjectsLeaveOnTime (program : Program) (depth : ℕ) : Type 0 where
  pub full_expressions : (e : Expr) → LetsGoOnTime depth Word (full (expression (calls_within program depth) e))
  pub statements : (s : Stmt) → LetsGoByFlow depth (statement (calls_within program depth) depth s)
  pub calls : (callee : ModuleCallee) (this : Word) (args : List Word)
      → LetsGoOnTime depth Word (call (calls_within program depth) callee this args)
  pub constructions : (class : ℕ) (args : List Word)
      → LetsGoOnTime depth Word (construct (calls_within program depth) class args)

-- whole runs

-- this is the activity in which a run comes to its value, or is interrupted
abbrev pub IsLastOf : {A : Type 0} → Progress A → Activity → Type 0
IsLastOf (Done value activity) last = activity ≡ last
IsLastOf (Ended interrupt activity) last = activity ≡ last
IsLastOf NoStep last = ⊥

-- A run ends with a release point without frames. Before it each object leaves at the first release point at which it
-- can't be reached. At it exactly those stay that can be reached without frames, and the host objects that go are the
-- last events. So an object lives at the end exactly if it can be reached at each release point after it came.
pub record LeaveByTheEnd {A : Type 0} (progress : Progress A) (first : Activity) (outcome : Outcome) : Type 0 where
  pub last : Activity
  pub comes : IsLastOf progress last
  pub trace : Trace first last
  pub from_anywhere : LeaveFromAnywhere first last
  pub released : IsReleased [] last.world outcome.world
  pub dropped : (number kind : ℕ) (state : List ℕ) → object_at number (last.world).objects ≡ Some (Host kind state)
      → ¬ Lives (outcome.world).objects number
      → Contains (hosts_gone (last.world).objects (outcome.world).objects) number
  pub lives : (middle : Activity) → Trace first middle → (after : Trace middle last) → (number : ℕ)
      → Lives (middle.world).objects number
      → (Lives (outcome.world).objects number
      ↔ (IsReachedThroughout number after × ReachesFrom [] last.world number))
  pub none_late : IsSettledFrom [] outcome.world

-- So it is over calls from outside and over loads, at each of their ends.
pub record RunsLeaveOnTime (program : Program) (budget : ℕ) (world : World) : Type 0 where
  pub calls : (place : ℕ) (args : List Word) (outcome : Outcome)
      → call_function program place args budget world ≡ Some outcome
      → (e : Entry) × (entry_of program.tree (FreeFunction place) ≡ Some e)
      × LeaveByTheEnd (entered program budget e (first_of_call e args budget world)) (first_of_call e args budget world)
      outcome
  pub loads : (outcome : Outcome) → load_module program budget world ≡ Some outcome
      → LeaveByTheEnd (initialized program budget (first_of_load program budget world))
      (first_of_load program budget world) outcome
