-- Ticks, and frames that are entered and left.
use Rattle.std.specs.Prelude.{ℕ, zero, suc, ◌+◌, nat_lt, List, [], ◌∷◌, length}
use Rattle.ash_host.specs.declared.word.Word.{Word}
use Rattle.ash_host.specs.Objects.{handles}
use Rattle.ash_meaning.specs.declared.exception.Exception.TheVariants.{StackOverflow}
use Rattle.ash_meaning.specs.Activity.{Frame, Activity, in_frame}
use Rattle.ash_meaning.specs.Runs.{Run, give, ◌>>=◌, ◌>>◌, look, change, demand, out_of_ticks}
use Rattle.ash_meaning.specs.Releases.{holding, release}

-- ticks

abbrev pub at_line : ℕ → Frame → Frame
at_line line frame = record frame { line = line }

abbrev pub spend : ℕ → Run (Unit {0})
spend zero = out_of_ticks
spend (suc ticks) = change (λ activity. record activity { ticks = ticks })

-- Takes a tick for what begins at this line. Where none is left the run ends; the line is set either way.
abbrev pub tick : ℕ → Run (Unit {0})
tick line = change (in_frame (at_line line)) >> look (λ activity. activity.ticks) >>= spend

-- frames

-- how many frames there are at most
abbrev pub max_frames : ℕ
max_frames = 256

-- Raises an exception in the frame that runs, unless fewer than the most frames are there, `(init)` among them.
abbrev pub demand_frame : Run (Unit {0})
demand_frame = look (λ activity. nat_lt (length activity.callers + 1) max_frames)
    >>= (λ room. demand room StackOverflow)

abbrev pub frame_of : List ℕ → ℕ → Word → List Word → Frame
frame_of function line this locals =
    record { function = function; line = line; this = this; locals = locals; held = [] }

-- Enters a frame.
abbrev pub enter : List ℕ → ℕ → Word → List Word → Run (Unit {0})
enter function line this locals =
    change (λ activity. record activity {
      frame = frame_of function line this locals;
      callers = activity.frame ∷ activity.callers;
    })

-- the activity of the nearest caller, which holds the result; the first frame of a run has none, and stays
abbrev pub back_in : List Frame → Word → Activity → Activity
back_in [] result activity = activity
back_in (caller ∷ callers) result activity =
    record activity { frame = holding (handles (result ∷ [])) caller; callers = callers }

-- Leaves a frame: the result passes into what the caller holds, then the whole frame is given up.
unfoldable pub leave : Word → Run Word
leave result = change (λ activity. back_in activity.callers result activity) >> release >> give result

-- What an entered frame does: a tick at the line of its entry, and then this, whose value is the result.
abbrev pub in_frame_of : List ℕ → ℕ → Word → List Word → Run Word → Run Word
in_frame_of function line this locals body = enter function line this locals >> (tick line >> body) >>= leave
