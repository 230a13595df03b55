-- When a stretch of code does what a phrase does.
use Rattle.std.specs.Prelude.{◌≡◌, ◌≤◌, ◌<◌, ℕ, ◌+◌, List, take, length, slice_index_or, Option, Some, None, option_map, Bool, true}
use Rattle.ash_host.specs.declared.word.Word.{Word}
use Rattle.ash_host.specs.declared.word.Word.TheVariants.{Null}
use Rattle.ash_meaning.specs.Activity.{Frame, Activity, in_frame}
use Rattle.ash_meaning.specs.Runs.{Run, Progress, Done, Ended, NoStep}
use Rattle.ash_meaning.specs.Ends.{Outcome, interrupted_in}
use Rattle.ash_run_steps.specs.Guarded.{◌>>=◌}
use Rattle.ash_code.specs.declared.instruction.Instruction.{Instruction}
use Rattle.ash_code.specs.Controls.{Control, Window, control}
use Rattle.ash_code.specs.Performing.{Setting, return_to}
use Rattle.ash_code.specs.Running.{instruction_at, after, denote}
use Rattle.ash_code.specs.Arrivals.{end_with, end_of}
pub use Rattle.ash_code.specs.Arrivals.{Arrives}

-- outcomes

-- what comes of a phrase, if this comes of its values
abbrev pub continued : {A : Type 0} → Progress A → (A → Activity → Option Outcome) → Option Outcome
continued (Done value activity) rest = rest value activity
continued (Ended interrupt activity) rest = Some (end_with (interrupted_in interrupt activity.frame) activity.world)
continued NoStep rest = None

-- From here the code leaves its function with a value, and comes to an outcome.
pub record Leaves (s : Setting) (value : Option Word) (c : Control) (a : Activity) (o : Option Outcome) : Type 0 where
  pub fuel : ℕ
  pub ends : (n : ℕ) → fuel ≤ n
      → option_map end_of ((return_to s value c c.callers >>= after (denote s n)) a) ≡ Some o

-- slots and activities

-- the locals of the frame that runs are its first slots
pub record Fits (w : Window) (a : Activity) : Type 0 where
  pub locals : (a.frame).locals ≡ take w.count w.slots
  pub within : w.count ≤ length w.slots

-- What an expression leaves: its value is in its slot, and what was computed before stays.
pub record Holds (old : Window) (slot : ℕ) (word : Word) (slots : List Word) (b : Activity) : Type 0 where
  pub long : length slots ≡ length old.slots
  pub kept : (k : ℕ) → old.count ≤ k → k < slot → slice_index_or slots k Null ≡ slice_index_or old.slots k Null
  pub value : slice_index_or slots slot Null ≡ word
  pub locals : (b.frame).locals ≡ take old.count slots

abbrev pub with_slots : List Word → Window → Window
with_slots slots w = record w { slots = slots }

abbrev pub with_locals : List Word → Activity → Activity
with_locals locals a = in_frame (λ (f : Frame). record f { locals = locals }) a

-- phrases

-- in the code of a function whose frame has so much room, in activities that are good
module _ (s : Setting) (Good : Activity → Type 0) (function room : ℕ) where
  -- where the code has an instruction
  abbrev pub Has : ℕ → Instruction → Type 0
  Has at i = instruction_at s.code (record { function = function; at = at }) ≡ Some i

  -- The code from one place to another does what an expression does, and has its value in a slot.
  pub record Computes (run : Run Word) (from to slot : ℕ) : Type 0 where
    pub within : slot < room
    pub comes : (w : Window) (a : Activity) (rest : Word → Activity → Option Outcome)
        → w.count ≤ slot
        → room ≤ length w.slots
        → Fits w a
        → Good a
        → ((word : Word) (b : Activity) (slots : List Word) → run a ≡ Done word b → Holds w slot word slots b
        → Arrives s (control function to (with_slots slots w)) b (rest word b))
        → Arrives s (control function from w) a (continued (run a) rest)
