-- When a stretch of code does what arguments do, wherever it stands.
use Rattle.std.specs.Prelude.{◌≡◌, ◌≤◌, ◌<◌, ℕ, ◌+◌, List, take, drop, length, slice_index_or, Option}
use Rattle.ash_host.specs.declared.word.Word.{Word}
use Rattle.ash_host.specs.declared.word.Word.TheVariants.{Null}
use Rattle.ash_typed.specs.declared.types.VarType.{VarType}
use Rattle.ash_typed.specs.TypedTree.{Expr, exprs}
use Rattle.ash_typed.specs.SoundExpressions.{AreSoundArguments}
use Rattle.ash_meaning.specs.Activity.{Activity}
use Rattle.ash_meaning.specs.Runs.{Run, Done}
use Rattle.ash_meaning.specs.Ends.{Outcome}
use Rattle.ash_meaning.specs.ExpressionMeaning.{arguments}
use Rattle.ash_code.specs.Controls.{Window, control}
use Rattle.ash_code.specs.Performing.{Setting}
use Rattle.ash_compile.specs.declared.builder.Written.{Written}
use Rattle.ash_compile.specs.Stretches.{continued, Arrives, Fits, with_slots}
use Rattle.ash_compile.specs.Emission.{code_of, end_of, Keeps, Scene, IsScene, Suits, Good, Stands, calls_of}

-- What arguments leave: their values are in so many slots from one on, and what was computed before stays.
pub record HoldsAll (old : Window) (slot count : ℕ) (ws slots : List Word) (b : Activity) : Type 0 where
  pub long : length slots ≡ length old.slots
  pub kept : (k : ℕ) → old.count ≤ k → k < slot → slice_index_or slots k Null ≡ slice_index_or old.slots k Null
  pub values : take count (drop slot slots) ≡ ws
  pub locals : (b.frame).locals ≡ take old.count slots

-- The code from one place to another does what arguments do, and has their values in slots one after another.
pub record ComputesAll (s : Setting) (Good : Activity → Type 0) (function room : ℕ) (run : Run (List Word))
    (from to slot count : ℕ) : Type 0 where
  pub within : 0 < count → slot + count ≤ room
  pub comes : (w : Window) (a : Activity) (rest : List Word → Activity → Option Outcome)
      → w.count ≤ slot
      → room ≤ length w.slots
      → Fits w a
      → Good a
      → ((ws : List Word) (b : Activity) (slots : List Word) → run a ≡ Done ws b → HoldsAll w slot count ws slots b
      → Arrives s (control function to (with_slots slots w)) b (rest ws b))
      → Arrives s (control function from w) a (continued (run a) rest)

abbrev pub DoesArguments : Scene → List Expr → ℕ → ℕ → ℕ → Type 0
DoesArguments s es from to slot =
    ComputesAll s.setting (Good s) s.function s.room (arguments (calls_of s) (exprs es)) from to slot (length es)

-- The code has grown by that of arguments: wherever it stands, it does what they do if they are sound there.
pub record EmitsArguments (old new : Written) (es : List Expr) (slot : ℕ) : Type 0 where
  pub keeps : Keeps old new
  pub does : (s : Scene) (parameters : List VarType)
      → IsScene s
      → AreSoundArguments s.env parameters (exprs es)
      → Stands s (code_of new) (end_of old) (end_of new)
      → Suits s new
      → DoesArguments s es (end_of old) (end_of new) slot
