-- When a stretch of code does what a statement does, and when it does what a frame does.
use Rattle.std.specs.Prelude.{◌≡◌, ◌≤◌, ℕ, ◌+◌, List, take, length, Option, Some, None, Bool, true, false}
use Rattle.ash_host.specs.declared.word.Word.{Word}
use Rattle.ash_meaning.specs.Activity.{Activity, in_frame}
use Rattle.ash_meaning.specs.Releases.{keeping}
use Rattle.ash_meaning.specs.Runs.{Run, Progress, Done}
use Rattle.ash_meaning.specs.StatementMeaning.{Flow, On, Broke, Continued, Returned}
use Rattle.ash_meaning.specs.Ends.{Outcome}
use Rattle.ash_code.specs.declared.instruction.Instruction.TheVariants as i
use Rattle.ash_code.specs.Controls.{Caller, Control, control}
use Rattle.ash_code.specs.Performing.{Setting}
use Rattle.ash_compile.specs.Stretches.{continued, Arrives, Leaves, with_locals, Has}

-- where a run is

-- an instruction of a function, with so many locals in these slots
abbrev pub here : ℕ → ℕ → ℕ → List Word → List Caller → Control
here function at count slots callers =
    control function at (record { slots = slots; count = count; callers = callers })

-- Of so many slots the first ones are the locals of the frame that runs.
pub record HasLocals (size count : ℕ) (slots : List Word) (a : Activity) : Type 0 where
  pub long : length slots ≡ size
  pub within : count ≤ size
  pub locals : (a.frame).locals ≡ take count slots

-- where a jump leads, with so many locals
pub record Exit : Type 0 where
  pub at : ℕ
  pub outer : ℕ

-- where `break` and `continue` lead, and what a `return` leaves the function with, by its value and by `this`: a
-- construction gives `this`
pub record Exits : Type 0 where
  pub broken : Exit
  pub continued : Exit
  pub gives : Option Word → Word → Option Word

-- in the code of a function
module _ (s : Setting) (function : ℕ) where
  -- From one place the code comes to another, and does nothing.
  abbrev pub Reaches : ℕ → ℕ → Type 0
  Reaches from to =
      (count : ℕ) (slots : List Word) (callers : List Caller) (a : Activity) (o : Option Outcome)
      → Arrives s (here function to count slots callers) a o
      → Arrives s (here function from count slots callers) a o

  -- What follows a statement that is left by a jump. The jump leaves the locals of blocks.
  abbrev pub Jumps : Exit → Flow → List Caller → ℕ → Progress Flow → (Flow → Activity → Option Outcome) → Type 0
  Jumps exit flow callers size left rest =
      (b : Activity) (slots : List Word)
      → left ≡ Done flow b
      → HasLocals size exit.outer slots (in_frame (keeping exit.outer) b)
      → Arrives s (here function exit.at exit.outer slots callers) (in_frame (keeping exit.outer) b) (rest flow b)

  -- What follows a statement: the code at one place if it goes on, and other code if it is left by a jump. A `return`
  -- leaves the frame, whatever its locals are.
  pub record Outs (exits : Exits) (to more : ℕ) (callers : List Caller) (size : ℕ) (left : Progress Flow)
      (rest : Flow → Activity → Option Outcome) : Type 0 where
    pub on : (b : Activity) (slots : List Word)
        → left ≡ Done On b
        → HasLocals size more slots b
        → Arrives s (here function to more slots callers) b (rest On b)
    pub broke : Jumps exits.broken Broke callers size left rest
    pub continues : Jumps exits.continued Continued callers size left rest
    pub returned : (value : Option Word) (b : Activity) (slots locals : List Word) (at last : ℕ)
        → left ≡ Done (Returned value) b
        → length slots ≡ size
        → Leaves s (exits.gives value (b.frame).this) (here function at last slots callers) (with_locals locals b)
        (rest (Returned value) b)

-- in the code of a function whose frame has so much room, in activities that are good
module _ (s : Setting) (Good : Activity → Type 0) (function room : ℕ) where
  -- parts of statements

  -- The code from one place to another does what a phrase without a value does, with so many locals before it and
  -- after it.
  pub record Acts (run : Run (Unit {0})) (from to count more : ℕ) : Type 0 where
    pub comes : (callers : List Caller) (size : ℕ) (slots : List Word) (a : Activity)
        (rest : Unit {0} → Activity → Option Outcome)
        → room ≤ size
        → HasLocals size count slots a
        → Good a
        → ((b : Activity) (next : List Word) → run a ≡ Done tt b → HasLocals size more next b
        → Arrives s (here function to more next callers) b (rest tt b))
        → Arrives s (here function from count slots callers) a (continued (run a) rest)

  -- The code from one place on does what a condition does, and goes on at one of two places.
  pub record Decides (run : Run Bool) (from met unmet count : ℕ) : Type 0 where
    pub comes : (callers : List Caller) (size : ℕ) (slots : List Word) (a : Activity)
        (rest : Bool → Activity → Option Outcome)
        → room ≤ size
        → HasLocals size count slots a
        → Good a
        → ((b : Activity) (next : List Word) → run a ≡ Done true b → HasLocals size count next b
        → Arrives s (here function met count next callers) b (rest true b))
        → ((b : Activity) (next : List Word) → run a ≡ Done false b → HasLocals size count next b
        → Arrives s (here function unmet count next callers) b (rest false b))
        → Arrives s (here function from count slots callers) a (continued (run a) rest)

  -- statements

  -- The code from one place to another does what a statement does, with so many locals before it and after it.
  pub record Performs (exits : Exits) (run : Run Flow) (from to count more : ℕ) : Type 0 where
    pub comes : (callers : List Caller) (size : ℕ) (slots : List Word) (a : Activity)
        (rest : Flow → Activity → Option Outcome)
        → room ≤ size
        → HasLocals size count slots a
        → Good a
        → Outs s function exits to more callers size (run a) rest
        → Arrives s (here function from count slots callers) a (continued (run a) rest)

  -- How a `break` or a `continue` goes on: at a release point, with the code behind it, or never.
  pub data Lands (flow : Flow) (run : Run Flow) (exit to : ℕ) : Type 0 where
    by_release : Has s Good function room exit i.Release → to ≡ exit + 1 → Lands flow run exit to
    never : ((a b : Activity) → Good a → run a ≡ Done flow b → ⊥) → Lands flow run exit to

  -- frames

  -- The code of a function, from its entry on, does what its frame does.
  pub record Enters (run : Run (Option Word)) (parameters : ℕ) : Type 0 where
    pub comes : (callers : List Caller) (size : ℕ) (slots : List Word) (a : Activity)
        (rest : Option Word → Activity → Option Outcome)
        → room ≤ size
        → HasLocals size parameters slots a
        → Good a
        → ((value : Option Word) (b : Activity) (next locals : List Word) (at last : ℕ)
        → run a ≡ Done value b
        → length next ≡ size
        → Leaves s value (here function at last next callers) (with_locals locals b) (rest value b))
        → Arrives s (here function 0 parameters slots callers) a (continued (run a) rest)
