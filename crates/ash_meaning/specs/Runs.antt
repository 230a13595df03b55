-- How far a phrase comes, and how phrases are put together.
use Rattle.std.specs.Prelude.{Bool, true, false, Option, Some, None}
use Rattle.ash_meaning.specs.declared.exception.Exception.{Exception}
use Rattle.ash_meaning.specs.Activity.{Activity}

-- what ends a run before it has come to its end: an exception, or a tick where none is left
pub data Interrupt : Type 0 where
  Raising : (exception : Exception) → Interrupt
  OutOfTicks : Interrupt

-- How far a phrase came: to its value, or to what ended the run. There is no step where no host answer is left, or the
-- next is not of the call made.
pub data Progress (A : Type 0) : Type 0 where
  Done : A → Activity → Progress A
  Ended : Interrupt → Activity → Progress A
  NoStep : Progress A

-- what a phrase does
abbrev pub Run : Type 0 → Type 0
Run A = Activity → Progress A

-- nothing but a value
abbrev pub give : {A : Type 0} → A → Run A
give value activity = Done value activity

-- nothing at all
abbrev pub skip : Run (Unit {0})
skip = give tt

abbrev pub onward : {A B : Type 0} → Progress A → (A → Run B) → Progress B
onward (Done value activity) next = next value activity
onward (Ended interrupt activity) next = Ended interrupt activity
onward NoStep next = NoStep

-- one phrase, then another that has its value
infixl 10 ◌>>=◌
abbrev pub ◌>>=◌ : {A B : Type 0} → Run A → (A → Run B) → Run B
(first >>= next) activity = onward (first activity) next

-- one phrase, then another
infixl 10 ◌>>◌
abbrev pub ◌>>◌ : {A B : Type 0} → Run A → Run B → Run B
(first >> next) = first >>= (λ _. next)

-- what the activity says
abbrev pub look : {A : Type 0} → (Activity → A) → Run A
look what activity = Done (what activity) activity

-- another activity
abbrev pub change : (Activity → Activity) → Run (Unit {0})
change how activity = Done tt (how activity)

-- an exception
abbrev pub raise : {A : Type 0} → Exception → Run A
raise exception activity = Ended (Raising exception) activity

-- an exception, unless this holds
abbrev pub demand : Bool → Exception → Run (Unit {0})
demand true exception = skip
demand false exception = raise exception

-- the end where no tick is left
abbrev pub out_of_ticks : {A : Type 0} → Run A
out_of_ticks activity = Ended OutOfTicks activity

-- no step
abbrev pub no_step : {A : Type 0} → Run A
no_step activity = NoStep

-- what is there; where nothing is, there is no step: in a sound module everything is there that is named
abbrev pub found : {A : Type 0} → Option A → Run A
found (Some value) = give value
found None = no_step
