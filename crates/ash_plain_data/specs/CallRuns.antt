-- How a call of the code runs, beside what a phrase does.
use Rattle.std.specs.Prelude.{◌≡◌, Result, Ok, Err}
use Rattle.ash_meaning.specs.Activity.{Activity}
use Rattle.ash_meaning.specs.Runs.{Progress, Done, Ended, NoStep, Raising, OutOfTicks}
use Rattle.ash_plain_data.specs.declared.run_error.RunError.{RunError}
use Rattle.ash_plain_data.specs.declared.run_error.RunError.TheVariants as errors

-- The code ends by an error as the phrase ends, at the activity that it leaves. Where memory ran out, nothing
-- is said.
abbrev pub FailsAs : {A : Type 0} → RunError → Activity → Progress A → Type 0
FailsAs (errors.Raising exception) activity progress = progress ≡ Ended (Raising exception) activity
FailsAs errors.OutOfTicks activity progress = progress ≡ Ended OutOfTicks activity
FailsAs errors.NoStep activity progress = progress ≡ NoStep
FailsAs errors.NoMemory activity progress = Unit {0}

-- What the code returns, seen by `view`, and the activity that it leaves are what the phrase comes to.
abbrev pub RunsAs : {X A : Type 0} → (X → A) → Result X RunError → Activity → Progress A → Type 0
RunsAs view (Ok x) activity progress = progress ≡ Done (view x) activity
RunsAs view (Err e) activity progress = FailsAs e activity progress
