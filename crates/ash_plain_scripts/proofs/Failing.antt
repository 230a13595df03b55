-- Where a run ends by an error, so does what is put together from it and what would come after it.
use Rattle.std.proofs.Common.{ap}
use Rattle.ash_meaning.specs.Activity.{Activity}
use Rattle.ash_meaning.specs.Runs.{Progress, Run, onward}
use Rattle.ash_plain_data.specs.declared.run_error.RunError.{RunError}
use Rattle.ash_plain_data.specs.declared.run_error.RunError.TheVariants as errors
use Rattle.ash_plain_data.specs.CallRuns.{FailsAs}

pub fails_onward : {A B : Type 0} (e : RunError) (a : Activity) (p : Progress A) (next : A → Run B) → FailsAs e a p → FailsAs e a (onward p next)
fails_onward (errors.Raising exception) a p next h = ap (λ (q : Progress _). onward q next) h
fails_onward errors.OutOfTicks a p next h = ap (λ (q : Progress _). onward q next) h
fails_onward errors.NoStep a p next h = ap (λ (q : Progress _). onward q next) h
fails_onward errors.NoMemory a p next h = tt
