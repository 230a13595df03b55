-- What the code's ends of a run represent.
use Rattle.std.specs.Prelude.{◌≡◌, Option, Some, None, Result, Ok, Err}
use Rattle.ash_meaning.specs.Activity.{World}
use Rattle.ash_meaning.specs.Ends.{Outcome, outcome_with}
use Rattle.ash_plain_data.specs.declared.run_error.RunError.{RunError}
use Rattle.ash_plain_data.specs.declared.run_error.RunError.TheVariants as errors
use Rattle.ash_plain_world.specs.ActivityViews.{world_seen}
use Rattle.ash_plain_scripts.specs.declared.ends.RunEnd.{RunEnd}
use Rattle.ash_requests.specs.declared.outcome.Outcome as code
use Rattle.ash_requests.specs.OutcomeViews.{end_seen}

abbrev pub outcome_seen : RunEnd → Outcome
outcome_seen r = record { end = end_seen r.outcome; world = world_seen r.world }

-- A run of the code ends without an outcome where the definitions have none; an exception and a refused tick are
-- outcomes. Where memory ran out, nothing is said.
abbrev pub HasNoOutcome : RunError → Option Outcome → Type 0
HasNoOutcome (errors.Raising exception) outcome = ⊥
HasNoOutcome errors.OutOfTicks outcome = ⊥
HasNoOutcome errors.NoStep outcome = outcome ≡ None
HasNoOutcome errors.NoMemory outcome = Unit {0}

-- the end is that of the outcome, at the world before the frames are given up
abbrev pub HasEnd : Result code.Outcome RunError → World → Option Outcome → Type 0
HasEnd (Ok o) world outcome = outcome ≡ Some (outcome_with (end_seen o) world)
HasEnd (Err e) world outcome = HasNoOutcome e outcome

-- what the code returns is the outcome of the definitions
abbrev pub EndsAs : Result RunEnd RunError → Option Outcome → Type 0
EndsAs (Ok r) outcome = outcome ≡ Some (outcome_seen r)
EndsAs (Err e) outcome = HasNoOutcome e outcome
