-- How a run over the table ends.
use Rattle.std.specs.Prelude.{◌≡◌, List, ◌++◌, Option, Some, None, IfSome, cond}
use Rattle.ash_host.specs.declared.host_object.HostObject.{Ghosts}
use Rattle.ash_host.specs.declared.word.Word.{Word}
use Rattle.ash_host.specs.Records.{HostRecord}
use Rattle.ash_meaning.specs.Ends.{End, Outcome, outcome_of}
use Rattle.ash_meaning.specs.Runs.{Progress, Done, Ended, NoStep}
use Rattle.ash_run_steps.specs.Becoming.{Gave}
use Rattle.ash_run_steps.specs.Guarded.{Guarded}
use Rattle.ash_run_steps.specs.GuardedSteps.{RankTest}
use Rattle.ash_run_steps.specs.RunStates.{State, Names, shown, world_shown}

-- The outcome of what code came to, if objects have ranks there: all frames are given up, and there is a release point.
abbrev pub outcome_if : RankTest → Option (Progress (Option Word)) → Option (Option Outcome)
outcome_if test None = None
outcome_if test (Some (Done value activity)) =
    cond (test.has_ranks activity.world) (Some (outcome_of (Done value activity))) None
outcome_if test (Some (Ended interrupt activity)) =
    cond (test.has_ranks activity.world) (Some (outcome_of (Ended interrupt activity))) None
outcome_if test (Some NoStep) = Some None

module _ {B : Type 0} (G : Ghosts B) where
  -- A run that begins in one state has ended so in another, whatever hosts answer afterwards. Boxes gave the answers in
  -- between. If guards leave nothing of the run, nothing is said.
  pub record ComesTo (names : Names) (test : RankTest) (run : Guarded (Option Word)) (old : State B) (end : End)
      (new : State B) : Type 0 where
    pub records : List HostRecord
    pub gave : Gave G records old.table old.events new.table new.events
    pub same : (rest : List HostRecord) → IfSome (outcome_if test (run (shown G names (records ++ rest) old)))
        (λ outcome. Some (record { end = end; world = world_shown G names rest new }) ≡ outcome)
