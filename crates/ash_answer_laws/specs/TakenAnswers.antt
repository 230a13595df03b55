-- Which answers of hosts a run takes, and what it comes to if there are others behind them, or none.
use Rattle.std.specs.Prelude.{◌≡◌, ◌++◌, ℕ, List, [], Option, Some}
use Rattle.ash_host.specs.declared.word.Word.{Word}
use Rattle.ash_host.specs.Records.{HostRecord}
use Rattle.ash_meaning.specs.Activity.{World, Activity, in_world}
use Rattle.ash_meaning.specs.Runs.{Progress, Done, Ended, NoStep, Run}
use Rattle.ash_meaning.specs.Classes.{Program}
use Rattle.ash_meaning.specs.Ends.{Outcome, call_function, load_module}
use Rattle.ash_meaning.specs.MeaningLaws.{OfPhrases}

-- A run takes the first of these answers, and leaves those behind them. With others behind those that it takes it comes
-- to the same, and leaves the others; from those that it takes alone it comes to the same, and leaves none. `comes_to`
-- says from which answers it comes to the same, and which it leaves.
pub record Takes (comes_to : List HostRecord → List HostRecord → Type 0) (answers left : List HostRecord)
    : Type 0 where
  pub taken : List HostRecord
  pub all : answers ≡ taken ++ left
  pub same : (rest : List HostRecord) → comes_to (taken ++ rest) rest
  pub alone : comes_to taken []

-- the same, with these answers

abbrev pub with_answers : List HostRecord → World → World
with_answers answers world = record world { answers = answers }

abbrev pub activity_with_answers : List HostRecord → Activity → Activity
activity_with_answers answers = in_world (with_answers answers)

abbrev pub outcome_with_answers : List HostRecord → Outcome → Outcome
outcome_with_answers answers outcome = record outcome { world = with_answers answers outcome.world }

-- phrases

-- A phrase that comes to its value, or is ended, takes the first of the answers. Of one that has no step nothing is
-- said, since other answers may give it one.
abbrev pub TakesTheFirst : {A : Type 0} → Run A → Activity → Progress A → Type 0
TakesTheFirst run before (Done value after) =
    Takes (λ answers left. run (activity_with_answers answers before) ≡ Done value (activity_with_answers left after))
    (before.world).answers (after.world).answers
TakesTheFirst run before (Ended interrupt after) =
    Takes (λ answers left. run (activity_with_answers answers before)
    ≡ Ended interrupt (activity_with_answers left after)) (before.world).answers (after.world).answers
TakesTheFirst run before NoStep = Unit {0}

-- from each activity
abbrev pub LeavesTheRest : (A : Type 0) → Run A → Type 0
LeavesTheRest A run = (activity : Activity) → TakesTheFirst run activity (run activity)

abbrev pub PhrasesLeaveTheRest : Program → ℕ → Type 0
PhrasesLeaveTheRest program depth = OfPhrases program depth LeavesTheRest

-- runs

-- What comes to an outcome takes the first of the answers.
abbrev pub OutcomesLeaveTheRest : (World → Option Outcome) → World → Type 0
OutcomesLeaveTheRest run world =
    (outcome : Outcome)
    → run world ≡ Some outcome
    → Takes (λ answers left. run (with_answers answers world) ≡ Some (outcome_with_answers left outcome))
    world.answers (outcome.world).answers

-- A call from outside does, and so does a load.
pub record RunsLeaveTheRest (program : Program) (budget : ℕ) (world : World) : Type 0 where
  pub calls : (place : ℕ) (args : List Word) → OutcomesLeaveTheRest (call_function program place args budget) world
  pub loads : OutcomesLeaveTheRest (load_module program budget) world
