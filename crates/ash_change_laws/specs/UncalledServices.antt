-- A service that is not called keeps its state.
use Rattle.std.specs.Prelude.{◌≡◌, ◌++◌, ℕ, List, Contains, Some, slice_get}
use Rattle.ash_host.specs.declared.word.Word.{Word}
use Rattle.ash_host.specs.declared.event.Event.{Event}
use Rattle.ash_host.specs.declared.event.Event.TheVariants.{Called}
use Rattle.ash_host.specs.declared.event.Target.TheVariants.{Service}
use Rattle.ash_meaning.specs.Activity.{World}
use Rattle.ash_meaning.specs.Classes.{Program, Entry}
use Rattle.ash_meaning.specs.Ends.{Outcome, call_entry, load_module}
use Rattle.ash_requests.specs.States.{State, Hosts, Embedding}
use Rattle.ash_requests.specs.Requests.{Request}
use Rattle.ash_requests.specs.Steps.{Step, step}
use Rattle.ash_requests.specs.StepLaws.{events_of_reply}

-- a function of the service at a place was called
abbrev pub IsCalled : ℕ → List Event → Type 0
IsCalled place happened = (function : ℕ) × Contains happened (Called (Service place) function)

-- Events were added, and each service that was not called among them has the state that it had.
pub record KeepsUncalled (old new : World) : Type 0 where
  pub more : List Event
  pub events : new.events ≡ old.events ++ more
  pub services : (place : ℕ) → (IsCalled place more → ⊥)
      → slice_get new.services place ≡ slice_get old.services place

-- So it is of each call from outside, and of each load, that come to an outcome.
pub record RunsKeepUncalled (program : Program) (budget : ℕ) (world : World) : Type 0 where
  pub calls : (args : List Word) (entry : Entry) (outcome : Outcome)
      → call_entry program args budget world entry ≡ Some outcome → KeepsUncalled world outcome.world
  pub loads : (outcome : Outcome) → load_module program budget world ≡ Some outcome
      → KeepsUncalled world outcome.world

-- Each service that was not called among the events of a reply has the state that it had before the request.
abbrev pub StepKeepsUncalled : {Fault : Type 0} → State → Step Fault → Type 0
StepKeepsUncalled old one = (place : ℕ) → (IsCalled place (events_of_reply one.reply) → ⊥)
    → slice_get (one.state).services place ≡ slice_get old.services place

-- So it is of each request that has a step.
abbrev pub StepsKeepUncalled : {Fault : Type 0} → Embedding Fault → ℕ → Type 0
StepsKeepUncalled {Fault} embedding budget = (request : Request) (old : State) (hosts : Hosts) (one : Step Fault)
    → step embedding budget request old hosts ≡ Some one → StepKeepsUncalled old one
