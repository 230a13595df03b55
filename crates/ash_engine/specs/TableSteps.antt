-- What the code does for a live state.
use Rattle.std.specs.Prelude.{ℕ, List, Result, Ok, Err}
use Rattle.ash_host.specs.declared.host_object.HostObject.{Ghosts}
use Rattle.ash_registry.specs.AcceptedRegistrations.{Registration}
use Rattle.ash_requests.specs.Requests.{Request}
use Rattle.ash_requests.specs.RequestViews.{reply_seen}
use Rattle.ash_requests.specs.declared.step_error.StepError.{StepError}
use Rattle.ash_sources.specs.SourceFaults.{fault_of}
use Rattle.ash_states.specs.StateSteps.{FailsInChange}
use Rattle.ash_engine.specs.declared.live.Live.{Live}
use Rattle.ash_engine.specs.declared.steps.LiveStep.{LiveStep}
use Rattle.ash_engine.specs.LiveSteps.{LiveSteps}
use Rattle.ash_engine.specs.TableStates.{durable_seen, live_seen, IsLive}

module _ {B : Type 0} (G : Ghosts B) where
  -- A step of the code is one of a live state, or it loses the state.
  abbrev pub IsStepOf : List Registration → ℕ → Request → Live B → Result (LiveStep B) StepError → Type 0
  IsStepOf registered budget request old (Ok one) =
      LiveSteps G budget request (live_seen G registered old) (reply_seen fault_of one.reply)
      (live_seen G registered one.live)
      × IsLive G registered one.live
  IsStepOf registered budget request old (Err error) = FailsInChange request (durable_seen G registered old) error
