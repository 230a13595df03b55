-- What a request does to a live state. It is a relation: host objects may answer otherwise another time.
use Rattle.std.specs.Prelude.{◌≡◌, ◌⊎◌, ℕ, List, [], Option, Some, None, Result, Ok, Err}
use Rattle.std.specs.List.{AllByRecursion}
use Rattle.ash_host.specs.declared.host_object.HostObject.{Ghosts}
use Rattle.ash_host.specs.Records.{HostRecord}
use Rattle.ash_meaning.specs.Activity.{FreeBox}
use Rattle.ash_requests.specs.Requests.{Request, NoMemory, Reply, Answered as AnsweredWith, Refused}
use Rattle.ash_requests.specs.Steps.{TakesMemory}
use Rattle.ash_requests.specs.Steps as steps
use Rattle.ash_requests.specs.StepLaws.{events_of_reply}
use Rattle.ash_requests.specs.declared.reply.Reply as code_reply
use Rattle.ash_requests.specs.declared.step_error.StepError.{StepError}
use Rattle.ash_requests.specs.RequestViews.{reply_seen}
use Rattle.ash_requests.specs.TaskResults.{TakesMemoryToFind, TaskChangesState}
use Rattle.ash_sources.specs.declared.fault.SourceFault as code_fault
use Rattle.ash_sources.specs.SourceFaults.{SourceFault, fault_of}
use Rattle.ash_sources.specs.SourceFaults as faults
use Rattle.ash_soundness.specs.WellFormed.{IsState, AreAnswers}
use Rattle.ash_states.specs.HostStates.{HostState, IsAdmitted, embedding_for}
use Rattle.ash_states.specs.StateSteps.{task_of, FailsInChange}
use Rattle.ash_change_laws.specs.ChangedStates.{Names, NamesNoMore}
use Rattle.ash_engine.specs.LiveStates.{LiveState}
pub use Rattle.ash_run_steps.specs.Answered.{number_drawn, drawn_in, box_at, IsValidOf, IsStill, Answered}

-- ---- the step, by the answers of host objects

-- What requests lead to, without the boxes: what outlives a request, and the kind and the state of each free box.
pub record Reached : Type 0 where
  pub durable : HostState
  pub pool : List FreeBox

-- a live state without its boxes
abbrev pub reached_by : {B : Type 0} → LiveState B → Reached
reached_by live = record { durable = live.durable; pool = live.pool }

-- Where host objects give these answers, the written step of the request has this reply, and leaves this state and this
-- pool. It takes all of the answers.
pub record StepsFor (answers : List HostRecord) (budget : ℕ) (request : Request) (before : Reached)
    (reply : Reply SourceFault) (after : Reached) : Type 0 where
  pub stepped : steps.step (embedding_for (before.durable).registered) budget request (before.durable).state
      (record { pool = before.pool; answers = answers })
      ≡ Some (record {
        reply = reply;
        state = (after.durable).state;
        hosts = record { pool = after.pool; answers = [] };
      })
  pub registered : (after.durable).registered ≡ (before.durable).registered

-- A host may be in what outlives a request, and no free box has a state that is longer than a state may be.
pub record IsReached (reached : Reached) : Type 0 where
  pub admitted : IsAdmitted reached.durable
  pub fit : AllByRecursion (λ (box : FreeBox). IsState box.state) reached.pool

-- What a request leads to is what a host may be in, where the answers are such as their types have.
abbrev pub StepsKeepReached : Type 0
StepsKeepReached = (answers : List HostRecord) (budget : ℕ) (request : Request) (before : Reached)
    (reply : Reply SourceFault) (after : Reached) → IsReached before
    → AreAnswers answers
    → StepsFor answers budget request before reply after → IsReached after

-- a reply by which the sequence number stays, as that of a refusal or of a look at a global
abbrev pub IsNoAnswer : {Fault : Type 0} → Reply Fault → Type 0
IsNoAnswer (AnsweredWith end seq happened) = ⊥
IsNoAnswer _ = Unit {0}

module _ {B : Type 0} where
  -- ---- the step of a live state

  -- The step of a request was taken: there are answers, each of the very box that gave it, for which it is the written
  -- one. What is not answered changes nothing; of what is answered, the names of what it changed are kept, and no more.
  pub record TakesStep (G : Ghosts B) (budget : ℕ) (request : Request) (old : LiveState B) (reply : Reply SourceFault)
      (new : LiveState B) : Type 0 where
    pub answers : List HostRecord
    pub taken : StepsFor answers budget request (reached_by old) reply (reached_by new)
    pub gave : Answered G old.boxes (events_of_reply reply) answers new.boxes
    pub unchanged : IsNoAnswer reply → new ≡ old
    pub named : (IsNoAnswer reply → ⊥)
        → Names new.changes (events_of_reply reply) (old.durable).state (new.durable).state
    pub no_more : (IsNoAnswer reply → ⊥)
        → NamesNoMore answers (old.durable).state (new.durable).state new.changes

  -- Memory was refused to a request that takes it, before anything changed. It replaces no cause that is found without
  -- memory: it was refused while what the request asks for was found, or before that was begun.
  pub record RanOut (request : Request) (old : LiveState B) (reply : Reply SourceFault) (new : LiveState B)
      : Type 0 where
    pub takes : TakesMemory request
    pub finds : TakesMemoryToFind faults.MayTakeMemory (task_of request old.durable)
        ⊎ TaskChangesState (task_of request old.durable)
    pub reply_is : reply ≡ Refused NoMemory
    pub unchanged : new ≡ old

  -- what a request may come to
  abbrev pub LiveSteps : Ghosts B → ℕ → Request → LiveState B → Reply SourceFault → LiveState B → Type 0
  LiveSteps G budget request old reply new =
      TakesStep G budget request old reply new ⊎ RanOut request old reply new

  -- What a request leads to from a live state is what a host may be in, whatever the boxes answer.
  abbrev pub LiveStepsKeepReached : Ghosts B → Type 0
  LiveStepsKeepReached G = (budget : ℕ) (request : Request) (old : LiveState B) (reply : Reply SourceFault)
      (new : LiveState B) → IsReached (reached_by old) → LiveSteps G budget request old reply new
      → IsReached (reached_by new)

  -- What the code gives for a request. Where it gives an error, the live state is lost: the request is not refused, it
  -- runs code, and memory was refused while it ran or after that.
  abbrev pub Handled : Ghosts B → ℕ → Request → LiveState B
      → Result (code_reply.Reply code_fault.SourceFault) StepError → Option (LiveState B) → Type 0
  Handled G budget request old (Ok reply) (Some new) =
      LiveSteps G budget request old (reply_seen fault_of reply) new
  Handled G budget request old (Ok reply) None = ⊥
  Handled G budget request old (Err error) new = FailsInChange request old.durable error × (new ≡ None)
