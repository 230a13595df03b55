-- What the steps of the code come to.
use Rattle.std.specs.Prelude.{◌≡◌, ◌<◌, ◌⊎◌, ℕ, List, length, set, Option, Some, None, Result, Ok, Err}
use Rattle.ash_typed.specs.Modules.{module_of}
use Rattle.ash_requests.specs.States.{State, Hosts, Embedding, find_module}
use Rattle.ash_requests.specs.Requests.{Request, NoMemory, Refused}
use Rattle.ash_requests.specs.Tasks.{max_seq, task_of}
use Rattle.ash_plain_steps.specs.declared.state.PlainState.{PlainState}
use Rattle.ash_requests.specs.declared.step_error.StepError.{StepError}
use Rattle.ash_requests.specs.declared.step_error.StepError.TheVariants as errors
use Rattle.ash_plain_steps.specs.declared.task.NewModule.{NewModule}
use Rattle.ash_plain_steps.specs.declared.task.Task.{Task}
use Rattle.ash_plain_steps.specs.declared.task.Task.TheVariants as tasks
use Rattle.ash_plain_world.specs.ActivityViews.{world_seen}
use Rattle.ash_plain_scripts.specs.declared.ends.RunEnd.{RunEnd}
use Rattle.ash_requests.specs.OutcomeViews.{end_seen}
use Rattle.ash_requests.specs.RequestViews.{reply_seen}
use Rattle.ash_requests.specs.Steps.{Step, answered, replied, step, TakesMemory}
use Rattle.ash_plain_steps.specs.declared.state.LoadedModule.{LoadedModule}
use Rattle.ash_plain_steps.specs.declared.step.Step as code_step
use Rattle.ash_plain_steps.specs.StateViews.{modules_seen, state_seen, hosts_seen}
use Rattle.ash_requests.specs.TaskResults.{TakesMemoryToFind, TaskChangesState}

-- a step with what it leaves
abbrev pub step_seen : {Code Fault : Type 0} → (Code → Fault) → code_step.Step Code → Step Fault
step_seen fault s = record { reply = reply_seen fault s.reply; state = state_seen s.state; hosts = hosts_seen s.hosts }

-- The code gives what the definitions give, or says that they give nothing. Where memory was refused, nothing is said.
abbrev pub ComesTo : {X A : Type 0} → (X → A) → Result X StepError → Option A → Type 0
ComesTo view (Ok x) wanted = wanted ≡ Some (view x)
ComesTo view (Err errors.NoStep) wanted = wanted ≡ None
ComesTo view (Err errors.NoMemory) wanted = Unit {0}

-- a task that changes the state
abbrev pub ChangesState : Task → Type 0
ChangesState (tasks.Initialize new) = Unit {0}
ChangesState (tasks.Invoke call) = Unit {0}
ChangesState (tasks.Remove place) = Unit {0}
ChangesState _ = ⊥

-- memory was refused while the state changed
abbrev pub LosesMemory : {X : Type 0} → Result X StepError → Type 0 → Type 0
LosesMemory (Err errors.NoMemory) may = may
LosesMemory _ may = Unit {0}

module _ {Code Fault : Type 0} (fault : Code → Fault) (takes : Fault → Type 0) (embedding : Embedding Fault)
    (budget : ℕ) (request : Request) (state : State) (hosts : Hosts) where
  -- What the code gives for a request: the step of the definitions; or a refusal since memory was refused, which
  -- changes nothing and replaces no cause that is found without memory; or that the definitions have no step. Where
  -- memory was refused while the state changed, there is neither step nor state: that can come only of a request that
  -- is not refused and whose task changes the state.
  abbrev pub IsStep : Result (code_step.Step Code) StepError → Type 0
  IsStep (Ok one) = (step embedding budget request state hosts ≡ Some (step_seen fault one))
      ⊎ (TakesMemory request × TakesMemoryToFind takes (task_of embedding request state)
      × (step_seen fault one ≡ replied (Refused NoMemory) state hosts))
  IsStep (Err errors.NoStep) = step embedding budget request state hosts ≡ None
  IsStep (Err errors.NoMemory) = TaskChangesState (task_of embedding request state)

-- A module that can be loaded: a sequence number is left, its tree is what its source is read as, and none has its
-- name.
pub record IsLoadable {Fault : Type 0} (embedding : Embedding Fault) (state : PlainState)
    (new : NewModule) : Type 0 where
  pub numbered : state.seq < max_seq
  pub read : embedding.read new.source.now ≡ Ok (module_of new.tree)
  pub absent : find_module new.name.now (state_seen state) ≡ None

-- A module that can be called or removed: a sequence number is left, and it is there.
pub record IsThere (state : PlainState) (place : ℕ) : Type 0 where
  pub numbered : state.seq < max_seq
  pub within : place < length state.modules.items

-- what is known of a task that is performed
abbrev pub IsPerformable : {Fault : Type 0} → Embedding Fault → PlainState → Task → Type 0
IsPerformable embedding state (tasks.Initialize new) = IsLoadable embedding state new
IsPerformable embedding state (tasks.Invoke call) = IsThere state call.module
IsPerformable embedding state (tasks.Remove place) = IsThere state place
IsPerformable embedding state _ = Unit {0}

-- What is left of a call of the module at a place, which had lent its globals: they are what the run left in them.
pub record IsAfterCall {Code Fault : Type 0} (fault : Code → Fault) (ms : List LoadedModule) (place : ℕ)
    (m : LoadedModule) (end : RunEnd) (old : State) (new : code_step.Step Code) : Type 0 where
  pub globals : new.state.modules.items ≡ set ms place (record m { globals = end.world.globals })
  pub stepped : step_seen fault new
      ≡ answered (end_seen end.outcome) (modules_seen new.state.modules.items) (world_seen end.world) old
