-- What a request asks of the state of a host, and when a step may fail.
use Rattle.std.specs.Prelude.{◌≢◌, [], Option, Ok}
use Rattle.ash_requests.specs.Requests.{Request, Refusal}
use Rattle.ash_requests.specs.Tasks.{Initialize, Invoke, TaskResult}
use Rattle.ash_requests.specs.Tasks as tasks
use Rattle.ash_requests.specs.declared.step_error.StepError.{StepError}
use Rattle.ash_requests.specs.declared.step_error.StepError.TheVariants as errors
use Rattle.ash_sources.specs.SourceFaults.{SourceFault}
use Rattle.ash_states.specs.HostStates.{HostState, embedding_for}

-- what a request asks for, or the first cause for which it is refused
abbrev pub task_of : Request → HostState → TaskResult SourceFault
task_of request s = tasks.task_of (embedding_for s.registered) request s.state

abbrev pub first_refusal : Request → HostState → Option (Refusal SourceFault)
first_refusal request s = tasks.first_refusal (embedding_for s.registered) request s.state

-- The request is not refused, and its task runs code: a function, or the initializers of a module that has globals.
abbrev pub TaskRunsCode : {Fault : Type 0} → TaskResult Fault → Type 0
TaskRunsCode (Ok (Initialize name source tree)) = tree.globals ≢ []
TaskRunsCode (Ok (Invoke loaded tree function args)) = Unit {0}
TaskRunsCode _ = ⊥

-- The request is not refused, its task runs code, and memory was refused while it ran or after that. That there is no
-- step never comes.
abbrev pub FailsInChange : Request → HostState → StepError → Type 0
FailsInChange request old errors.NoMemory = TaskRunsCode (task_of request old)
FailsInChange request old errors.NoStep = ⊥
