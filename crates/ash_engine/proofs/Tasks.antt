-- The tasks of requests over a live state, and the steps of those that are not taken.
use Rattle.std.proofs.Common.{◌≡◌, ℕ, List, [], sym, ap, ◌∙◌, subst, inl, inr}
use Rattle.std.specs.Prelude.{Option, Some, None, Ok, Err}
use Rattle.std.specs.Option.{option_and_then}
use Rattle.std.proofs.lemmas.Option.{same_Some}
use Rattle.ash_host.specs.declared.host_object.HostObject.{Ghosts}
use Rattle.ash_host.specs.declared.word.Word.{Word}
use Rattle.ash_registry.specs.AcceptedRegistrations.{Registration}
use Rattle.ash_requests.specs.declared.refusal.Refusal as refusal
use Rattle.ash_requests.specs.declared.refusal.Refusal.TheVariants as refusals
use Rattle.ash_requests.specs.RequestViews.{refusal_seen, reply_seen}
use Rattle.ash_requests.specs.Requests.{Request, Load, Call, Discard, Get, Object, Seq, Snapshot, NoModule, NoGlobal}
use Rattle.ash_requests.specs.Requests.{Reply, Refused}
use Rattle.ash_requests.specs.States.{LoadedModule, Embedding, State, find_module}
use Rattle.ash_requests.specs.StepLaws.{events_of_reply}
use Rattle.ash_requests.specs.Steps.{TakesMemory, replied, unless_refused}
use Rattle.ash_requests.specs.TaskResults.{TakesMemoryToFind}
use Rattle.ash_requests.specs.Tasks as tasks
use Rattle.ash_requests.specs.Tasks.{Task, TaskResult, Read, require_some, tree_of, word_named}
use Rattle.ash_soundness.proofs.Entries.{mapped}
use Rattle.ash_sources.specs.declared.fault.SourceFault as code_fault
use Rattle.ash_sources.specs.SourceFaults.{SourceFault, fault_of, MayTakeMemory}
use Rattle.ash_plain_steps.specs.declared.state.LoadedModule as code_module
use Rattle.ash_plain_steps.specs.declared.task.Task as code_task
use Rattle.ash_plain_steps.specs.TaskViews.{task_seen, GivesTask, RefusesAs}
use Rattle.ash_states.specs.HostStates.{HostState, embedding_for}
use Rattle.ash_states.specs.StateSteps.{task_of}
use Rattle.ash_engine.specs.declared.live.Live.{Live}
use Rattle.ash_engine.specs.declared.steps.LiveStep.{LiveStep}
use Rattle.ash_engine.specs.LiveSteps.{IsNoAnswer, TakesStep}
use Rattle.ash_engine.specs.TableStates.{durable_seen, live_seen, IsLive}
use Rattle.ash_engine.specs.TableSteps.{IsStepOf}
use Rattle.ash_engine.specs.TableTasks.{IsAsked}
use Rattle.ash_engine.proofs.Looked.{looked}
use Rattle.ash_engine.proofs.TableCalls.{hosts_of}

module _ (embedding : Embedding SourceFault) where
  word_takes_none : (o : Option Word) → TakesMemoryToFind MayTakeMemory
      (require_some {Fault = SourceFault} o NoGlobal (λ word. Ok (Read word))) → ⊥
  word_takes_none (Some word) h = h
  word_takes_none None h = h

  global_takes_none : (f : LoadedModule → Option Word) (o : Option LoadedModule)
      → TakesMemoryToFind MayTakeMemory (require_some {Fault = SourceFault} o NoModule
      (λ m. require_some (f m) NoGlobal (λ word. Ok (Read word)))) → ⊥
  global_takes_none f (Some m) h = word_takes_none (f m) h
  global_takes_none f None h = h

  -- what is found with memory is asked for by requests that take it
  takes_found : (request : Request) (state : State) → TakesMemoryToFind MayTakeMemory
      (tasks.task_of embedding request state) → TakesMemory request
  takes_found (Load name source) state h = tt
  takes_found (Call name function args) state h = tt
  takes_found (Discard name) state h = tt
  takes_found (Get name global) state h =
      absurd (global_takes_none (λ m. option_and_then (λ tree. word_named global tree m.globals) (tree_of embedding m))
      (find_module name state) h)
  takes_found (Object number) state h = tt
  takes_found Seq state h = h
  takes_found Snapshot state h = tt

module _ {B : Type 0} (G : Ghosts B) (registered : List Registration) (live : Live B) where
  abbrev ms : List code_module.LoadedModule
  ms = live.loaded.modules.items

  abbrev durable : HostState
  durable = durable_seen G registered live

  -- what a request asks for
  abbrev pub asked_from : (request : Request) (task : code_task.Task) → IsLive G registered live
      → GivesTask {Code = code_fault.SourceFault} fault_of MayTakeMemory ms (Ok task) (task_of request durable)
      → IsAsked G live task
  asked_from request task is_live gives =
      let found = mapped (λ (one : Task). let r : TaskResult SourceFault = Ok one in r) (task_seen ms task)
      (task_of request durable) gives in
      record {
        registered = registered;
        request = request;
        live = is_live;
        one = found.0;
        seen = found.1;
        is = sym found.2;
      }

  -- the step of a task or of a refusal that is replied, and changes nothing
  pub looked_on : (budget : ℕ) (request : Request) (d : TaskResult SourceFault) (step : LiveStep B)
      → IsLive G registered live → task_of request durable ≡ d
      → unless_refused budget d durable.state (hosts_of G live.table [])
      ≡ Some (replied (reply_seen fault_of step.reply) durable.state (hosts_of G live.table []))
      → events_of_reply (reply_seen fault_of step.reply) ≡ [] → IsNoAnswer (reply_seen fault_of step.reply)
      → step.live ≡ live → IsStepOf G registered budget request live (Ok step)
  looked_on budget request d step is_live is does none silent same = (
    inl (subst (λ (l : Live B). TakesStepTo l) (sym same)
        (looked G registered live budget request d (reply_seen fault_of step.reply) is does none silent)),
    subst (IsLive G registered) (sym same) is_live,
  )
    where
      TakesStepTo : Live B → Type 0
      TakesStepTo l = TakesStep G budget request (live_seen G registered live) (reply_seen fault_of step.reply)
          (live_seen G registered l)

  -- A request is refused for the cause for which the definitions refuse it, or for want of memory.
  pub refused : (budget : ℕ) (request : Request) (r : refusal.Refusal code_fault.SourceFault) (step : LiveStep B)
      → IsLive G registered live
      → GivesTask fault_of MayTakeMemory ms (Err r) (task_of request durable)
      → reply_seen fault_of step.reply ≡ Refused (refusal_seen fault_of r) → step.live ≡ live
      → IsStepOf G registered budget request live (Ok step)
  refused budget request r step is_live gives reply same = by r gives reply
    where
      so : (r : refusal.Refusal code_fault.SourceFault) → task_of request durable ≡ Err (refusal_seen fault_of r)
          → reply_seen fault_of step.reply ≡ Refused (refusal_seen fault_of r)
          → IsStepOf G registered budget request live (Ok step)
      so r is reply = looked_on budget request (Err (refusal_seen fault_of r)) step is_live is
          (ap (λ (x : Reply SourceFault). Some (replied x durable.state (hosts_of G live.table []))) (sym reply))
          (ap events_of_reply reply) (subst (λ (x : Reply SourceFault). IsNoAnswer x) (sym reply) tt) same

      by : (r : refusal.Refusal code_fault.SourceFault) → RefusesAs fault_of MayTakeMemory r (task_of request durable)
          → reply_seen fault_of step.reply ≡ Refused (refusal_seen fault_of r)
          → IsStepOf G registered budget request live (Ok step)
      by refusals.SequenceSpent h e = so refusals.SequenceSpent h e
      by refusals.BadName h e = so refusals.BadName h e
      by refusals.ModuleTaken h e = so refusals.ModuleTaken h e
      by refusals.TooManyModules h e = so refusals.TooManyModules h e
      by (refusals.BadSource f) h e = so (refusals.BadSource f) h e
      by refusals.NoModule h e = so refusals.NoModule h e
      by refusals.NoFunction h e = so refusals.NoFunction h e
      by refusals.NotCallable h e = so refusals.NotCallable h e
      by refusals.BadArguments h e = so refusals.BadArguments h e
      by refusals.NoGlobal h e = so refusals.NoGlobal h e
      by refusals.NoObject h e = so refusals.NoObject h e
      by refusals.Reopen h e = so refusals.Reopen h e
      by refusals.DeviceFailed h e = so refusals.DeviceFailed h e
      by refusals.GenerationSpent h e = so refusals.GenerationSpent h e
      by refusals.NoMemory h e = (
        inr (record {
          takes = takes_found (embedding_for registered) request durable.state h;
          finds = inl h;
          reply_is = e;
          unchanged = ap (live_seen G registered) same;
        }),
        subst (IsLive G registered) (sym same) is_live,
      )

-- the same task by another name
abbrev pub asked_as : {B : Type 0} (G : Ghosts B) (live : Live B) (task other : code_task.Task) → task ≡ other
    → IsAsked G live task → IsAsked G live other
asked_as G live task other same asked = record {
  registered = asked.registered;
  request = asked.request;
  live = asked.live;
  one = asked.one;
  seen = subst (λ (t : code_task.Task). task_seen live.loaded.modules.items t ≡ Some asked.one) same asked.seen;
  is = asked.is;
}

-- the step of a task that is a look
pub looked_at : {B : Type 0} (G : Ghosts B) (live : Live B) (task : code_task.Task) (asked : IsAsked G live task)
    (budget : ℕ) (one : Task) (step : LiveStep B)
    → task_seen live.loaded.modules.items task ≡ Some one
    → unless_refused {Fault = SourceFault} budget (Ok one) (durable_seen G asked.registered live).state
    (hosts_of G live.table [])
    ≡ Some (replied (reply_seen fault_of step.reply) (durable_seen G asked.registered live).state
    (hosts_of G live.table []))
    → events_of_reply (reply_seen fault_of step.reply) ≡ [] → IsNoAnswer (reply_seen fault_of step.reply)
    → step.live ≡ live → IsStepOf G asked.registered budget asked.request live (Ok step)
looked_at G live task asked budget one step seen does none silent same =
    looked_on G asked.registered live budget asked.request (Ok one) step asked.live
    (asked.is ∙ ap (λ (t : Task). Ok t) (same_Some asked.one one (sym asked.seen ∙ seen))) does none silent same
