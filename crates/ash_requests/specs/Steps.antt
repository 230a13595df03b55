-- What a request does to the state, and what is replied.
use Rattle.std.specs.Prelude.{◌≡◌, ℕ, ◌+◌, List, [], ◌∷◌, Option, Some, None, option_map, Ok, Err}
use Rattle.std.specs.Option.{option_and_then}
use Rattle.ash_meaning.specs.Activity.{World}
use Rattle.ash_meaning.specs.Releases.{sweep}
use Rattle.ash_meaning.specs.Ends.{End, Finished, Outcome, call_function, load_module}
use Rattle.ash_requests.specs.States.{LoadedModule, State, Hosts, Embedding, with_module, without_module}
use Rattle.ash_requests.specs.States.{update_globals, world_of, state_after}
use Rattle.ash_requests.specs.Requests.{Request, Load, Call, Discard, Object, Seq, Snapshot, Refusal, Reopen, DeviceFailed}
use Rattle.ash_requests.specs.Requests.{NoMemory, GenerationSpent, Reply, Answered, Value, ShownAs, Number, Done, Refused}
use Rattle.ash_requests.specs.Tasks.{Task, Initialize, Invoke, Remove, Read, Show, Count, Rewrite, TaskResult, task_of}

-- what a request comes to: the reply, the state after it, and what of the hosts is left
pub record Step (Fault : Type 0) : Type 0 where
  pub reply : Reply Fault
  pub state : State
  pub hosts : Hosts

abbrev pub hosts_left : World → Hosts
hosts_left world = record { pool = world.pool; answers = world.answers }

-- the world without the globals of a module that did not come to its end: a release point after that of its frames
abbrev pub without_globals : World → World
without_globals world = sweep [] (record world { globals = [] })

module _ {Fault : Type 0} where
  -- a reply that leaves everything as it is
  abbrev pub replied : Reply Fault → State → Hosts → Step Fault
  replied reply state hosts = record { reply = reply; state = state; hosts = hosts }

  -- an answer, which raises the sequence number by one
  abbrev pub answered : End → List LoadedModule → World → State → Step Fault
  answered end ms world old =
      record {
        reply = Answered end (old.seq + 1) world.events;
        state = state_after ms world old;
        hosts = hosts_left world;
      }

  -- A module is loaded where its initializers come to their end. Else it goes, and all that they did else stays.
  abbrev pub after_load_with : List ℕ → List ℕ → State → End → World → Step Fault
  after_load_with name source old (Finished value) world =
      answered (Finished value) (with_module (record { name = name; source = source; globals = world.globals })
      old.modules) world old
  after_load_with name source old end world = answered end old.modules (without_globals world) old

  abbrev pub after_load : List ℕ → List ℕ → State → Outcome → Step Fault
  after_load name source old outcome = after_load_with name source old outcome.end outcome.world

  -- What a call did to globals, objects and services stays, however it ended.
  abbrev pub after_call : LoadedModule → State → Outcome → Step Fault
  after_call m old outcome =
      answered outcome.end (update_globals m.name (outcome.world).globals old.modules) outcome.world old

  -- a release point without the module
  abbrev pub after_discard : List ℕ → State → Hosts → Step Fault
  after_discard name old hosts =
      answered (Finished None) (without_module name old.modules)
      (sweep [] (world_of [] (without_module name old.modules) old hosts)) old

  -- What a task does. There is no step where hosts gave no answer to a call of the run.
  abbrev pub perform : ℕ → Task → State → Hosts → Option (Step Fault)
  perform budget (Initialize name source tree) state hosts =
      option_map (after_load name source state) (load_module (record { name = name; tree = tree }) budget
      (world_of [] state.modules state hosts))
  perform budget (Invoke m tree function args) state hosts =
      option_map (after_call m state) (call_function (record { name = m.name; tree = tree }) function args budget
      (world_of m.globals (without_module m.name state.modules) state hosts))
  perform budget (Remove name) state hosts = Some (after_discard name state hosts)
  perform budget (Read word) state hosts = Some (replied (Value word) state hosts)
  perform budget (Show shown) state hosts = Some (replied (ShownAs shown) state hosts)
  perform budget Count state hosts = Some (replied (Number state.seq) state hosts)
  perform budget Rewrite state hosts = Some (replied Done state hosts)

  abbrev pub unless_refused : ℕ → TaskResult Fault → State → Hosts → Option (Step Fault)
  unless_refused budget (Ok task) state hosts = perform budget task state hosts
  unless_refused budget (Err refusal) state hosts = Some (replied (Refused refusal) state hosts)

-- The step of one request: it is refused, or it runs.
abbrev pub step : {Fault : Type 0} → Embedding Fault → ℕ → Request → State → Hosts → Option (Step Fault)
step embedding budget request state hosts = unless_refused budget (task_of embedding request state) state hosts

-- what requests come to, one after another
pub record History (Fault : Type 0) : Type 0 where
  pub replies : List (Reply Fault)
  pub state : State
  pub hosts : Hosts

-- no request yet
abbrev pub begin_history : {Fault : Type 0} → State → Hosts → History Fault
begin_history state hosts = record { replies = []; state = state; hosts = hosts }

abbrev pub with_step : {Fault : Type 0} → Step Fault → History Fault → History Fault
with_step one rest = record rest { replies = one.reply ∷ rest.replies }

-- A run: each request is answered from the state that the one before it left, by the hosts that it left. It is a
-- function, so that a run is determined by what is registered, the budget, the requests, the state, the pool and what
-- hosts answer.
abbrev pub run : {Fault : Type 0} → Embedding Fault → ℕ → List Request → State → Hosts → Option (History Fault)
run embedding budget [] state hosts = Some (begin_history state hosts)
run embedding budget (request ∷ requests) state hosts =
    option_and_then (λ one. option_map (with_step one) (run embedding budget requests one.state one.hosts))
    (step embedding budget request state hosts)

-- Requests that may be refused for a cause outside of the state.

-- what a request may take: the store, which it writes, or memory
abbrev pub WritesStore : Request → Type 0
WritesStore (Load name source) = Unit {0}
WritesStore (Call module_name function arguments) = Unit {0}
WritesStore (Discard name) = Unit {0}
WritesStore Snapshot = Unit {0}
WritesStore _ = ⊥

abbrev pub TakesMemory : Request → Type 0
TakesMemory (Object number) = Unit {0}
TakesMemory request = WritesStore request

-- A host that must be opened again answers `seq` alone. The store is written, and memory is taken, by what does so; a
-- look at a global takes none.
pub data IsPutOff {Fault : Type 0} (request : Request) : Refusal Fault → Type 0 where
  must_reopen : (request ≡ Seq → ⊥) → IsPutOff request Reopen
  device_failed : WritesStore request → IsPutOff request DeviceFailed
  no_memory : TakesMemory request → IsPutOff request NoMemory
  generation_spent : WritesStore request → IsPutOff request GenerationSpent

-- What a request may come to: its step, or a refusal for a cause outside of the state, which changes nothing. But for
-- such refusals it is determined as `step` is, which is a function.
pub data Steps {Fault : Type 0} (embedding : Embedding Fault) (budget : ℕ) (request : Request) (state : State)
    (hosts : Hosts) (one : Step Fault) : Type 0 where
  performed : step embedding budget request state hosts ≡ Some one → Steps embedding budget request state hosts one
  put_off : {refusal : Refusal Fault} → IsPutOff request refusal → one ≡ replied (Refused refusal) state hosts
      → Steps embedding budget request state hosts one

-- what requests may come to, one after another
pub data Runs {Fault : Type 0} (embedding : Embedding Fault) (budget : ℕ) : List Request → State → Hosts → History Fault
    → Type 0 where
  no_request : {state : State} {hosts : Hosts} → Runs embedding budget [] state hosts (begin_history state hosts)
  next_request : {request : Request} {requests : List Request} {state : State} {hosts : Hosts} {one : Step Fault}
      {rest : History Fault}
      → Steps embedding budget request state hosts one
      → Runs embedding budget requests one.state one.hosts rest
      → Runs embedding budget (request ∷ requests) state hosts (with_step one rest)
