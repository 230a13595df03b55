-- What runs leave, and what the definitions perform.
use Rattle.std.proofs.Common.{◌≡◌, ◌<◌, ℕ, List, [], set, Option, Some, None, Result, Ok, Err, refl, sym, ◌∙◌, ap, subst, length, arith, inl, inr}
use Rattle.std.specs.Prelude.{slice_get, option_map, IfOk}
use Rattle.std.specs.Option.{option_and_then}
use Rattle.ash_host.specs.declared.word.Word.{Word}
use Rattle.ash_host.specs.Objects.{handles}
use Rattle.ash_typed.specs.Modules.{Module, module_of}
use Rattle.ash_meaning.specs.Activity.{World}
use Rattle.ash_meaning.specs.Releases.{sweep}
use Rattle.ash_meaning.specs.Ends.{Finished, Outcome, call_function, load_module}
use Rattle.ash_plain_scripts.specs.EndViews.{outcome_seen}
use Rattle.ash_requests.specs.Requests.{Request, Load, Call, Discard, Get, Object, Seq, Snapshot, NoModule, NoGlobal, Refused}
use Rattle.ash_requests.specs.States.{LoadedModule, State, Hosts, Embedding, find_module, globals_of, without_module, update_globals, world_of}
use Rattle.ash_requests.specs.Tasks.{Task, TaskResult, Initialize, Invoke, Remove, Read, require_some, tree_of, word_named, task_of}
use Rattle.ash_requests.specs.Steps.{Step, replied, answered, after_load, after_call, perform, unless_refused, step, TakesMemory, Steps, performed, put_off}
use Rattle.ash_requests.specs.Steps as all_steps
use Rattle.ash_plain_steps.specs.declared.state.LoadedModule as code_module
use Rattle.ash_requests.specs.declared.step_error.StepError.{StepError}
use Rattle.ash_requests.specs.declared.step_error.StepError.TheVariants as errors
use Rattle.ash_plain_steps.specs.declared.step.Step as code_step
use Rattle.ash_requests.specs.declared.refusal.Refusal as refusal
use Rattle.ash_requests.specs.declared.refusal.Refusal.TheVariants as refusals
use Rattle.ash_plain_steps.specs.declared.task.Task as task
use Rattle.ash_plain_steps.specs.declared.task.Task.TheVariants as tasks
use Rattle.ash_plain_steps.specs.StateViews.{loaded_seen, modules_seen}
use Rattle.ash_plain_steps.specs.StepViews.{step_seen}
use Rattle.ash_requests.specs.RequestViews.{refusal_seen}
use Rattle.ash_plain_steps.specs.Consistency.{ModulesAscend}
use Rattle.ash_plain_steps.specs.TaskViews.{task_seen, RefusesAs}
use Rattle.ash_requests.specs.TaskResults.{TakesMemoryToFind}
use Rattle.ash_plain_steps.specs.StepViews.{ComesTo, ChangesState, LosesMemory, IsStep}
use Rattle.ash_requests.specs.TaskResults.{TaskChangesState}
use Rattle.std.proofs.lemmas.List.{length-set}
use Rattle.ash_plain_steps.proofs.Found.{within_got}
use Rattle.ash_plain_steps.proofs.Changed.{lent, set_again, seen_set}

-- the modules while one lends its globals, and afterwards

pub world_lent : (ms : List code_module.LoadedModule) (place : ℕ) (m lending : code_module.LoadedModule) (state : State) (hosts : Hosts) → ModulesAscend (modules_seen ms) → slice_get ms place ≡ Some m → lending ≡ record m { globals = lending.globals } → lending.globals.items ≡ [] → world_of m.globals.items (modules_seen (set ms place lending)) state hosts ≡ world_of m.globals.items (without_module (loaded_seen m).name (modules_seen ms)) state hosts
world_lent ms place m lending state hosts up g is none =
    ap with_outside
    (ap (λ (l : List LoadedModule). globals_of l) (seen_set ms place m lending up g is)
    ∙ ap (λ (l : List Word). globals_of (update_globals (loaded_seen m).name l (modules_seen ms))) none
    ∙ lent (loaded_seen m).name (modules_seen ms))
  where
    with_outside : List Word → World
    with_outside l = record { globals = m.globals.items; outside = handles l; objects = state.objects; last = state.last; services = state.services; pool = hosts.pool; answers = hosts.answers; events = [] }

pub given_back : (ms : List code_module.LoadedModule) (place : ℕ) (m lending new : code_module.LoadedModule) → ModulesAscend (modules_seen ms) → slice_get ms place ≡ Some m → new ≡ record m { globals = new.globals } → modules_seen (set (set ms place lending) place new) ≡ update_globals (loaded_seen m).name new.globals.items (modules_seen ms)
given_back ms place m lending new up g is = ap (λ (l : List code_module.LoadedModule). modules_seen l) (set_again ms place lending new) ∙ seen_set ms place m new up g is

-- as many modules as before
pub still_within : {Q : code_module.LoadedModule → Type 0} (f : code_module.LoadedModule → code_module.LoadedModule) (ms new : List code_module.LoadedModule) (place : ℕ) → place < length ms → ((m : code_module.LoadedModule) → slice_get ms place ≡ Some m → Q m × (new ≡ set ms place (f m))) → place < length new
still_within {Q} f ms new place within h = by (slice_get ms place) refl
  where
    by : (o : Option code_module.LoadedModule) → slice_get ms place ≡ o → place < length new
    by (Some m) g = omega (arith, ap (λ (l : List code_module.LoadedModule). length l) (h m g).1, length-set ms place (f m), within)
    by None g = absurd (within_got ms place within g)

module _ {Code Fault : Type 0} (fault : Code → Fault) where
  -- an error of a run, where the definitions go on from an outcome
  pub no_outcome : (e : StepError) (f : Outcome → Step Fault) (o : Option Outcome) → ComesTo outcome_seen (Err e) o → ComesTo (step_seen fault) (Err e) (option_map f o)
  no_outcome errors.NoStep f o e = ap (λ (x : Option Outcome). option_map f x) e
  no_outcome errors.NoMemory f o e = tt

  -- memory was refused
  pub no_memory : (e : StepError) (o : Option (Step Fault)) → e ≡ errors.NoMemory → ComesTo (step_seen fault) (Err e) o
  no_memory errors.NoStep o e = absurd (cc)
  no_memory errors.NoMemory o e = tt

  pub initialized : (budget : ℕ) (name source : List ℕ) (tree : Module) (state : State) (hosts : Hosts) (w : World) → w ≡ world_of [] state.modules state hosts → perform {Fault = Fault} budget (Initialize name source tree) state hosts ≡ option_map (after_load name source state) (load_module (record { name = name; tree = tree }) budget w)
  initialized budget name source tree state hosts w is = ap (λ (x : World). option_map (after_load {Fault = Fault} name source state) (load_module (record { name = name; tree = tree }) budget x)) (sym is)

  pub called : (budget : ℕ) (m : LoadedModule) (tree : Module) (function : ℕ) (args : List Word) (state : State) (hosts : Hosts) (w : World) → w ≡ world_of m.globals (without_module m.name state.modules) state hosts → perform {Fault = Fault} budget (Invoke m tree function args) state hosts ≡ option_map (after_call m state) (call_function (record { name = m.name; tree = tree }) function args budget w)
  called budget m tree function args state hosts w is = ap (λ (x : World). option_map (after_call {Fault = Fault} m state) (call_function (record { name = m.name; tree = tree }) function args budget x)) (sym is)

  pub discarded : (budget : ℕ) (name : List ℕ) (state : State) (hosts : Hosts) (left : List LoadedModule) (before after : World) (one : Step Fault) → left ≡ without_module name state.modules → before ≡ world_of [] left state hosts → after ≡ sweep [] before → one ≡ answered (Finished None) left after state → perform budget (Remove name) state hosts ≡ Some one
  discarded budget name state hosts left before after one l b a o =
      ap (λ (ms : List LoadedModule). let all : Step Fault = answered (Finished None) ms (sweep [] (world_of [] ms state hosts)) state in Some all) (sym l)
      ∙ ap (λ (w : World). let all : Step Fault = answered (Finished None) left (sweep [] w) state in Some all) (sym b)
      ∙ ap (λ (w : World). let all : Step Fault = answered (Finished None) left w state in Some all) (sym a)
      ∙ ap (λ (s : Step Fault). Some s) (sym o)

  module _ (budget : ℕ) (state : State) (hosts : Hosts) (r : Result (code_step.Step Code) StepError) where
    -- a task that is another's name
    pub performs_as : (given one : Task) → (let a : Option Task = Some given in a ≡ Some one) → ComesTo (step_seen fault) r (perform budget given state hosts) → ComesTo (step_seen fault) r (perform budget one state hosts)
    performs_as given one e h = let is : given ≡ one = cc in subst (λ (t : Task). ComesTo (step_seen fault) r (perform budget t state hosts)) is h

    -- the task of a module by its place
    pub performs_at : {A : Type 0} (f : A → Task) (found : Option A) (one : Task) → option_map f found ≡ Some one → ((m : A) → found ≡ Some m → ComesTo (step_seen fault) r (perform budget (f m) state hosts)) → ComesTo (step_seen fault) r (perform budget one state hosts)
    performs_at f (Some m) one e h = performs_as (f m) one e (h m refl)
    performs_at f None one e h = absurd (cc)

    pub steps_so : (o : Option Task) (wanted : TaskResult Fault) → option_map (λ one. Ok one) o ≡ Some wanted → ((one : Task) → o ≡ Some one → ComesTo (step_seen fault) r (perform budget one state hosts)) → ComesTo (step_seen fault) r (unless_refused budget wanted state hosts)
    steps_so (Some one) wanted e h = let given : TaskResult Fault = Ok one in let is : given ≡ wanted = cc in subst (λ (w : TaskResult Fault). ComesTo (step_seen fault) r (unless_refused budget w state hosts)) is (h one refl)
    steps_so None wanted e h = absurd (cc)

  -- a task that changes the state
  pub loses_changing : {X : Type 0} (r : Result X StepError) (t : task.Task) → ChangesState t → LosesMemory r (ChangesState t)
  loses_changing (Ok x) t h = tt
  loses_changing (Err errors.NoStep) t h = tt
  loses_changing (Err errors.NoMemory) t h = h

module _ {Code Fault : Type 0} (fault : Code → Fault) (takes : Fault → Type 0) where
  changes_as : (given : Task) (wanted : TaskResult Fault) → (let one : TaskResult Fault = Ok given in let found : Option (TaskResult Fault) = Some one in found ≡ Some wanted) → (let one : TaskResult Fault = Ok given in TaskChangesState one) → TaskChangesState wanted
  changes_as given wanted e h = let one : TaskResult Fault = Ok given in let is : one ≡ wanted = cc in subst (λ (w : TaskResult Fault). TaskChangesState w) is h

  -- A task of the code that changes the state is one of the definitions that does.
  changes : (ms : List code_module.LoadedModule) (t : task.Task) (wanted : TaskResult Fault) → option_map (λ one. Ok one) (task_seen ms t) ≡ Some wanted → ChangesState t → TaskChangesState wanted
  changes ms (tasks.Initialize new) wanted e h = changes_as (Initialize new.name.now new.source.now (module_of new.tree)) wanted e tt
  changes ms (tasks.Invoke call) wanted e h = by (slice_get ms call.module) e
    where
      by : (o : Option code_module.LoadedModule) → option_map (λ one. Ok one) (option_map (λ (m : code_module.LoadedModule). Invoke (loaded_seen m) (module_of m.tree) call.function call.args.items) o) ≡ Some wanted → TaskChangesState wanted
      by (Some m) e = changes_as (Invoke (loaded_seen m) (module_of m.tree) call.function call.args.items) wanted e tt
      by None e = absurd (cc)
  changes ms (tasks.Remove place) wanted e h = by (slice_get ms place) e
    where
      by : (o : Option code_module.LoadedModule) → option_map (λ one. Ok one) (option_map (λ (m : code_module.LoadedModule). Remove (loaded_seen m).name) o) ≡ Some wanted → TaskChangesState wanted
      by (Some m) e = changes_as (Remove (loaded_seen m).name) wanted e tt
      by None e = absurd (cc)
  changes ms (tasks.Read word) wanted e h = absurd h
  changes ms (tasks.Show shown) wanted e h = absurd h
  changes ms tasks.Count wanted e h = absurd h
  changes ms tasks.Rewrite wanted e h = absurd h

  -- what a task that was performed gives
  pub is_step : (embedding : Embedding Fault) (budget : ℕ) (request : Request) (state : State) (hosts : Hosts) (ms : List code_module.LoadedModule) (t : task.Task) (r : Result (code_step.Step Code) StepError) → option_map (λ one. Ok one) (task_seen ms t) ≡ Some (task_of embedding request state) → LosesMemory r (ChangesState t) → ComesTo (step_seen fault) r (step embedding budget request state hosts) → IsStep fault takes embedding budget request state hosts r
  is_step embedding budget request state hosts ms t (Ok one) given lost h = inl h
  is_step embedding budget request state hosts ms t (Err errors.NoStep) given lost h = h
  is_step embedding budget request state hosts ms t (Err errors.NoMemory) given lost h = changes ms t (task_of embedding request state) given lost

  word_takes_none : (o : Option Word) → TakesMemoryToFind takes (require_some o NoGlobal (λ word. Ok (Read word))) → ⊥
  word_takes_none (Some word) h = h
  word_takes_none None h = h

  global_takes_none : (f : LoadedModule → Option Word) (o : Option LoadedModule) → TakesMemoryToFind takes (require_some o NoModule (λ m. require_some (f m) NoGlobal (λ word. Ok (Read word)))) → ⊥
  global_takes_none f (Some m) h = word_takes_none (f m) h
  global_takes_none f None h = h

  -- what is found with memory is asked for by requests that take it
  takes_found : (embedding : Embedding Fault) (request : Request) (state : State) → TakesMemoryToFind takes (task_of embedding request state) → TakesMemory request
  takes_found embedding (Load name source) state h = tt
  takes_found embedding (Call name function args) state h = tt
  takes_found embedding (Discard name) state h = tt
  takes_found embedding (Get name global) state h = absurd (global_takes_none (λ m. option_and_then (λ tree. word_named global tree m.globals) (tree_of embedding m)) (find_module name state) h)
  takes_found embedding (Object number) state h = tt
  takes_found embedding Seq state h = h
  takes_found embedding Snapshot state h = tt

  -- a reply that refuses
  pub is_refusal : (embedding : Embedding Fault) (budget : ℕ) (request : Request) (state : State) (hosts : Hosts) (r : refusal.Refusal Code) (one : code_step.Step Code) → RefusesAs fault takes r (task_of embedding request state) → step_seen fault one ≡ replied (Refused (refusal_seen fault r)) state hosts → IsStep fault takes embedding budget request state hosts (Ok one)
  is_refusal embedding budget request state hosts r one = by r
    where
      so : (r : refusal.Refusal Code) → task_of embedding request state ≡ Err (refusal_seen fault r) → step_seen fault one ≡ replied (Refused (refusal_seen fault r)) state hosts → IsStep fault takes embedding budget request state hosts (Ok one)
      so r h e = inl (ap (λ (w : TaskResult Fault). unless_refused budget w state hosts) h ∙ ap (λ (s : Step Fault). Some s) (sym e))

      by : (r : refusal.Refusal Code) → RefusesAs fault takes r (task_of embedding request state) → step_seen fault one ≡ replied (Refused (refusal_seen fault r)) state hosts → IsStep fault takes embedding budget request state hosts (Ok one)
      by refusals.SequenceSpent h e = so refusals.SequenceSpent h e
      by refusals.BadName h e = so refusals.BadName h e
      by refusals.ModuleTaken h e = so refusals.ModuleTaken h e
      by refusals.TooManyModules h e = so refusals.TooManyModules h e
      by (refusals.BadSource f) h e = so (refusals.BadSource f) h e
      by refusals.NoModule h e = so refusals.NoModule h e
      by refusals.NoFunction h e = so refusals.NoFunction h e
      by refusals.NotCallable h e = so refusals.NotCallable h e
      by refusals.BadArguments h e = so refusals.BadArguments h e
      by refusals.NoGlobal h e = so refusals.NoGlobal h e
      by refusals.NoObject h e = so refusals.NoObject h e
      by refusals.Reopen h e = so refusals.Reopen h e
      by refusals.DeviceFailed h e = so refusals.DeviceFailed h e
      by refusals.GenerationSpent h e = so refusals.GenerationSpent h e
      by refusals.NoMemory h e = inr (takes_found embedding request state h, h, e)

  -- a step of the code is one of those that the definitions have
  pub steps_of : (embedding : Embedding Fault) (budget : ℕ) (request : Request) (state : State) (hosts : Hosts) (r : Result (code_step.Step Code) StepError) → IsStep fault takes embedding budget request state hosts r → IfOk r (λ s. Steps embedding budget request state hosts (step_seen fault s))
  steps_of embedding budget request state hosts (Ok one) (inl e) = performed e
  steps_of embedding budget request state hosts (Ok one) (inr e) = put_off (all_steps.no_memory e.0) e.2
  steps_of embedding budget request state hosts (Err e) h = tt
