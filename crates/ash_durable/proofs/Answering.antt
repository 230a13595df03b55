-- What the step of a request comes to: what is not an answer leaves the live state, an answer comes of a task that
-- changes it, and no step is refused for a device.
use Rattle.std.proofs.Common.{◌≡◌, inl, inr, ℕ, Bool, true, false, nat_lt, not, List, length, [], Option, Some, None}
use Rattle.std.proofs.Common.{is_some}
use Rattle.std.proofs.Common.{option_map, position, slice_get, Result, Ok, Err, refl, sym, ap, subst}
use Rattle.std.specs.Option.{option_and_then}
use Rattle.std.specs.Str.{bytes_eq}
use Rattle.ash_host.specs.declared.host_object.HostObject.{Ghosts}
use Rattle.ash_host.specs.Objects.{object_at}
use Rattle.ash_typed.specs.Modules.{Function, Module}
use Rattle.ash_meaning.specs.Activity.{World}
use Rattle.ash_meaning.specs.Ends.{End, Finished, Threw, Aborted}
use Rattle.ash_requests.specs.declared.argument.Arg.{Arg}
use Rattle.ash_requests.specs.States.{LoadedModule, State, Hosts, Embedding, find_module}
use Rattle.ash_requests.specs.Requests.{Request, Load, Call, Discard, Get, Object, Seq, Snapshot, Refusal, Reply, Value}
use Rattle.ash_requests.specs.Requests.{Answered, ShownAs}
use Rattle.ash_requests.specs.Requests.{Number, Done, Refused, SequenceSpent, BadName, ModuleTaken, TooManyModules}
use Rattle.ash_requests.specs.Requests.{NoModule}
use Rattle.ash_requests.specs.Requests.{NoFunction, NotCallable, BadArguments, NoGlobal, NoObject, DeviceFailed}
use Rattle.ash_requests.specs.Tasks.{Task, Initialize, Invoke, Remove, Read, Show, Count, Rewrite, TaskResult, require}
use Rattle.ash_requests.specs.Tasks.{require_some, initialize, call_in, tree_of, word_named, described, is_module_name}
use Rattle.ash_requests.specs.Tasks.{is_callable, arguments_of, max_modules, max_seq}
use Rattle.ash_requests.specs.Tasks as tasks
use Rattle.ash_requests.specs.Steps.{Step, perform, unless_refused, after_load, after_load_with, after_call}
use Rattle.ash_requests.specs.Steps.{after_discard}
use Rattle.ash_requests.specs.Steps as steps
use Rattle.ash_requests.specs.TaskResults.{TaskChangesState}
use Rattle.ash_sources.specs.SourceFaults.{SourceFault}
use Rattle.ash_states.specs.HostStates.{embedding_for}
use Rattle.ash_states.specs.StateSteps.{task_of}
use Rattle.ash_engine.specs.LiveStates.{LiveState}
use Rattle.ash_engine.specs.LiveSteps.{IsNoAnswer, LiveSteps}
use Rattle.ash_durable.specs.Hosting.{IsAnswer, IsDeviceFailed}

-- ---- options

pub some_once : {A : Type 0} (x y : A) → Some x ≡ Some y → x ≡ y
some_once x y is = cc

-- what is there of a value was made of one that was there
pub mapped_some : {A B : Type 0} (f : A → B) (found : Option A) (y : B) → option_map f found ≡ Some y → (x : A)
    × (found ≡ Some x) × (f x ≡ y)
mapped_some f None y is = absurd (cc)
mapped_some f (Some x) y is = (x, refl, some_once (f x) y is)

-- ---- what a task does

-- how a run of initializers ends, it is answered
pub load_answers : (name source : List ℕ) (old : State) (end : End) (world : World)
    → IsAnswer (after_load_with {Fault = SourceFault} name source old end world).reply
load_answers name source old (Finished value) world = tt
load_answers name source old (Threw exception function line) world = tt
load_answers name source old (Aborted function line) world = tt

-- where a task changes nothing, it is not answered
changes_by : (budget : ℕ) (result : TaskResult SourceFault) (old : State) (hosts : Hosts) (one : Step SourceFault)
    → unless_refused budget result old hosts ≡ Some one → IsAnswer one.reply → TaskChangesState result
changes_by budget (Ok (Initialize name source tree)) old hosts one is answers = tt
changes_by budget (Ok (Invoke loaded tree function args)) old hosts one is answers = tt
changes_by budget (Ok (Remove name)) old hosts one is answers = tt
changes_by budget (Ok (Read word)) old hosts one is answers =
    absurd (subst (λ (s : Step SourceFault). IsAnswer s.reply)
    (sym (some_once (steps.replied (Value word) old hosts) one is)) answers)
changes_by budget (Ok (Show shown)) old hosts one is answers =
    absurd (subst (λ (s : Step SourceFault). IsAnswer s.reply)
    (sym (some_once (steps.replied (ShownAs shown) old hosts) one is)) answers)
changes_by budget (Ok Count) old hosts one is answers =
    absurd (subst (λ (s : Step SourceFault). IsAnswer s.reply)
    (sym (some_once (steps.replied (Number old.seq) old hosts) one is)) answers)
changes_by budget (Ok Rewrite) old hosts one is answers =
    absurd (subst (λ (s : Step SourceFault). IsAnswer s.reply)
    (sym (some_once (steps.replied Done old hosts) one is)) answers)
changes_by budget (Err refusal) old hosts one is answers =
    absurd (subst (λ (s : Step SourceFault). IsAnswer s.reply)
    (sym (some_once (steps.replied (Refused refusal) old hosts) one is)) answers)

-- ---- what holds of a task whatever is required first

pub required : (P : TaskResult SourceFault → Type 0) (b : Bool) (refusal : Refusal SourceFault)
    (next : TaskResult SourceFault) → P (Err refusal) → P next → P (require b refusal next)
required P true refusal next one other = other
required P false refusal next one other = one

pub required_some : (P : TaskResult SourceFault → Type 0) {A : Type 0} (found : Option A)
    (refusal : Refusal SourceFault)
    (next : A → TaskResult SourceFault) → P (Err refusal) → ((x : A) → P (next x)) → P (require_some found refusal next)
required_some P None refusal next one each = one
required_some P (Some x) refusal next one each = each x

-- ---- no request is refused by the definition for a device

abbrev NotForDevice : TaskResult SourceFault → Type 0
NotForDevice (Err DeviceFailed) = ⊥
NotForDevice _ = Unit {0}

initializes : (name source : List ℕ) (reading : Result Module SourceFault)
    → NotForDevice (initialize name source reading)
initializes name source (Ok tree) = tt
initializes name source (Err fault) = tt

call_in_fine : (loaded : LoadedModule) (tree : Module) (name : List ℕ) (args : List Arg)
    → NotForDevice (call_in loaded tree name args)
call_in_fine loaded tree name args =
    required_some NotForDevice (position (λ (f : Function). bytes_eq f.name name) tree.functions) NoFunction _ tt
    (λ place. required_some NotForDevice (slice_get tree.functions place) NoFunction _ tt
    (λ f. required NotForDevice (is_callable f) NotCallable _ tt
    (required_some NotForDevice (arguments_of f.parameters args) BadArguments _ tt (λ given. tt))))

task_fine : (embedding : Embedding SourceFault) (request : Request) (s : State)
    → NotForDevice (tasks.task_of embedding request s)
task_fine embedding (Load name source) s =
    required NotForDevice (nat_lt s.seq max_seq) SequenceSpent _ tt
    (required NotForDevice (is_module_name name) BadName _ tt
    (required NotForDevice (not (is_some (find_module name s))) ModuleTaken _ tt
    (required NotForDevice (nat_lt (length s.modules) max_modules) TooManyModules _ tt
    (initializes name source (embedding.read source)))))
task_fine embedding (Call name function args) s =
    required NotForDevice (nat_lt s.seq max_seq) SequenceSpent _ tt
    (required_some NotForDevice (find_module name s) NoModule _ tt
    (λ loaded. required_some NotForDevice (tree_of embedding loaded) NoModule _ tt
    (λ tree. call_in_fine loaded tree function args)))
task_fine embedding (Discard name) s =
    required NotForDevice (nat_lt s.seq max_seq) SequenceSpent _ tt
    (required_some NotForDevice (find_module name s) NoModule _ tt (λ loaded. tt))
task_fine embedding (Get name global) s =
    required_some NotForDevice (find_module name s) NoModule _ tt
    (λ loaded. required_some NotForDevice (option_and_then (λ tree. word_named global tree loaded.globals)
    (tree_of embedding loaded)) NoGlobal _ tt (λ word. tt))
task_fine embedding (Object number) s =
    required_some NotForDevice (object_at number s.objects) NoObject _ tt
    (λ object. required_some NotForDevice (described embedding object s) NoObject _ tt (λ of. tt))
task_fine embedding Seq s = tt
task_fine embedding Snapshot s = tt

-- an answer is no failure of a device
answer_fine : (reply : Reply SourceFault) → IsAnswer reply → IsDeviceFailed reply → ⊥
answer_fine (Refused refusal) answers failed = answers
answer_fine _ answers failed = failed

made_fine : (made one : Step SourceFault) → made ≡ one → (IsDeviceFailed made.reply → ⊥) → IsDeviceFailed one.reply → ⊥
made_fine made one is not failed = not (subst (λ (s : Step SourceFault). IsDeviceFailed s.reply) (sym is) failed)

perform_fine : (budget : ℕ) (task : Task) (old : State) (hosts : Hosts) (one : Step SourceFault)
    → perform budget task old hosts ≡ Some one → IsDeviceFailed one.reply → ⊥
perform_fine budget (Initialize name source tree) old hosts one is =
    let ran = mapped_some (after_load {Fault = SourceFault} name source old) _ one is in
    made_fine (after_load name source old ran.0) one ran.2
    (answer_fine _ (load_answers name source old (ran.0).end (ran.0).world))
perform_fine budget (Invoke loaded tree function args) old hosts one is =
    let ran = mapped_some (after_call {Fault = SourceFault} loaded old) _ one is in
    made_fine (after_call loaded old ran.0) one ran.2 (λ failed. failed)
perform_fine budget (Remove name) old hosts one is =
    made_fine (after_discard name old hosts) one (some_once (after_discard name old hosts) one is) (λ failed. failed)
perform_fine budget (Read word) old hosts one is =
    made_fine (steps.replied (Value word) old hosts) one (some_once (steps.replied (Value word) old hosts) one is)
    (λ failed. failed)
perform_fine budget (Show shown) old hosts one is =
    made_fine (steps.replied (ShownAs shown) old hosts) one (some_once (steps.replied (ShownAs shown) old hosts) one is)
    (λ failed. failed)
perform_fine budget Count old hosts one is =
    made_fine (steps.replied (Number old.seq) old hosts) one
    (some_once (steps.replied (Number old.seq) old hosts) one is)
    (λ failed. failed)
perform_fine budget Rewrite old hosts one is =
    made_fine (steps.replied Done old hosts) one (some_once (steps.replied Done old hosts) one is) (λ failed. failed)

refused_fine : (refusal : Refusal SourceFault) → NotForDevice (Err refusal) → IsDeviceFailed (Refused refusal) → ⊥
refused_fine DeviceFailed fine failed = fine
refused_fine _ fine failed = failed

fine_by : (budget : ℕ) (result : TaskResult SourceFault) (old : State) (hosts : Hosts) (one : Step SourceFault)
    → NotForDevice result → unless_refused budget result old hosts ≡ Some one → IsDeviceFailed one.reply → ⊥
fine_by budget (Ok task) old hosts one fine is = perform_fine budget task old hosts one is
fine_by budget (Err refusal) old hosts one fine is =
    made_fine (steps.replied (Refused refusal) old hosts) one
    (some_once (steps.replied (Refused refusal) old hosts) one is) (refused_fine refusal fine)

-- ---- steps of a live state

-- what is not an answer to a request is none that raises the number
pub no_answer : (reply : Reply SourceFault) → (IsAnswer reply → ⊥) → IsNoAnswer reply
no_answer (Answered end seq happened) not = not tt
no_answer (Value word) not = tt
no_answer (ShownAs shown) not = tt
no_answer (Number seq) not = tt
no_answer Done not = tt
no_answer (Refused refusal) not = tt

module _ {B : Type 0} (G : Ghosts B) (budget : ℕ) (request : Request) (old new : LiveState B)
    (reply : Reply SourceFault) where
  -- a step that is not an answer leaves the live state
  pub leaves : LiveSteps G budget request old reply new → (IsAnswer reply → ⊥) → new ≡ old
  leaves (inl took) not = took.unchanged (no_answer reply not)
  leaves (inr out) not = out.unchanged

  -- no request changes what is registered
  pub steps_registered : LiveSteps G budget request old reply new
      → (new.durable).registered ≡ (old.durable).registered
  steps_registered (inl took) = took.taken.registered
  steps_registered (inr out) = ap (λ (l : LiveState B). l.durable.registered) out.unchanged

  -- no step is refused for a device
  pub steps_fine : LiveSteps G budget request old reply new → IsDeviceFailed reply → ⊥
  steps_fine (inl took) failed =
      fine_by budget (task_of request old.durable) (old.durable).state
      (record { pool = old.pool; answers = took.answers })
      (record { reply = reply; state = (new.durable).state; hosts = record { pool = new.pool; answers = [] } })
      (task_fine (embedding_for (old.durable).registered) request (old.durable).state) took.taken.stepped failed
  steps_fine (inr out) failed = subst IsDeviceFailed out.reply_is failed

  -- where a request is answered, its task changes the state
  pub answer_changes : IsAnswer reply → LiveSteps G budget request old reply new
      → TaskChangesState (task_of request old.durable)
  answer_changes answers (inl took) =
      changes_by budget (task_of request old.durable) (old.durable).state
      (record { pool = old.pool; answers = took.answers })
      (record { reply = reply; state = (new.durable).state; hosts = record { pool = new.pool; answers = [] } })
      took.taken.stepped answers
  answer_changes answers (inr out) = absurd (subst IsAnswer out.reply_is answers)
