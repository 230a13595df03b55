-- No request but a snapshot is replied that it is done.
use Rattle.std.proofs.Common.{◌≡◌, inl, inr, ℕ, nat_lt, not, List, length, [], Option, Some, None, is_some, position}
use Rattle.std.proofs.Common.{slice_get, Result, Ok, Err, refl, sym, ◌∙◌, subst}
use Rattle.std.specs.Option.{option_and_then}
use Rattle.std.specs.Str.{bytes_eq}
use Rattle.ash_host.specs.declared.host_object.HostObject.{Ghosts}
use Rattle.ash_host.specs.Objects.{object_at}
use Rattle.ash_typed.specs.Modules.{Function, Module}
use Rattle.ash_requests.specs.declared.argument.Arg.{Arg}
use Rattle.ash_requests.specs.States.{LoadedModule, State, Hosts, Embedding, find_module}
use Rattle.ash_requests.specs.Requests.{Request, Load, Call, Discard, Get, Object, Seq, Snapshot, Reply, Value, ShownAs}
use Rattle.ash_requests.specs.Requests.{Number, Done, Refused, SequenceSpent, BadName, ModuleTaken, TooManyModules}
use Rattle.ash_requests.specs.Requests.{NoModule, NoFunction, NotCallable, BadArguments, NoGlobal, NoObject}
use Rattle.ash_requests.specs.Tasks.{Initialize, Invoke, Remove, Read, Show, Count, Rewrite, TaskResult, initialize}
use Rattle.ash_requests.specs.Tasks.{call_in, tree_of, word_named, described, is_module_name, is_callable, arguments_of}
use Rattle.ash_requests.specs.Tasks.{max_modules, max_seq}
use Rattle.ash_requests.specs.Tasks as tasks
use Rattle.ash_requests.specs.Steps.{Step, unless_refused, after_load, after_call, after_discard}
use Rattle.ash_requests.specs.Steps as steps
use Rattle.ash_sources.specs.SourceFaults.{SourceFault}
use Rattle.ash_states.specs.HostStates.{embedding_for}
use Rattle.ash_states.specs.StateSteps.{task_of}
use Rattle.ash_engine.specs.LiveStates.{LiveState}
use Rattle.ash_engine.specs.LiveSteps.{LiveSteps}
use Rattle.ash_durable.specs.Hosting.{IsAnswer}
use Rattle.ash_durable.proofs.Answering.{required, required_some, some_once, mapped_some, load_answers}

abbrev IsDone : Reply SourceFault → Type 0
IsDone Done = Unit {0}
IsDone _ = ⊥

abbrev NotRewrite : TaskResult SourceFault → Type 0
NotRewrite (Ok Rewrite) = ⊥
NotRewrite _ = Unit {0}

initializes : (name source : List ℕ) (reading : Result Module SourceFault)
    → NotRewrite (initialize name source reading)
initializes name source (Ok tree) = tt
initializes name source (Err fault) = tt

called_in : (loaded : LoadedModule) (tree : Module) (name : List ℕ) (args : List Arg)
    → NotRewrite (call_in loaded tree name args)
called_in loaded tree name args =
    required_some NotRewrite (position (λ (f : Function). bytes_eq f.name name) tree.functions) NoFunction _ tt
    (λ place. required_some NotRewrite (slice_get tree.functions place) NoFunction _ tt
    (λ f. required NotRewrite (is_callable f) NotCallable _ tt
    (required_some NotRewrite (arguments_of f.parameters args) BadArguments _ tt (λ given. tt))))

-- no other request asks for the state to be written afresh
task_not_rewrite : (embedding : Embedding SourceFault) (request : Request) (s : State) → (request ≡ Snapshot → ⊥)
    → NotRewrite (tasks.task_of embedding request s)
task_not_rewrite embedding (Load name source) s other =
    required NotRewrite (nat_lt s.seq max_seq) SequenceSpent _ tt
    (required NotRewrite (is_module_name name) BadName _ tt
    (required NotRewrite (not (is_some (find_module name s))) ModuleTaken _ tt
    (required NotRewrite (nat_lt (length s.modules) max_modules) TooManyModules _ tt
    (initializes name source (embedding.read source)))))
task_not_rewrite embedding (Call name function args) s other =
    required NotRewrite (nat_lt s.seq max_seq) SequenceSpent _ tt
    (required_some NotRewrite (find_module name s) NoModule _ tt
    (λ loaded. required_some NotRewrite (tree_of embedding loaded) NoModule _ tt
    (λ tree. called_in loaded tree function args)))
task_not_rewrite embedding (Discard name) s other =
    required NotRewrite (nat_lt s.seq max_seq) SequenceSpent _ tt
    (required_some NotRewrite (find_module name s) NoModule _ tt (λ loaded. tt))
task_not_rewrite embedding (Get name global) s other =
    required_some NotRewrite (find_module name s) NoModule _ tt
    (λ loaded. required_some NotRewrite (option_and_then (λ tree. word_named global tree loaded.globals)
    (tree_of embedding loaded)) NoGlobal _ tt (λ word. tt))
task_not_rewrite embedding (Object number) s other =
    required_some NotRewrite (object_at number s.objects) NoObject _ tt
    (λ object. required_some NotRewrite (described embedding object s) NoObject _ tt (λ of. tt))
task_not_rewrite embedding Seq s other = tt
task_not_rewrite embedding Snapshot s other = absurd (other refl)

answer_not_done : (reply : Reply SourceFault) → IsAnswer reply → IsDone reply → ⊥
answer_not_done Done answers done = answers
answer_not_done _ answers done = done

made_not_done : (made one : Step SourceFault) → made ≡ one → (IsDone made.reply → ⊥) → IsDone one.reply → ⊥
made_not_done made one is not done = not (subst (λ (s : Step SourceFault). IsDone s.reply) (sym is) done)

not_done_by : (budget : ℕ) (result : TaskResult SourceFault) (old : State) (hosts : Hosts) (one : Step SourceFault)
    → NotRewrite result → unless_refused budget result old hosts ≡ Some one → IsDone one.reply → ⊥
not_done_by budget (Ok (Initialize name source tree)) old hosts one other is =
    let ran = mapped_some (after_load {Fault = SourceFault} name source old) _ one is in
    made_not_done (after_load name source old ran.0) one ran.2
    (answer_not_done _ (load_answers name source old (ran.0).end (ran.0).world))
not_done_by budget (Ok (Invoke loaded tree function args)) old hosts one other is =
    let ran = mapped_some (after_call {Fault = SourceFault} loaded old) _ one is in
    made_not_done (after_call loaded old ran.0) one ran.2 (λ done. done)
not_done_by budget (Ok (Remove name)) old hosts one other is =
    made_not_done (after_discard name old hosts) one (some_once (after_discard name old hosts) one is) (λ done. done)
not_done_by budget (Ok (Read word)) old hosts one other is =
    made_not_done (steps.replied (Value word) old hosts) one
    (some_once (steps.replied (Value word) old hosts) one is) (λ done. done)
not_done_by budget (Ok (Show shown)) old hosts one other is =
    made_not_done (steps.replied (ShownAs shown) old hosts) one
    (some_once (steps.replied (ShownAs shown) old hosts) one is) (λ done. done)
not_done_by budget (Ok Count) old hosts one other is =
    made_not_done (steps.replied (Number old.seq) old hosts) one
    (some_once (steps.replied (Number old.seq) old hosts) one is) (λ done. done)
not_done_by budget (Ok Rewrite) old hosts one other is = absurd other
not_done_by budget (Err refusal) old hosts one other is =
    made_not_done (steps.replied (Refused refusal) old hosts) one
    (some_once (steps.replied (Refused refusal) old hosts) one is) (λ done. done)

-- no step of another request has that reply
pub not_done : {B : Type 0} (G : Ghosts B) (budget : ℕ) (request : Request) (old new : LiveState B)
    (reply : Reply SourceFault) → (request ≡ Snapshot → ⊥) → LiveSteps G budget request old reply new
    → reply ≡ Done → ⊥
not_done G budget request old new reply other steps is = elim steps [
  | inl took ↦
      not_done_by budget (task_of request old.durable) (old.durable).state
      (record { pool = old.pool; answers = took.answers })
      (record { reply = reply; state = (new.durable).state; hosts = record { pool = new.pool; answers = [] } })
      (task_not_rewrite (embedding_for (old.durable).registered) request (old.durable).state other)
      took.taken.stepped (subst IsDone (sym is) tt)
  | inr out ↦ subst IsDone (sym is ∙ out.reply_is) tt
]
