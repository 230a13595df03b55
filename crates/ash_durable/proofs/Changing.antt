-- Which requests change the state, and which take no ticks.
use Rattle.std.proofs.Common.{◌≡◌, inl, inr, ℕ, nat_lt, List, Option, Some, None, Ok, Err, refl, ◌∙◌, subst}
use Rattle.std.specs.Option.{option_and_then}
use Rattle.ash_disk.specs.Device.{Device}
use Rattle.ash_host.specs.declared.host_object.HostObject.{Ghosts}
use Rattle.ash_host.specs.Objects.{object_at}
use Rattle.ash_requests.specs.States.{State, Hosts, Embedding, find_module}
use Rattle.ash_requests.specs.Requests.{Request, Load, Call, Discard, Get, Object, Seq, Snapshot, Reply, SequenceSpent}
use Rattle.ash_requests.specs.Requests.{NoModule, NoGlobal, NoObject}
use Rattle.ash_requests.specs.Tasks.{Initialize, Invoke, Remove, Read, Show, Count, Rewrite, TaskResult, tree_of}
use Rattle.ash_requests.specs.Tasks.{word_named}
use Rattle.ash_requests.specs.Tasks.{described, max_seq}
use Rattle.ash_requests.specs.Tasks as tasks
use Rattle.ash_requests.specs.Steps.{unless_refused}
use Rattle.ash_requests.specs.TaskResults.{TaskChangesState}
use Rattle.ash_sources.specs.SourceFaults.{SourceFault}
use Rattle.ash_states.specs.HostStates.{HostState, embedding_for}
use Rattle.ash_states.specs.StateSteps.{task_of}
use Rattle.ash_engine.specs.LiveStates.{LiveState}
use Rattle.ash_engine.specs.LiveSteps.{LiveSteps, TakesStep}
use Rattle.ash_durable.specs.Hosting.{Hosted, IsAnswer, MayAdd, WantsInstall, MakesRoomFor, HostReplies, Handles}
use Rattle.ash_durable.proofs.RunningCode.{runs_changes}
use Rattle.ash_durable.proofs.Answering.{required, required_some, answer_changes}

-- ---- requests that change the state

abbrev ChangesNothing : TaskResult SourceFault → Type 0
ChangesNothing result = TaskChangesState result → ⊥

reads : (embedding : Embedding SourceFault) (name global : List ℕ) (s : State)
    → ChangesNothing (tasks.task_of embedding (Get name global) s)
reads embedding name global s =
    required_some ChangesNothing (find_module name s) NoModule _ (λ no. no)
    (λ loaded. required_some ChangesNothing (option_and_then (λ tree. word_named global tree loaded.globals)
    (tree_of embedding loaded)) NoGlobal _ (λ no. no) (λ word no. no))

shows : (embedding : Embedding SourceFault) (number : ℕ) (s : State)
    → ChangesNothing (tasks.task_of embedding (Object number) s)
shows embedding number s =
    required_some ChangesNothing (object_at number s.objects) NoObject _ (λ no. no)
    (λ object. required_some ChangesNothing (described embedding object s) NoObject _ (λ no. no) (λ of no. no))

-- a request that changes the state may add a record
pub change_adds : (request : Request) (state : HostState) → TaskChangesState (task_of request state) → MayAdd request
change_adds (Load name source) state changes = tt
change_adds (Call module_name function arguments) state changes = tt
change_adds (Discard name) state changes = tt
change_adds (Get name global) state changes =
    absurd (reads (embedding_for state.registered) name global state.state changes)
change_adds (Object number) state changes =
    absurd (shows (embedding_for state.registered) number state.state changes)
change_adds Seq state changes = absurd changes
change_adds Snapshot state changes = absurd changes

pub change_may_add : {B : Type 0} (G : Ghosts B) (budget : ℕ) (request : Request) (old new : LiveState B)
    (reply : Reply SourceFault) → IsAnswer reply → LiveSteps G budget request old reply new → MayAdd request
change_may_add G budget request old new reply answers steps =
    change_adds request old.durable (answer_changes G budget request old new reply answers steps)

-- ---- hosts that are as they were

-- a host that installs nothing handles a request as it is
pub as_it_is : {D B : Type 0} (device : Device D) (request : Request) (state : HostState) (old between : Hosted D B)
    → (WantsInstall request old → ⊥) → MakesRoomFor device request state old between → between ≡ old
as_it_is device request state old between not (inl none) = none.1
as_it_is device request state old between not (inr some) = absurd (not some.0)

-- a request that only reads leaves the host as it was
pub reads_only : {D B : Type 0} (device : Device D) (G : Ghosts B) (budget : ℕ) (request : Request) (old : Hosted D B)
    (reply : Reply SourceFault) (new : Hosted D B) → (MayAdd request → ⊥) → (WantsInstall request old → ⊥)
    → Handles device G budget request old reply new → new ≡ old
reads_only {D} {B} device G budget request old reply new adds not handled = by old.live refl
  where
    none : (state : HostState) → TaskChangesState (task_of request state) → ⊥
    none state changes = adds (change_adds request state changes)

    by : (known : Option (LiveState B)) → old.live ≡ known → new ≡ old
    by None is =
        let replies : HostReplies device G budget request None old reply new =
        subst (λ (l : Option (LiveState B)). HostReplies device G budget request l old reply new) is handled.replies in
        replies.1
    by (Some live) is =
        let replies : HostReplies device G budget request (Some live) old reply new =
        subst (λ (l : Option (LiveState B)). HostReplies device G budget request l old reply new) is handled.replies in
        elim replies [
          | inl took ↦
              took.untouched (λ answers. none live.durable
              (answer_changes G budget request live took.after reply answers (inl took.stepped)))
              ∙ as_it_is device request live.durable old took.between not took.room
          | inr (inl out) ↦ as_it_is device request live.durable old new not out.room
          | inr (inr (inl lost)) ↦ absurd (none live.durable lost.changes)
          | inr (inr (inr (inl lost))) ↦ absurd (none live.durable (runs_changes (task_of request live.durable) lost.runs))
          | inr (inr (inr (inr refused))) ↦ absurd (not refused.wanted)
        ]

-- ---- requests that take no ticks

abbrev pub TakesNoTicks : Request → Type 0
TakesNoTicks (Load name source) = ⊥
TakesNoTicks (Call module_name function arguments) = ⊥
TakesNoTicks _ = Unit {0}

abbrev HasNoTicks : TaskResult SourceFault → Type 0
HasNoTicks (Ok (Initialize name source tree)) = ⊥
HasNoTicks (Ok (Invoke loaded tree function args)) = ⊥
HasNoTicks _ = Unit {0}

task_without : (embedding : Embedding SourceFault) (request : Request) (s : State) → TakesNoTicks request
    → HasNoTicks (tasks.task_of embedding request s)
task_without embedding (Load name source) s takes = absurd takes
task_without embedding (Call name function args) s takes = absurd takes
task_without embedding (Discard name) s takes =
    required HasNoTicks (nat_lt s.seq max_seq) SequenceSpent _ tt
    (required_some HasNoTicks (find_module name s) NoModule _ tt (λ loaded. tt))
task_without embedding (Get name global) s takes =
    required_some HasNoTicks (find_module name s) NoModule _ tt
    (λ loaded. required_some HasNoTicks (option_and_then (λ tree. word_named global tree loaded.globals)
    (tree_of embedding loaded)) NoGlobal _ tt (λ word. tt))
task_without embedding (Object number) s takes =
    required_some HasNoTicks (object_at number s.objects) NoObject _ tt
    (λ object. required_some HasNoTicks (described embedding object s) NoObject _ tt (λ of. tt))
task_without embedding Seq s takes = tt
task_without embedding Snapshot s takes = tt

same_at : (b c : ℕ) (result : TaskResult SourceFault) (s : State) (hosts : Hosts) → HasNoTicks result
    → unless_refused b result s hosts ≡ unless_refused c result s hosts
same_at b c (Ok (Initialize name source tree)) s hosts without = absurd without
same_at b c (Ok (Invoke loaded tree function args)) s hosts without = absurd without
same_at b c (Ok (Remove name)) s hosts without = refl
same_at b c (Ok (Read word)) s hosts without = refl
same_at b c (Ok (Show shown)) s hosts without = refl
same_at b c (Ok Count) s hosts without = refl
same_at b c (Ok Rewrite) s hosts without = refl
same_at b c (Err refusal) s hosts without = refl

takes_at : {B : Type 0} (G : Ghosts B) (b c : ℕ) (request : Request) (old : LiveState B) (reply : Reply SourceFault)
    (new : LiveState B) → TakesNoTicks request → TakesStep G b request old reply new
    → TakesStep G c request old reply new
takes_at G b c request old reply new takes step = record {
  answers = step.answers;
  taken = record {
    stepped = same_at c b (task_of request old.durable) (old.durable).state
        (record { pool = old.pool; answers = step.answers })
        (task_without (embedding_for (old.durable).registered) request (old.durable).state takes) ∙ step.taken.stepped;
    registered = step.taken.registered;
  };
  gave = step.gave;
  unchanged = step.unchanged;
  named = step.named;
  no_more = step.no_more;
}

replies_at : {D B : Type 0} (device : Device D) (G : Ghosts B) (b c : ℕ) (request : Request)
    (known : Option (LiveState B)) (old : Hosted D B) (reply : Reply SourceFault) (new : Hosted D B)
    → TakesNoTicks request
    → HostReplies device G b request known old reply new → HostReplies device G c request known old reply new
replies_at device G b c request None old reply new takes h = h
replies_at device G b c request (Some live) old reply new takes (inl took) = inl (record {
  between = took.between;
  room = took.room;
  after = took.after;
  stepped = takes_at G b c request live reply took.after takes took.stepped;
  live_is = took.live_is;
  running = took.running;
  added = took.added;
  untouched = took.untouched;
  settles = took.settles;
})
replies_at device G b c request (Some live) old reply new takes (inr (inl out)) = inr (inl out)
replies_at device G b c request (Some live) old reply new takes (inr (inr (inl lost))) = inr (inr (inl (record {
  between = lost.between;
  room = lost.room;
  changes = lost.changes;
  answer = lost.answer;
  after = lost.after;
  stepped = takes_at G b c request live lost.answer lost.after takes lost.stepped;
  sound = lost.sound;
  lost = lost.lost;
  stopped = lost.stopped;
  settles = lost.settles;
})))
replies_at device G b c request (Some live) old reply new takes (inr (inr (inr other))) = inr (inr (inr other))

-- a host handles them with any number of ticks
pub handles_at : {D B : Type 0} (device : Device D) (G : Ghosts B) (b c : ℕ) (request : Request) (old : Hosted D B)
    (reply : Reply SourceFault) (new : Hosted D B) → TakesNoTicks request → Handles device G b request old reply new
    → Handles device G c request old reply new
handles_at device G b c request old reply new takes h = record {
  replies = replies_at device G b c request old.live old reply new takes h.replies;
  sound = h.sound;
  saved = h.saved;
  failures = h.failures;
  honesty_first = h.honesty_first;
  honesty_second = h.honesty_second;
  registered = h.registered;
}
