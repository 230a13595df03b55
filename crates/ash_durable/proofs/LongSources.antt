-- A source that is too long is no module, and so is what begins it.
use Rattle.std.proofs.Common.{◌≡◌, ◌⊎◌, inl, inr, ◌<◌, ◌≤◌, ℕ, nat_lt, Bool, true, false, not, List, [], ◌∷◌, ◌++◌}
use Rattle.std.proofs.Common.{map, length, take, refl, sym}
use Rattle.std.proofs.Common.{ap, ◌∙◌, subst, arith, Option, Some, None, Result, Ok, Err, is_some}
use Rattle.std.proofs.lemmas.Bool.Decides.{nat_tests}
use Rattle.std.proofs.lemmas.Grind.{common_steps}
use Rattle.ash_disk.specs.Device.{Device}
use Rattle.ash_host.specs.declared.host_object.HostObject.{Ghosts}
use Rattle.ash_lex.specs.declared.faults.LexFault.TheVariants.{SourceTooLong}
use Rattle.ash_registry.specs.AcceptedRegistrations.{Registration}
use Rattle.ash_typed.specs.Modules.{Module}
use Rattle.ash_requests.specs.States.{State, find_module}
use Rattle.ash_requests.specs.Requests.{Request, Load, Call, Discard, Get, Object, Seq, Snapshot, Reply, BadName}
use Rattle.ash_requests.specs.Requests.{ModuleTaken, TooManyModules}
use Rattle.ash_requests.specs.Tasks.{TaskResult, numbered, require, initialize, is_module_name, max_modules}
use Rattle.ash_requests.specs.Steps.{unless_refused}
use Rattle.ash_requests.specs.TaskResults.{TakesMemoryToFind, TaskChangesState}
use Rattle.ash_sources.specs.SourceFaults.{SourceFault, Lexical}
use Rattle.ash_sources.specs.SourceFaults as sources
use Rattle.ash_sources.specs.TypedSource.{typed_if_checked, typed_source}
use Rattle.ash_sources.proofs.CheckedSourceLaws.{of_no_tokens}
use Rattle.ash_states.specs.HostStates.{HostState, embedding_for}
use Rattle.ash_states.specs.StateSteps.{task_of, TaskRunsCode}
use Rattle.ash_engine.specs.LiveStates.{LiveState, AreOf}
use Rattle.ash_engine.specs.LiveSteps.{TakesStep}
use Rattle.ash_journal.specs.Journal.{LeavesOther}
use Rattle.ash_durable.specs.Saving.{HasRecord}
use Rattle.ash_durable.specs.Hosting.{Hosted, HostReplies, Handles, WantsInstall, MakesRoomFor}
use Rattle.ash_durable.specs.Batches.{BatchRequest, Asked, BadRequest, BatchReply, Replied, BatchResult, BatchSteps}
use Rattle.ash_durable.specs.Batches.{NoneLeft, Bad, Step, after_answer, answered_in, IsBodyOfBatch, adding_request, NextRunsCode}
use Rattle.ash_durable.specs.Batches.{HasBegunToChange, BatchOutcome, HandlesBatch, prefixed}

take-all : (n : ℕ) (xs : List ℕ) → length xs ≤ n → take n xs ≡ xs
take-all n xs h = grind (arith, common_steps)

length-most : (n : ℕ) (xs : List ℕ) → n ≤ length xs → length (take n xs) ≡ n
length-most n xs h = grind (arith, common_steps)

-- a source that is too long is read as none

typed_long : (registered : List Registration) (source : List ℕ) → 65536 < length source
    → typed_source registered source ≡ Err (Lexical SourceTooLong)
unfolding typed_source
typed_long registered source long =
    ap (typed_if_checked registered) (of_no_tokens registered source SourceTooLong long)

read_long : (registered : List Registration) (source : List ℕ) → 65536 < length source
    → (embedding_for registered).read source ≡ Err (Lexical SourceTooLong)
read_long registered source long = typed_long registered source long

-- what a load asks for, by what its source is read as
abbrev load_task : List ℕ → List ℕ → State → Result Module SourceFault → TaskResult SourceFault
load_task name source s reading =
    numbered s (require (is_module_name name) BadName
    (require (not (is_some (find_module name s))) ModuleTaken
    (require (nat_lt (length s.modules) max_modules) TooManyModules (initialize name source reading))))

long_task : (name prefix source : List ℕ) (state : HostState) → 65536 < length prefix → 65536 < length source
    → task_of (Load name prefix) state ≡ task_of (Load name source) state
long_task name prefix source state prefix_long source_long =
    let one : load_task name prefix state.state ((embedding_for state.registered).read prefix)
    ≡ load_task name prefix state.state (Err (Lexical SourceTooLong)) =
    ap (load_task name prefix state.state) (read_long state.registered prefix prefix_long) in
    let other : load_task name source state.state ((embedding_for state.registered).read source)
    ≡ load_task name source state.state (Err (Lexical SourceTooLong)) =
    ap (load_task name source state.state) (read_long state.registered source source_long) in
    one ∙ sym other

by-length : (name source : List ℕ) (state : HostState) (t : Bool) → nat_lt 65536 (length source) ≡ t
    → task_of (Load name (take 65537 source)) state ≡ task_of (Load name source) state
by-length name source state true e =
    let l : 65536 < length source = grind (arith, nat_tests, e) in
    let m = length-most 65537 source (omega arith) in
    long_task name (take 65537 source) source state (omega (arith, m)) l
by-length name source state false e =
    let l : length source ≤ 65536 = grind (arith, nat_tests, e) in
    ap (λ (x : List ℕ). task_of (Load name x) state) (take-all 65537 source (omega arith))

-- a load of the first 65,537 bytes asks for what a load of the source does
pub task_of_prefix : (name prefix source : List ℕ) (state : HostState) → prefix ≡ take 65537 source
    → task_of (Load name prefix) state ≡ task_of (Load name source) state
task_of_prefix name prefix source state e = ap (λ (x : List ℕ). task_of (Load name x) state) e
    ∙ by-length name source state (nat_lt 65536 (length source)) refl

takes_of_prefix : {B : Type 0} (G : Ghosts B) (budget : ℕ) (name prefix source : List ℕ) (old : LiveState B)
    (reply : Reply SourceFault) (new : LiveState B) → prefix ≡ take 65537 source
    → TakesStep G budget (Load name prefix) old reply new → TakesStep G budget (Load name source) old reply new
takes_of_prefix G budget name prefix source old reply new e step = record {
  answers = step.answers;
  taken = record {
    stepped = ap (λ (result : TaskResult SourceFault). unless_refused budget result (old.durable).state
        (record { pool = old.pool; answers = step.answers })) (sym (task_of_prefix name prefix source old.durable e))
        ∙ step.taken.stepped;
    registered = step.taken.registered;
  };
  gave = step.gave;
  unchanged = step.unchanged;
  named = step.named;
  no_more = step.no_more;
}

replies_of_prefix : {D B : Type 0} (device : Device D) (G : Ghosts B) (budget : ℕ) (name prefix source : List ℕ)
    (known : Option (LiveState B)) (old : Hosted D B) (reply : Reply SourceFault) (new : Hosted D B)
    → prefix ≡ take 65537 source → HostReplies device G budget (Load name prefix) known old reply new
    → HostReplies device G budget (Load name source) known old reply new
replies_of_prefix device G budget name prefix source None old reply new e h = h
replies_of_prefix device G budget name prefix source (Some live) old reply new e (inl h) =
    inl (record {
      between = h.between;
      room = h.room;
      after = h.after;
      stepped = takes_of_prefix G budget name prefix source live reply h.after e h.stepped;
      live_is = h.live_is;
      running = h.running;
      added = h.added;
      untouched = h.untouched;
      settles = h.settles;
    })
replies_of_prefix device G budget name prefix source (Some live) old reply new e (inr (inl out)) =
    inr (inl (record {
      room = out.room;
      ran_out = record {
        takes = tt;
        finds = subst (λ (t : TaskResult SourceFault). TakesMemoryToFind sources.MayTakeMemory t ⊎ TaskChangesState t)
            (task_of_prefix name prefix source live.durable e) out.ran_out.finds;
        reply_is = out.ran_out.reply_is;
        unchanged = out.ran_out.unchanged;
      };
      running = out.running;
      settles = out.settles;
    }))
replies_of_prefix device G budget name prefix source (Some live) old reply new e (inr (inr (inl lost))) =
    inr (inr (inl (record {
      between = lost.between;
      room = lost.room;
      changes = subst TaskChangesState (task_of_prefix name prefix source live.durable e) lost.changes;
      answer = lost.answer;
      after = lost.after;
      stepped = takes_of_prefix G budget name prefix source live lost.answer lost.after e lost.stepped;
      sound = lost.sound;
      lost = lost.lost;
      stopped = lost.stopped;
      settles = lost.settles;
    })))
replies_of_prefix device G budget name prefix source (Some live) old reply new e (inr (inr (inr (inl lost)))) =
    inr (inr (inr (inl (record {
      between = lost.between;
      room = lost.room;
      runs = subst TaskRunsCode (task_of_prefix name prefix source live.durable e) lost.runs;
      reply_is = lost.reply_is;
      journal_same = lost.journal_same;
      stopped = lost.stopped;
      settles = lost.settles;
    }))))
replies_of_prefix device G budget name prefix source (Some live) old reply new e (inr (inr (inr (inr none)))) =
    inr (inr (inr (inr (record { wanted = none.wanted; refused = none.refused; settles = none.settles }))))

-- and so does a host
pub handles_prefix : {D B : Type 0} (device : Device D) (G : Ghosts B) (budget : ℕ) (name prefix source : List ℕ)
    (old : Hosted D B) (reply : Reply SourceFault) (new : Hosted D B) → prefix ≡ take 65537 source
    → Handles device G budget (Load name prefix) old reply new
    → Handles device G budget (Load name source) old reply new
handles_prefix device G budget name prefix source old reply new e h = record {
  replies = replies_of_prefix device G budget name prefix source old.live old reply new e h.replies;
  sound = h.sound;
  saved = h.saved;
  failures = h.failures;
  honesty_first = h.honesty_first;
  honesty_second = h.honesty_second;
  registered = h.registered;
}

-- ---- batches

-- what is mapped to two lists that are joined is two lists that are joined
record SplitsAs {X Y : Type 0} (f : X → Y) (xs : List X) (front back : List Y) : Type 0 where
  front_of : List X
  back_of : List X
  joined : xs ≡ front_of ++ back_of
  front_is : front ≡ map f front_of
  back_is : back ≡ map f back_of

splits : {X Y : Type 0} (f : X → Y) (xs : List X) (front back : List Y) → map f xs ≡ front ++ back
    → SplitsAs f xs front back
splits f xs [] back is = record { front_of = []; back_of = xs; joined = refl; front_is = refl; back_is = sym is }
splits f [] (y ∷ ys) back is = absurd (cc)
splits f (x ∷ xs) (y ∷ ys) back is =
    let rest : map f xs ≡ ys ++ back = cc in
    let one : f x ≡ y = cc in
    let more = splits f xs ys back rest in
    record {
      front_of = x ∷ more.front_of;
      back_of = more.back_of;
      joined = ap (λ (l : List _). x ∷ l) more.joined;
      front_is = ap (λ (z : _). z ∷ ys) (sym one) ∙ ap (λ (l : List _). f x ∷ l) more.front_is;
      back_is = more.back_is;
    }

-- a generation that is wanted before the requests of a batch is wanted whatever its sources are
wants_of_prefixes : {D B : Type 0} (host : Hosted D B) (requests : List BatchRequest)
    → (WantsInstall (adding_request (map prefixed requests)) host → WantsInstall (adding_request requests) host)
    × (WantsInstall (adding_request requests) host → WantsInstall (adding_request (map prefixed requests)) host)
unfolding adding_request
wants_of_prefixes host [] = (λ wants. wants, λ wants. wants)
wants_of_prefixes host (Asked (Load name source) ∷ requests) = (λ wants. wants, λ wants. wants)
wants_of_prefixes host (Asked (Call name function arguments) ∷ requests) = (λ wants. wants, λ wants. wants)
wants_of_prefixes host (Asked (Discard name) ∷ requests) = (λ wants. wants, λ wants. wants)
wants_of_prefixes host (Asked _ ∷ requests) = wants_of_prefixes host requests
wants_of_prefixes host (BadRequest number ∷ requests) = wants_of_prefixes host requests

room_of_prefixes : {D B : Type 0} (device : Device D) (requests : List BatchRequest) (state : HostState)
    (old between : Hosted D B) → MakesRoomFor device (adding_request (map prefixed requests)) state old between
    → MakesRoomFor device (adding_request requests) state old between
room_of_prefixes device requests state old between (inl none) =
    inl (λ wants. none.0 ((wants_of_prefixes old requests).1 wants), none.1)
room_of_prefixes device requests state old between (inr some) =
    inr ((wants_of_prefixes old requests).0 some.0, some.1)

-- steps of a batch, and those of one with the same requests but for the rest of their sources
record StepsOf {B : Type 0} (G : Ghosts B) (budget : ℕ) (requests : List BatchRequest) (live : LiveState B)
    (replies : List BatchReply) (after : LiveState B) (answered : List (LiveState B)) : Type 0 where
  steps : BatchSteps G budget requests live replies after
  same : answered_in steps ≡ answered

-- a step before such steps
step_before : {B : Type 0} (G : Ghosts B) (budget : ℕ) (request : Request) (requests : List BatchRequest)
    (live : LiveState B) (reply : Reply SourceFault) (next : LiveState B) (replies : List BatchReply)
    (after : LiveState B) (later : List (LiveState B)) → TakesStep G budget request live reply next → AreOf G next
    → StepsOf G budget requests next replies after later
    → StepsOf G budget (Asked request ∷ requests) live (Replied reply ∷ replies) after (after_answer reply next later)
unfolding answered_in
step_before {B} G budget request requests live reply next replies after later stepped boxes rest = record {
  steps = Step request requests live reply next replies after stepped boxes rest.steps;
  same = ap (λ (all : List (LiveState B)). after_answer reply next all) rest.same;
}

steps_of_prefixes : {B : Type 0} (G : Ghosts B) (budget : ℕ) (requests : List BatchRequest) (live : LiveState B)
    (replies : List BatchReply) (after : LiveState B)
    → (steps : BatchSteps G budget (map prefixed requests) live replies after)
    → StepsOf G budget requests live replies after (answered_in steps)
unfolding answered_in
steps_of_prefixes G budget [] _ _ _ (NoneLeft live) = record { steps = NoneLeft live; same = refl }
steps_of_prefixes G budget (BadRequest _ ∷ requests) _ _ _ (Bad number _ live replies after more) =
    let rest = steps_of_prefixes G budget requests live replies after more in
    record { steps = Bad number requests live replies after rest.steps; same = rest.same }
steps_of_prefixes G budget (Asked (Load name source) ∷ requests) _ _ _
    (Step _ _ live reply next replies after stepped boxes more) =
    step_before G budget (Load name source) requests live reply next replies after (answered_in more)
    (takes_of_prefix G budget name (take 65537 source) source live reply next refl stepped) boxes
    (steps_of_prefixes G budget requests next replies after more)
steps_of_prefixes G budget (Asked (Call name function arguments) ∷ requests) _ _ _
    (Step _ _ live reply next replies after stepped boxes more) =
    step_before G budget (Call name function arguments) requests live reply next replies after (answered_in more) stepped boxes
    (steps_of_prefixes G budget requests next replies after more)
steps_of_prefixes G budget (Asked (Discard name) ∷ requests) _ _ _
    (Step _ _ live reply next replies after stepped boxes more) =
    step_before G budget (Discard name) requests live reply next replies after (answered_in more) stepped boxes
    (steps_of_prefixes G budget requests next replies after more)
steps_of_prefixes G budget (Asked (Get module_name name) ∷ requests) _ _ _
    (Step _ _ live reply next replies after stepped boxes more) =
    step_before G budget (Get module_name name) requests live reply next replies after (answered_in more) stepped boxes
    (steps_of_prefixes G budget requests next replies after more)
steps_of_prefixes G budget (Asked (Object number) ∷ requests) _ _ _
    (Step _ _ live reply next replies after stepped boxes more) =
    step_before G budget (Object number) requests live reply next replies after (answered_in more) stepped boxes
    (steps_of_prefixes G budget requests next replies after more)
steps_of_prefixes G budget (Asked Seq ∷ requests) _ _ _
    (Step _ _ live reply next replies after stepped boxes more) =
    step_before G budget Seq requests live reply next replies after (answered_in more) stepped boxes
    (steps_of_prefixes G budget requests next replies after more)
steps_of_prefixes G budget (Asked Snapshot ∷ requests) _ _ _
    (Step _ _ live reply next replies after stepped boxes more) =
    step_before G budget Snapshot requests live reply next replies after (answered_in more) stepped boxes
    (steps_of_prefixes G budget requests next replies after more)

next_of_prefixes : (requests : List BatchRequest) (state : HostState) → NextRunsCode (map prefixed requests) state
    → NextRunsCode requests state
next_of_prefixes [] state runs = runs
next_of_prefixes (BadRequest number ∷ requests) state runs = runs
next_of_prefixes (Asked (Load name source) ∷ requests) state runs =
    subst TaskRunsCode (task_of_prefix name (take 65537 source) source state refl) runs
next_of_prefixes (Asked _ ∷ requests) state runs = runs

begun_of_prefixes : {B : Type 0} (G : Ghosts B) (budget : ℕ) (requests : List BatchRequest) (live : LiveState B)
    → HasBegunToChange G budget (map prefixed requests) live → HasBegunToChange G budget requests live
begun_of_prefixes {B} G budget requests live begun =
    let split = splits prefixed requests begun.done begun.left begun.requests_are in
    let StepsFrom : List BatchRequest → Type 0 = λ done.
    (steps : BatchSteps G budget done live begun.replies begun.reached)
    → StepsOf G budget split.front_of live begun.replies begun.reached (answered_in steps) in
    let through : StepsFrom begun.done = subst StepsFrom (sym split.front_is)
    (λ steps. steps_of_prefixes G budget split.front_of live begun.replies begun.reached steps) in
    let whole = through begun.steps in
    record {
      done = split.front_of;
      left = split.back_of;
      requests_are = split.joined;
      replies = begun.replies;
      reached = begun.reached;
      steps = whole.steps;
      changes = elim begun.changes [
        | inl some ↦ inl (λ none. some (sym whole.same ∙ none))
        | inr next ↦ inr (next_of_prefixes split.back_of begun.reached.durable
            (subst (λ (left : List BatchRequest). NextRunsCode left begun.reached.durable) split.back_is next))
      ];
    }

batch_of_prefixes : {D B : Type 0} (device : Device D) (G : Ghosts B) (budget : ℕ) (requests : List BatchRequest)
    (known : Option (LiveState B)) (old : Hosted D B) (result : BatchResult) (new : Hosted D B)
    → BatchOutcome device G budget (map prefixed requests) known old result new
    → BatchOutcome device G budget requests known old result new
batch_of_prefixes device G budget requests None old (Ok replies) new h = h
batch_of_prefixes device G budget requests None old (Err refusal) new h = h
batch_of_prefixes {D} {B} device G budget requests (Some live) old (Ok replies) new took =
    let whole = steps_of_prefixes G budget requests live replies took.after took.steps in
    record {
      between = took.between;
      room = room_of_prefixes device requests live.durable old took.between took.room;
      after = took.after;
      steps = whole.steps;
      live_is = took.live_is;
      running = took.running;
      added = subst (λ (answered : List (LiveState B)). (answered ≡ [] → ⊥)
          → HasRecord device (IsBodyOfBatch took.after.durable answered) took.between.journal new.journal
          × LeavesOther took.between.journal new.journal) (sym whole.same) took.added;
      untouched = λ none. took.untouched (sym whole.same ∙ none);
      settles = took.settles;
    }
batch_of_prefixes device G budget requests (Some live) old (Err refusal) new (inl out) = inl (record {
  some_asked = λ none. out.some_asked (ap (λ (all : List BatchRequest). map prefixed all) none);
  room = room_of_prefixes device requests live.durable old new out.room;
  refusal_is = out.refusal_is;
  running = out.running;
  settles = out.settles;
})
batch_of_prefixes device G budget requests (Some live) old (Err refusal) new (inr (inl lost)) =
    let whole = steps_of_prefixes G budget requests live lost.replies lost.after lost.steps in
    inr (inl (record {
      between = lost.between;
      room = room_of_prefixes device requests live.durable old lost.between lost.room;
      replies = lost.replies;
      after = lost.after;
      steps = whole.steps;
      answered = λ none. lost.answered (sym whole.same ∙ none);
      sound = lost.sound;
      lost = lost.lost;
      stopped = lost.stopped;
      settles = lost.settles;
    }))
batch_of_prefixes device G budget requests (Some live) old (Err refusal) new (inr (inr (inl lost))) =
    inr (inr (inl (record {
      between = lost.between;
      room = room_of_prefixes device requests live.durable old lost.between lost.room;
      changes = begun_of_prefixes G budget requests live lost.changes;
      refusal_is = lost.refusal_is;
      journal_same = lost.journal_same;
      stopped = lost.stopped;
      settles = lost.settles;
    })))
batch_of_prefixes device G budget requests (Some live) old (Err refusal) new (inr (inr (inr none))) =
    inr (inr (inr (record {
      wanted = (wants_of_prefixes old requests).0 none.wanted;
      refused = none.refused;
      settles = none.settles;
    })))

-- a batch does not look past the first 65,537 bytes of a source
pub handles_batch_prefix : {D B : Type 0} (device : Device D) (G : Ghosts B) (budget : ℕ)
    (requests : List BatchRequest) (old : Hosted D B) (result : BatchResult) (new : Hosted D B)
    → HandlesBatch device G budget (map prefixed requests) old result new
    → HandlesBatch device G budget requests old result new
handles_batch_prefix device G budget requests old result new h = record {
  outcome = batch_of_prefixes device G budget requests old.live old result new h.outcome;
  sound = h.sound;
  saved = h.saved;
  failures = h.failures;
  honesty_first = h.honesty_first;
  honesty_second = h.honesty_second;
  registered = h.registered;
}
