-- What a request of a host does that finds room: one that is not answered, one that is, if the answer is stored, and
-- one that loses the state.
use Rattle.std.proofs.Common.{◌≡◌, inl, inr, ℕ, List, Option, Some, None, unwrap_or, Result, Ok, Err}
use Rattle.std.proofs.Common.{refl, sym, ◌∙◌, ap, subst}
use Rattle.ash_disk.specs.Device.{Device}
use Rattle.ash_journal.specs.declared.journal.Journal.{Journal}
use Rattle.ash_journal.specs.Journal.{first_disk, second_disk}
use Rattle.ash_journal.specs.JournalFailures.{CountsFailures}
use Rattle.ash_host.specs.declared.host_object.HostObject.{Ghosts}
use Rattle.ash_registry.specs.AcceptedRegistrations.{Registration}
use Rattle.ash_requests.specs.Requests.{Request, Seq, Reply, Answered, Refused, NoMemory}
use Rattle.ash_requests.specs.StepLaws.{events_of_reply}
use Rattle.ash_requests.specs.declared.refusal.Refusal.TheVariants as the
use Rattle.ash_sources.specs.SourceFaults.{SourceFault}
use Rattle.ash_states.specs.HostStates.{HostState}
use Rattle.ash_states.specs.StateSteps.{task_of, TaskRunsCode}
use Rattle.ash_engine.specs.LiveStates.{LiveState, EngineState}
use Rattle.ash_engine.specs.LiveSteps.{LiveSteps, IsNoAnswer}
use Rattle.ash_durable.specs.StoredStates.{HoldsState}
use Rattle.ash_durable.specs.Saving.{HostRefusal, IsBefore, IsDeviceRefusal}
use Rattle.ash_durable.specs.Hosting.{Hosted, first, second, live_unless, seq_in, IsRunning, IsSaved, IsHonest, Settles}
use Rattle.ash_durable.specs.Hosting.{IsSound, RunsSound, IsAnswer, IsDeviceFailed, HostReplies, Handles, reply_stopped}
use Rattle.ash_durable.specs.HostReplies.{refused_by}
use Rattle.ash_durable.specs.HostRequests.{Commits}
use Rattle.ash_durable.proofs.Answering.{leaves, steps_fine, steps_registered, answer_changes}
use Rattle.ash_durable.proofs.Composing.{runs_in, stopped_runs, honest_before, counts_as, counts_none, counts_then}
use Rattle.ash_durable.proofs.Composing.{HadRoom, held_between, settles_as_it_is, settles_added}

-- a host as it is seen
abbrev pub seen_host : {D B : Type 0} → Option ℕ → EngineState B → Journal D → Hosted D B
seen_host stopped engine journal = record {
  registered = engine.registered;
  live = live_unless stopped engine.live;
  seq = unwrap_or stopped (seq_in engine.live);
  journal = journal;
}

-- a host that runs in a live state
abbrev pub host_in : {D B : Type 0} → LiveState B → Journal D → Hosted D B
host_in live journal = record {
  registered = live.durable.registered;
  live = Some live;
  seq = live.durable.state.seq;
  journal = journal;
}

-- a host that must be reopened
abbrev pub host_stopped : {D : Type 0} (B : Type 0) → List Registration → ℕ → Journal D → Hosted D B
host_stopped B registered seq journal = record { registered = registered; live = None; seq = seq; journal = journal }

-- what an engine's facts say of what is registered
abbrev pub HasRegistered : {B : Type 0} → EngineState B → Type 0
HasRegistered {B} engine = (live : LiveState B) → engine.live ≡ Some live → live.durable.registered ≡ engine.registered

-- a host that is seen to run does so in a live state
pub seen_in : {D B : Type 0} (engine : EngineState B) (live : LiveState B) (journal : Journal D)
    → engine.live ≡ Some live → HasRegistered engine → seen_host None engine journal ≡ host_in live journal
seen_in {D} {B} engine live journal is has =
    let reg : engine.registered ≡ live.durable.registered = sym (has live is) in
    ap (λ (r : List Registration). with_these r engine.live) reg
    ∙ ap (λ (l : Option (LiveState B)). with_these live.durable.registered l) is
  where
    with_these : List Registration → Option (LiveState B) → Hosted D B
    with_these registered known =
        record { registered = registered; live = known; seq = seq_in known; journal = journal }

pub running_seen : {D B : Type 0} (live : LiveState B) (journal : Journal D)
    → IsRunning live.durable (host_in live journal)
running_seen live journal = record { registered_is = refl; state_is = refl; seq_is = refl }

-- ---- failures

-- a refusal of a call is that a device failed where the reply is

failed_reply : (refusal : HostRefusal) → IsDeviceRefusal refusal → IsDeviceFailed (refused_by refusal)
failed_reply the.DeviceFailed failed = tt
failed_reply _ failed = absurd failed

failed_call : (refusal : HostRefusal) → IsDeviceFailed (refused_by refusal) → IsDeviceRefusal refusal
failed_call the.DeviceFailed failed = tt
failed_call _ failed = absurd failed

pub counts_replied : (refusal : HostRefusal) (a b c d : ℕ) → CountsFailures (IsDeviceRefusal refusal) a b c d
    → CountsFailures (IsDeviceFailed (refused_by refusal)) a b c d
counts_replied refusal a b c d counts = counts_as (IsDeviceRefusal refusal) (IsDeviceFailed (refused_by refusal))
    a b c d (failed_reply refusal) (failed_call refusal) counts

-- ---- a host that must be reopened

stopped_none : (request : Request) (seq : ℕ) → IsDeviceFailed (reply_stopped request seq) → ⊥
stopped_none Seq seq failed = failed
stopped_none _ seq failed = failed

-- nothing is done
pub handles_stopped : {D B : Type 0} (device : Device D) (G : Ghosts B) (budget : ℕ) (request : Request)
    (host : Hosted D B) (reply : Reply SourceFault) → host.live ≡ None → reply ≡ reply_stopped request host.seq
    → Handles device G budget request host reply host
handles_stopped {D} {B} device G budget request host reply none is = record {
  replies = subst (λ (known : Option (LiveState B)). HostReplies device G budget request known host reply host)
      (sym none) (is, refl);
  sound = λ was. was;
  saved = λ was. was;
  failures = counts_none (IsDeviceFailed reply) (device.failures (first host)) (device.failures (second host))
      (λ failed. stopped_none request host.seq (subst IsDeviceFailed is failed));
  honesty_first = refl;
  honesty_second = refl;
  registered = refl;
}

-- the same of a host as it is seen
pub handles_seen_stopped : {D B : Type 0} (device : Device D) (G : Ghosts B) (budget : ℕ) (request : Request)
    (stopped : Option ℕ) (engine : EngineState B) (journal : Journal D) (host : Hosted D B) (seq : ℕ)
    (reply : Reply SourceFault) → stopped ≡ Some seq → seen_host stopped engine journal ≡ host
    → reply ≡ reply_stopped request seq → Handles device G budget request host reply host
handles_seen_stopped device G budget request None engine journal host seq reply stops seen is = absurd (cc)
handles_seen_stopped {D} {B} device G budget request (Some n) engine journal host seq reply stops seen is =
    let same : n ≡ seq = cc in
    subst (λ (h : Hosted D B). Handles device G budget request h reply h) seen
    (handles_stopped device G budget request (seen_host (Some n) engine journal) reply refl
    (is ∙ ap (λ (k : ℕ). reply_stopped request k) (sym same)))

-- ---- a request that is not answered

-- a host with the live state of another is sound where that is
pub sound_same : {D B : Type 0} (G : Ghosts B) (old new : Hosted D B) → new.live ≡ old.live → RunsSound G old
    → RunsSound G new
sound_same G old new same was = λ live is. was live (sym same ∙ is)

-- and so is one that must be reopened
pub sound_stopped : {D B : Type 0} (G : Ghosts B) (host : Hosted D B) → host.live ≡ None → RunsSound G host
sound_stopped G host none = λ live is. let h : None ≡ Some live = sym none ∙ is in absurd (cc)

replies_as_it_is : {D B : Type 0} (device : Device D) (G : Ghosts B) (budget : ℕ) (request : Request)
    (live : LiveState B) (old between : Hosted D B) (reply : Reply SourceFault)
    → HadRoom device request live.durable old between → between.live ≡ Some live
    → (IsAnswer reply → ⊥) → LiveSteps G budget request live reply live
    → HostReplies device G budget request (Some live) old reply between
replies_as_it_is device G budget request live old between reply room is not (inl stepped) = inl (record {
  between = between;
  room = room.room;
  after = live;
  stepped = stepped;
  live_is = is;
  running = room.running;
  added = λ given. absurd (not given);
  untouched = λ _. refl;
  settles = settles_as_it_is device request live.durable old between room;
})
replies_as_it_is device G budget request live old between reply room is not (inr out) = inr (inl (record {
  room = room.room;
  ran_out = out;
  running = room.running;
  settles = settles_as_it_is device request live.durable old between room;
}))

pub handles_as_it_is : {D B : Type 0} (device : Device D) (G : Ghosts B) (budget : ℕ) (request : Request)
    (live : LiveState B) (old between : Hosted D B) (reply : Reply SourceFault)
    → HadRoom device request live.durable old between → between.live ≡ Some live
    → (IsAnswer reply → ⊥) → LiveSteps G budget request live reply live
    → Handles device G budget request old reply between
handles_as_it_is {D} {B} device G budget request live old between reply room is not steps = record {
  replies = subst (λ (known : Option (LiveState B)). HostReplies device G budget request known old reply between)
      (sym is ∙ room.live_same) (replies_as_it_is device G budget request live old between reply room is not steps);
  sound = sound_same G old between room.live_same;
  saved = room.saved;
  failures = counts_as ⊥ (IsDeviceFailed reply) (device.failures (first old)) (device.failures (second old))
      (device.failures (first between)) (device.failures (second between)) (λ no. absurd no)
      (steps_fine G budget request live live reply steps) room.disks.failures;
  honesty_first = room.disks.honesty_first;
  honesty_second = room.disks.honesty_second;
  registered = room.disks.registered;
}

-- it leaves the live state
pub handles_untouched : {D B : Type 0} (device : Device D) (G : Ghosts B) (budget : ℕ) (request : Request)
    (live after : LiveState B) (journal : Journal D) (old : Hosted D B) (reply : Reply SourceFault)
    → HadRoom device request live.durable old (host_in live journal) → (IsAnswer reply → ⊥)
    → LiveSteps G budget request live reply after
    → Handles device G budget request old reply (host_in after journal)
handles_untouched {D} {B} device G budget request live after journal old reply room not steps =
    let same : after ≡ live = leaves G budget request live after reply steps not in
    subst (λ (l : LiveState B). Handles device G budget request old reply (host_in l journal)) (sym same)
    (handles_as_it_is device G budget request live old (host_in live journal) reply room refl not
    (subst (λ (l : LiveState B). LiveSteps G budget request live reply l) same steps))

-- ---- a request that is answered, if the answer is stored

-- an answer raises the sequence number
is_no_answer : (reply : Reply SourceFault) → IsAnswer reply → IsNoAnswer reply → ⊥
is_no_answer (Answered end seq happened) answers none = none
is_no_answer _ answers none = answers

module _ {D B : Type 0} (device : Device D) (G : Ghosts B) (budget : ℕ) (request : Request) (live after : LiveState B)
    (journal : Journal D) (old : Hosted D B) (reply : Reply SourceFault) (answers : IsAnswer reply)
    (room : HadRoom device request live.durable old (host_in live journal))
    (steps : LiveSteps G budget request live reply after) (sound : IsSound G after) where
  -- what every outcome of storing it leaves
  registered_same : (live.durable).registered ≡ (after.durable).registered
  registered_same = sym (steps_registered G budget request live after reply steps)

  -- the state before it differs from the state after it in no more than the live state names
  is_before : IsBefore after live.durable
  is_before = elim steps [
    | inl taken ↦ record {
      registered = registered_same;
      happened = events_of_reply reply;
      names = taken.named (λ none. is_no_answer reply answers none);
    }
    | inr out ↦ absurd (subst IsAnswer out.reply_is answers)
  ]

  old_live : old.live ≡ Some live
  old_live = sym room.live_same

  commits_registered : (result : Result (Unit {0}) HostRefusal) (new : Hosted D B)
      → Commits device live.durable.state.seq (host_in after journal) result new → new.registered ≡ old.registered
  commits_registered result new committed = committed.disks.registered ∙ sym registered_same ∙ room.disks.registered

  settles_stored : (result : Result (Unit {0}) HostRefusal) (new : Hosted D B)
      → Commits device live.durable.state.seq (host_in after journal) result new
      → Settles device live.durable after.durable old new
  settles_stored result new committed =
      settles_added device request live.durable old (host_in live journal) room after.durable new
      (λ held. committed.moments live.durable after refl is_before held)

  replies_stored : (new : Hosted D B) → Commits device live.durable.state.seq (host_in after journal) (Ok tt) new
      → LiveSteps G budget request live reply after → HostReplies device G budget request (Some live) old reply new
  replies_stored new committed (inl stepped) =
      let outcome = committed.outcome after refl in
      inl (record {
        between = host_in live journal;
        room = room.room;
        after = after;
        stepped = stepped;
        live_is = outcome.1;
        running = outcome.0;
        added = λ _. (outcome.2, outcome.3);
        untouched = λ not. absurd (not answers);
        settles = settles_stored (Ok tt) new committed;
      })
  replies_stored new committed (inr out) = absurd (subst IsAnswer out.reply_is answers)

  replies_lost : (refusal : HostRefusal) (new : Hosted D B)
      → Commits device live.durable.state.seq (host_in after journal) (Err refusal) new
      → LiveSteps G budget request live reply after
      → HostReplies device G budget request (Some live) old (refused_by refusal) new
  replies_lost refusal new committed (inl stepped) =
      let outcome = committed.outcome after refl in
      inr (inr (inl (record {
        between = host_in live journal;
        room = room.room;
        changes = answer_changes G budget request live after reply answers (inl stepped);
        answer = reply;
        after = after;
        stepped = stepped;
        sound = sound;
        lost = outcome.2;
        stopped = record { stopped = outcome.0; seq_same = outcome.1 ∙ sym room.began.seq_is };
        settles = settles_stored (Err refusal) new committed;
      })))
  replies_lost refusal new committed (inr out) = absurd (subst IsAnswer out.reply_is answers)

  saved_stored : (new : Hosted D B) → Commits device live.durable.state.seq (host_in after journal) (Ok tt) new
      → IsSaved device old → IsSaved device new
  saved_stored new committed = λ was honest other runs.
      let outcome = committed.outcome after refl in
      let honest_then : IsHonest device (host_in live journal) =
      honest_before device (host_in after journal)
      new committed.disks.honesty_first committed.disks.honesty_second honest in
      let held : HoldsState device live.durable journal =
      held_between device request live.durable old (host_in live journal) room honest_then was in
      subst (λ (s : HostState). HoldsState device s new.journal) (runs_in new after.durable other outcome.0 runs)
      (committed.holds live.durable after refl is_before held)

  -- the host runs in the live state after the request
  sound_stored : (new : Hosted D B) → Commits device live.durable.state.seq (host_in after journal) (Ok tt) new
      → RunsSound G new
  sound_stored new committed = λ other is.
      let outcome = committed.outcome after refl in
      let h : Some after ≡ Some other = sym outcome.1 ∙ is in
      let same : after ≡ other = cc in
      subst (IsSound G) same sound

  handles_stored : (new : Hosted D B) → Commits device live.durable.state.seq (host_in after journal) (Ok tt) new
      → Handles device G budget request old reply new
  handles_stored new committed = record {
    replies = subst (λ (known : Option (LiveState B)). HostReplies device G budget request known old reply new)
        (sym old_live) (replies_stored new committed steps);
    sound = λ was. sound_stored new committed;
    saved = saved_stored new committed;
    failures = counts_as ⊥ (IsDeviceFailed reply) (device.failures (first old)) (device.failures (second old))
        (device.failures (first new)) (device.failures (second new)) (λ no. absurd no)
        (steps_fine G budget request live after reply steps)
        (counts_then ⊥ ⊥ (device.failures (first old)) (device.failures (second old))
        (device.failures (first_disk journal)) (device.failures (second_disk journal))
        (device.failures (first new)) (device.failures (second new)) (λ no. no) room.disks.failures
        committed.disks.failures);
    honesty_first = committed.disks.honesty_first ∙ room.disks.honesty_first;
    honesty_second = committed.disks.honesty_second ∙ room.disks.honesty_second;
    registered = commits_registered (Ok tt) new committed;
  }

  handles_lost : (refusal : HostRefusal) (new : Hosted D B)
      → Commits device live.durable.state.seq (host_in after journal) (Err refusal) new
      → Handles device G budget request old (refused_by refusal) new
  handles_lost refusal new committed =
      let outcome = committed.outcome after refl in
      record {
        replies = subst (λ (known : Option (LiveState B)). HostReplies device G budget request known old
            (refused_by refusal) new) (sym old_live) (replies_lost refusal new committed steps);
        sound = λ was. sound_stopped G new outcome.0;
        saved = λ was honest other runs. absurd (stopped_runs new other outcome.0 runs);
        failures = counts_then ⊥ (IsDeviceFailed (refused_by refusal)) (device.failures (first old))
            (device.failures (second old)) (device.failures (first_disk journal))
            (device.failures (second_disk journal)) (device.failures (first new))
            (device.failures (second new)) (λ no. no) room.disks.failures
            (counts_replied refusal (device.failures (first_disk journal)) (device.failures (second_disk journal))
            (device.failures (first new)) (device.failures (second new)) committed.disks.failures);
        honesty_first = committed.disks.honesty_first ∙ room.disks.honesty_first;
        honesty_second = committed.disks.honesty_second ∙ room.disks.honesty_second;
        registered = commits_registered (Err refusal) new committed;
      }

-- The answer is returned where it is stored, else the refusal.
abbrev pub reply_unless : Reply SourceFault → Result (Unit {0}) HostRefusal → Reply SourceFault
reply_unless reply (Ok done) = reply
reply_unless reply (Err refusal) = refused_by refusal

pub handles_answer : {D B : Type 0} (device : Device D) (G : Ghosts B) (budget : ℕ) (request : Request)
    (live after : LiveState B) (journal : Journal D) (old : Hosted D B) (reply : Reply SourceFault)
    (result : Result (Unit {0}) HostRefusal) (new : Hosted D B) → IsAnswer reply
    → HadRoom device request live.durable old (host_in live journal)
    → LiveSteps G budget request live reply after → IsSound G after
    → Commits device live.durable.state.seq (host_in after journal) result new
    → Handles device G budget request old (reply_unless reply result) new
handles_answer device G budget request live after journal old reply (Ok done) new answers room steps sound committed =
    handles_stored device G budget request live after journal old reply answers room steps sound new committed
handles_answer device G budget request live after journal old reply (Err refusal) new answers room steps sound
    committed =
    handles_lost device G budget request live after journal old reply answers room steps sound refusal new committed

-- ---- a request that loses the state

pub handles_lost_state : {D B : Type 0} (device : Device D) (G : Ghosts B) (budget : ℕ) (request : Request)
    (live : LiveState B) (journal : Journal D) (old : Hosted D B)
    → HadRoom device request live.durable old (host_in live journal) → TaskRunsCode (task_of request live.durable)
    → Handles device G budget request old (Refused NoMemory)
    (host_stopped B live.durable.registered live.durable.state.seq journal)
handles_lost_state {D} {B} device G budget request live journal old room runs = record {
  replies = subst (λ (known : Option (LiveState B)). HostReplies device G budget request known old (Refused NoMemory)
      (host_stopped B live.durable.registered live.durable.state.seq journal)) room.live_same
      (inr (inr (inr (inl (record {
        between = host_in live journal;
        room = room.room;
        runs = runs;
        reply_is = refl;
        journal_same = refl;
        stopped = record { stopped = refl; seq_same = sym room.began.seq_is };
        settles = settles_as_it_is device request live.durable old (host_in live journal) room;
      })))));
  sound = λ was. sound_stopped G (host_stopped B live.durable.registered live.durable.state.seq journal) refl;
  saved = λ was honest other runs.
      absurd (stopped_runs (host_stopped B live.durable.registered live.durable.state.seq journal) other refl runs);
  failures = counts_as ⊥ (IsDeviceFailed (Refused NoMemory)) (device.failures (first old))
      (device.failures (second old)) (device.failures (first_disk journal)) (device.failures (second_disk journal))
      (λ no. absurd no) (λ failed. failed) room.disks.failures;
  honesty_first = room.disks.honesty_first;
  honesty_second = room.disks.honesty_second;
  registered = room.disks.registered;
}
