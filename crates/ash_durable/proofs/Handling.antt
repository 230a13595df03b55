-- What one request of a host does, by what its parts did.
use Rattle.std.proofs.Common.{◌≡◌, inl, inr, ℕ, List, Option, Some, None, IsSome, Result, Ok, Err, OnOk}
use Rattle.std.proofs.Common.{refl, sym, ◌∙◌, ap, subst}
use Rattle.ash_disk.specs.Device.{Device}
use Rattle.ash_journal.specs.declared.journal.Journal.{Journal}
use Rattle.ash_host.specs.declared.host_object.HostObject.{Ghosts}
use Rattle.ash_requests.specs.Requests.{Request, Seq, Snapshot, Refusal, Number, Done, Refused}
use Rattle.ash_requests.specs.Requests.{DeviceFailed, NoMemory, GenerationSpent}
use Rattle.ash_requests.specs.declared.reply.Reply as code_reply
use Rattle.ash_requests.specs.declared.step_error.StepError.{StepError}
use Rattle.ash_requests.specs.declared.step_error.StepError.TheVariants as errors
use Rattle.ash_requests.specs.RequestViews.{refusal_seen, reply_seen}
use Rattle.ash_sources.specs.declared.fault.SourceFault as code_fault
use Rattle.ash_sources.specs.SourceFaults.{SourceFault, fault_of}
use Rattle.ash_registry.specs.AcceptedRegistrations.{Registration}
use Rattle.ash_states.specs.HostStates.{HostState}
use Rattle.ash_states.specs.StateSteps.{task_of, FailsInChange, TaskRunsCode}
use Rattle.ash_engine.specs.LiveStates.{LiveState, EngineState}
use Rattle.ash_engine.specs.LiveSteps.{LiveSteps, Handled}
use Rattle.ash_durable.specs.Saving.{HostRefusal}
use Rattle.ash_durable.specs.Hosting.{Hosted, first, second, live_unless, IsRunning, IsSaved, IsFull, WantsInstall}
use Rattle.ash_durable.specs.Hosting.{IsSound, RunsSound}
use Rattle.ash_durable.specs.Hosting.{InstallRefused, IsAnswer, IsInstalled, HostReplies, Handles}
use Rattle.ash_durable.specs.HostReplies.{refused_by, done_of}
use Rattle.ash_durable.specs.HostRequests.{TriesInstall, MakesRoom, Commits}
use Rattle.ash_durable.proofs.Changing.{change_may_add}
use Rattle.ash_durable.proofs.Composing.{stopped_runs, HadRoom, room_as_it_is, room_installed}
use Rattle.ash_durable.proofs.HandledRequests.{seen_host, host_in, host_stopped, HasRegistered, seen_in}
use Rattle.ash_durable.proofs.HandledRequests.{counts_replied, reply_unless, sound_same, sound_stopped}
use Rattle.ash_durable.proofs.HandledRequests.{handles_as_it_is, handles_untouched, handles_answer, handles_lost_state}
use Rattle.ash_durable.proofs.QuietSteps.{seq_step, snapshot_step}
use Rattle.ash_durable.proofs.Requesting.{some_live, wants_or_not}

-- ---- room

-- room was made, and so the host runs
room_made : {D B : Type 0} (device : Device D) (request : Request) (old between : Hosted D B) → IsSome old.live
    → MakesRoom device request old (Ok tt) between
    → (live : LiveState B) × (old.live ≡ Some live) × HadRoom device request live.durable old between
room_made {D} {B} device request old between runs made =
    let known = some_live old.live runs in
    let live = known.0 in
    let state = live.durable in
    let running : IsRunning state old = made.runs live known.1 in (
      live,
      known.1,
      elim (wants_or_not request old) as (λ _. HadRoom device request state old between) [
        | inl not ↦ subst (λ (host : Hosted D B). HadRoom device request state old host)
            (sym (made.enough state running not).1) (room_as_it_is device request state old not running)
        | inr wants ↦ room_installed device request state old between wants running (made.wanted state running wants)
      ],
    )

-- A host that found room, and is seen so, runs in a live state.
pub record FoundRoom {D B : Type 0} (device : Device D) (request : Request) (old : Hosted D B) (stopped : Option ℕ)
    (engine : EngineState B) (journal : Journal D) : Type 0 where
  pub live : LiveState B
  pub runs : stopped ≡ None
  pub live_is : engine.live ≡ Some live
  pub registered_is : engine.registered ≡ live.durable.registered
  pub room : HadRoom device request live.durable old (host_in live journal)

pub found_room : {D B : Type 0} (device : Device D) (request : Request) (stopped : Option ℕ) (engine : EngineState B)
    (journal : Journal D) (old between : Hosted D B) → IsSome old.live → MakesRoom device request old (Ok tt) between
    → seen_host stopped engine journal ≡ between → FoundRoom device request old stopped engine journal
found_room {D} {B} device request (Some seq) engine journal old between runs made is =
    let room = room_made device request old between runs made in
    absurd (stopped_runs between room.0.durable (ap (λ (host : Hosted D B). host.live) (sym is)) room.2.running)
found_room {D} {B} device request None engine journal old between runs made is =
    let room = room_made device request old between runs made in
    let live = room.0 in
    let known : engine.live ≡ Some live =
    ap (λ (host : Hosted D B). host.live) is ∙ room.2.live_same ∙ room.1 in
    let registered : engine.registered ≡ live.durable.registered =
    ap (λ (host : Hosted D B). host.registered) is ∙ room.2.running.registered_is in
    let seen : between ≡ host_in live journal = sym is
    ∙ seen_in engine live journal known (registered_in engine live known registered) in
    record {
      live = live;
      runs = refl;
      live_is = known;
      registered_is = registered;
      room = subst (λ (host : Hosted D B). HadRoom device request live.durable old host) seen room.2;
    }
  where
    registered_in : (engine : EngineState B) (live : LiveState B) → engine.live ≡ Some live
        → engine.registered ≡ live.durable.registered → HasRegistered engine
    registered_in engine live is same other other_is =
        let h : Some live ≡ Some other = sym is ∙ other_is in
        let one : live ≡ other = cc in
        subst (λ (l : LiveState B). l.durable.registered ≡ engine.registered) one (sym same)

-- so it has a live state
pub found_live : {D B : Type 0} {device : Device D} {request : Request} {old : Hosted D B} {stopped : Option ℕ}
    {engine : EngineState B} {journal : Journal D} → FoundRoom device request old stopped engine journal
    → IsSome engine.live
found_live {D} {B} found = subst (λ (l : Option (LiveState B)). IsSome l) (sym found.live_is) refl

-- ---- a request that is handled once room was made

-- a request that has no end runs code
pub no_end_runs : (request : Request) (state : HostState) (error : StepError)
    → FailsInChange request state error → TaskRunsCode (task_of request state)
no_end_runs request state errors.NoMemory no_end = no_end
no_end_runs request state errors.NoStep no_end = absurd no_end

-- where there is a reply, there is a live state after it
pub handled_ok : {B : Type 0} (G : Ghosts B) (budget : ℕ) (request : Request) (live : LiveState B)
    (reply : code_reply.Reply code_fault.SourceFault) (known : Option (LiveState B))
    → Handled G budget request live (Ok reply) known
    → (after : LiveState B) × (known ≡ Some after) × LiveSteps G budget request live (reply_seen fault_of reply) after
handled_ok G budget request live reply None handled = absurd handled
handled_ok G budget request live reply (Some after) handled = (after, refl, handled)

module _ {D B : Type 0} (device : Device D) (G : Ghosts B) (budget : ℕ) (request : Request) (stopped : Option ℕ)
    (seen later : EngineState B) (journal : Journal D) (old : Hosted D B)
    (found : FoundRoom device request old stopped seen journal) (same : later.registered ≡ seen.registered) where
  module _ (reply : code_reply.Reply code_fault.SourceFault)
      (handled : Handled G budget request found.live (Ok reply) later.live) (has : HasRegistered later) where
    -- the host runs
    pub handled_runs : IsSome later.live
    handled_runs =
        let after = handled_ok G budget request found.live reply later.live handled in
        subst (λ (l : Option (LiveState B)). IsSome l) (sym after.1) refl

    pub handled_live : IsSome (live_unless stopped later.live)
    handled_live = subst (λ (s : Option ℕ). IsSome (live_unless s later.live)) (sym found.runs) handled_runs

    -- it is seen in the live state after the request
    seen_after : (after : LiveState B) → later.live ≡ Some after
        → seen_host stopped later journal ≡ host_in after journal
    seen_after after is = subst (λ (s : Option ℕ). seen_host s later journal ≡ host_in after journal) (sym found.runs)
        (seen_in later after journal is has)

    -- it is not answered
    pub handled_other : (IsAnswer (reply_seen fault_of reply) → ⊥)
        → Handles device G budget request old (reply_seen fault_of reply) (seen_host stopped later journal)
    handled_other not =
        let after = handled_ok G budget request found.live reply later.live handled in
        subst (λ (host : Hosted D B). Handles device G budget request old (reply_seen fault_of reply) host)
        (sym (seen_after after.0 after.1))
        (handles_untouched device G budget request found.live after.0 journal old (reply_seen fault_of reply)
        found.room not after.2)

    -- it is answered, if the answer is stored
    pub handled_answer : (seq : ℕ) (result : Result (Unit {0}) HostRefusal) (new : Hosted D B)
        → ((live : LiveState B) → later.live ≡ Some live → IsSound G live)
        → IsAnswer (reply_seen fault_of reply) → seq ≡ found.live.durable.state.seq
        → Commits device seq (seen_host stopped later journal) result new
        → Handles device G budget request old (reply_unless (reply_seen fault_of reply) result) new
    handled_answer seq result new sound answers seq_is committed =
        let after = handled_ok G budget request found.live reply later.live handled in
        let there : Commits device seq (host_in after.0 journal) result new =
        subst (λ (host : Hosted D B). Commits device seq host result new) (seen_after after.0 after.1) committed in
        handles_answer device G budget request found.live after.0 journal old (reply_seen fault_of reply) result new
        answers found.room after.2 (sound after.0 after.1)
        (subst (λ (n : ℕ). Commits device n (host_in after.0 journal) result new) seq_is there)

    -- a record more has room where the request is answered
    pub handled_room : (between : Hosted D B) → MakesRoom device request old (Ok tt) between
        → seen_host stopped seen journal ≡ between → IsAnswer (reply_seen fault_of reply)
        → IsFull (seen_host stopped later journal) → ⊥
    handled_room between made is answers full =
        let after = handled_ok G budget request found.live reply later.live handled in
        made.room (change_may_add G budget request found.live after.0 (reply_seen fault_of reply) answers after.2)
        (subst (λ (host : Hosted D B). IsFull host) is full)

  -- the state is lost
  pub handled_lost : (seq : ℕ) (error : StepError) → Handled G budget request found.live (Err error) later.live
      → seq ≡ found.live.durable.state.seq
      → Handles device G budget request old (Refused NoMemory) (seen_host (Some seq) later journal)
  handled_lost seq error handled seq_is =
      let lost = handles_lost_state device G budget request found.live journal old found.room
      (no_end_runs request found.live.durable error handled.0) in
      let registered : found.live.durable.registered ≡ later.registered = sym (same ∙ found.registered_is) in
      subst (λ (n : ℕ). Handles device G budget request old (Refused NoMemory)
      (host_stopped B later.registered n journal)) (sym seq_is)
      (subst (λ (r : List Registration). Handles device G budget request old (Refused NoMemory)
      (host_stopped B r found.live.durable.state.seq journal)) registered lost)

-- ---- no room

saved_unchanged : {D B : Type 0} (device : Device D) (old new : Hosted D B) → new ≡ old → IsSaved device old
    → IsSaved device new
saved_unchanged {D} {B} device old new same was = subst (λ (host : Hosted D B). IsSaved device host) (sym same) was

pub saved_refused_for : {D B : Type 0} (device : Device D) (refusal : Refusal SourceFault) (old new : Hosted D B)
    → InstallRefused old (Refused refusal) new → IsSaved device old → IsSaved device new
saved_refused_for device GenerationSpent old new refused was = saved_unchanged device old new refused.1 was
saved_refused_for device NoMemory old new refused was = saved_unchanged device old new refused.1 was
saved_refused_for device DeviceFailed old new refused was =
    λ honest state runs. absurd (stopped_runs new state refused.1.stopped runs)
saved_refused_for device _ old new refused was = absurd refused

pub sound_refused_for : {D B : Type 0} (G : Ghosts B) (refusal : Refusal SourceFault) (old new : Hosted D B)
    → InstallRefused old (Refused refusal) new → RunsSound G old → RunsSound G new
sound_refused_for {D} {B} G GenerationSpent old new refused was =
    sound_same G old new (ap (λ (host : Hosted D B). host.live) refused.1) was
sound_refused_for {D} {B} G NoMemory old new refused was =
    sound_same G old new (ap (λ (host : Hosted D B). host.live) refused.1) was
sound_refused_for G DeviceFailed old new refused was = sound_stopped G new refused.1.stopped
sound_refused_for G _ old new refused was = absurd refused

-- a new generation was wanted, and was not installed
handles_refused : {D B : Type 0} (device : Device D) (G : Ghosts B) (budget : ℕ) (request : Request)
    (live : LiveState B) (old : Hosted D B) (refusal : HostRefusal) (new : Hosted D B) → old.live ≡ Some live
    → IsRunning live.durable old → WantsInstall request old
    → TriesInstall device old (Err refusal) new → Handles device G budget request old (refused_by refusal) new
handles_refused {D} {B} device G budget request live old refusal new is runs wanted tries =
    let tried = tries.installs live.durable runs in
    record {
      replies = subst (λ (known : Option (LiveState B)).
          HostReplies device G budget request known old (refused_by refusal) new) (sym is)
          (inr (inr (inr (inr (record { wanted = wanted; refused = tried.0; settles = tried.1 })))));
      sound = λ was. sound_refused_for G (refusal_seen fault_of refusal) old new tried.0 was;
      saved = λ was. saved_refused_for device (refusal_seen fault_of refusal) old new tried.0 was;
      failures = counts_replied refusal (device.failures (first old)) (device.failures (second old))
          (device.failures (first new)) (device.failures (second new)) tries.disks.failures;
      honesty_first = tries.disks.honesty_first;
      honesty_second = tries.disks.honesty_second;
      registered = tries.disks.registered;
    }

pub handles_no_room : {D B : Type 0} (device : Device D) (G : Ghosts B) (budget : ℕ) (request : Request)
    (old : Hosted D B) (refusal : HostRefusal) (new : Hosted D B) → IsSome old.live
    → MakesRoom device request old (Err refusal) new
    → Handles device G budget request old (refused_by refusal) new
handles_no_room device G budget request old refusal new runs made =
    let known = some_live old.live runs in
    let running : IsRunning known.0.durable old = made.runs known.0 known.1 in
    elim (wants_or_not request old) as (λ _. Handles device G budget request old (refused_by refusal) new) [
      | inl not ↦ let h : Err refusal ≡ Ok tt = (made.enough known.0.durable running not).0 in absurd (cc)
      | inr wants ↦
          handles_refused device G budget request known.0 old refusal new known.1 running wants
          (made.wanted known.0.durable running wants)
    ]

-- ---- snapshots

-- a snapshot of a host that runs, by what came of the installation
pub handles_snapshot : {D B : Type 0} (device : Device D) (G : Ghosts B) (budget : ℕ) (live : LiveState B)
    (old : Hosted D B) (result : Result (Unit {0}) HostRefusal) (new : Hosted D B) → old.live ≡ Some live
    → IsRunning live.durable old → TriesInstall device old result new
    → Handles device G budget Snapshot old (done_of result) new
handles_snapshot {D} {B} device G budget live old (Ok done) new is runs tries =
    let room = room_installed device Snapshot live.durable old new tt runs tries in
    handles_as_it_is device G budget Snapshot live old new Done room (room.live_same ∙ is) (λ given. given)
    (inl (snapshot_step G budget live))
handles_snapshot device G budget live old (Err refusal) new is runs tries =
    handles_refused device G budget Snapshot live old refusal new is runs tt tries

-- and what it leaves
pub snapshot_installed : {D B : Type 0} (device : Device D) (live : LiveState B) (old : Hosted D B)
    (result : Result (Unit {0}) HostRefusal) (new : Hosted D B) → IsRunning live.durable old
    → TriesInstall device old result new → OnOk result (IsInstalled old new)
snapshot_installed device live old (Ok done) new runs tries =
    let installs = (tries.installs live.durable runs).0 in
    record { higher = installs.higher; emptied = installs.emptied; live_same = installs.live_same }
snapshot_installed device live old (Err refusal) new runs tries = tt

-- ---- the number of requests

pub handles_seq : {D B : Type 0} (device : Device D) (G : Ghosts B) (budget : ℕ) (live : LiveState B)
    (host : Hosted D B) → host.live ≡ Some live → IsRunning live.durable host
    → Handles device G budget Seq host (Number live.durable.state.seq) host
handles_seq device G budget live host is runs =
    handles_as_it_is device G budget Seq live host host (Number live.durable.state.seq)
    (room_as_it_is device Seq live.durable host (λ wants. wants.0) runs) is (λ given. given)
    (inl (seq_step G budget live))
