-- What a batch does to a host: one that has room and runs, by what came of its requests and of the record; one that has
-- no room; and one that must be reopened.
use Rattle.std.proofs.Common.{◌≡◌, ◌⊎◌, inl, inr, ℕ, List, [], ◌∷◌, map, Option, Some, None, IsSome, Result, Ok, Err}
use Rattle.std.proofs.Common.{refl, sym, ◌∙◌, ap, subst}
use Rattle.ash_disk.specs.Device.{Device}
use Rattle.ash_journal.specs.declared.journal.Journal.{Journal}
use Rattle.ash_journal.specs.Journal.{first_disk, second_disk}
use Rattle.ash_journal.specs.JournalFailures.{CountsFailures}
use Rattle.ash_host.specs.declared.host_object.HostObject.{Ghosts}
use Rattle.ash_registry.specs.AcceptedRegistrations.{Registration}
use Rattle.ash_requests.specs.Requests.{Request, Seq, Refusal, Refused, Reopen, DeviceFailed, NoMemory, GenerationSpent}
use Rattle.ash_requests.specs.declared.refusal.Refusal.TheVariants as the
use Rattle.ash_requests.specs.RequestViews.{refusal_seen}
use Rattle.ash_sources.specs.SourceFaults.{SourceFault, fault_of}
use Rattle.ash_replay.specs.ReplayedStates.{IsBodyBetween}
use Rattle.ash_image.specs.declared.version.Version.TheVariants.{Two}
use Rattle.ash_states.specs.HostStates.{HostState}
use Rattle.ash_engine.specs.LiveStates.{LiveState, EngineState}
use Rattle.ash_durable.specs.StoredStates.{HoldsState}
use Rattle.ash_durable.specs.Saving.{HostRefusal}
use Rattle.ash_durable.specs.Hosting.{Hosted, first, second, IsRunning, IsSaved, IsHonest, IsSound, RunsSound, Settles}
use Rattle.ash_durable.specs.Hosting.{IsDeviceFailed, WantsInstall, WasLost}
use Rattle.ash_durable.specs.HostReplies.{refused_by}
use Rattle.ash_durable.specs.HostRequests.{TriesInstall, MakesRoom, CommitsRecord}
use Rattle.ash_durable.specs.Batches.{BatchRequest, BatchReply, BatchResult, BatchSteps, answered_in, adding_request}
use Rattle.ash_durable.specs.Batches.{IsBodyOfBatch, HasBegunToChange, BatchOutcome, FailsBatch, HandlesBatch}
use Rattle.ash_durable.proofs.BatchLaws.{no_step, none_answered, batch_registered}
use Rattle.ash_durable.proofs.Composing.{HadRoom, runs_in, stopped_runs, honest_before, counts_as, counts_none}
use Rattle.ash_durable.proofs.Composing.{counts_then, held_between, settles_as_it_is, settles_added, room_as_it_is}
use Rattle.ash_durable.proofs.HandledRequests.{seen_host, host_in, host_stopped, counts_replied, sound_same}
use Rattle.ash_durable.proofs.HandledRequests.{sound_stopped}
use Rattle.ash_durable.proofs.Handling.{saved_refused_for, sound_refused_for}
use Rattle.ash_durable.proofs.Requesting.{some_live, wants_or_not}

-- ---- a host that must be reopened

pub batch_of_stopped : {D B : Type 0} (device : Device D) (G : Ghosts B) (budget : ℕ) (requests : List BatchRequest)
    (host : Hosted D B) → host.live ≡ None → HandlesBatch device G budget requests host (Err Reopen) host
batch_of_stopped {D} {B} device G budget requests host none = record {
  outcome = subst (λ (known : Option (LiveState B)). BatchOutcome device G budget requests known host (Err Reopen) host)
      (sym none) (refl, refl);
  sound = λ was. was;
  saved = λ was. was;
  failures = counts_none (FailsBatch (Err Reopen)) (device.failures (first host)) (device.failures (second host))
      (λ failed. failed);
  honesty_first = refl;
  honesty_second = refl;
  registered = refl;
}

-- ---- no requests

pub batch_of_none : {D B : Type 0} (device : Device D) (G : Ghosts B) (budget : ℕ) (live : LiveState B)
    (host : Hosted D B) → host.live ≡ Some live → IsRunning live.durable host
    → HandlesBatch device G budget [] host (Ok []) host
unfolding adding_request
batch_of_none {D} {B} device G budget live host is runs =
    let no = no_step G budget live in
    let room = room_as_it_is device Seq live.durable host (λ wants. wants.0) runs in
    record {
      outcome = subst (λ (known : Option (LiveState B)). BatchOutcome device G budget [] known host (Ok []) host)
          (sym is) (record {
            between = host;
            room = room.room;
            after = live;
            steps = no.0;
            live_is = is;
            running = runs;
            added = λ some. absurd (some no.1);
            untouched = λ _. refl;
            settles = settles_as_it_is device Seq live.durable host host room;
          });
      sound = λ was. was;
      saved = λ was. was;
      failures = counts_none (FailsBatch (Ok [])) (device.failures (first host)) (device.failures (second host))
          (λ failed. failed);
      honesty_first = refl;
      honesty_second = refl;
      registered = refl;
    }

-- ---- no room

batch_refused : {D B : Type 0} (device : Device D) (G : Ghosts B) (budget : ℕ) (requests : List BatchRequest)
    (live : LiveState B) (old : Hosted D B) (refusal : HostRefusal) (new : Hosted D B) → old.live ≡ Some live
    → IsRunning live.durable old → WantsInstall (adding_request requests) old
    → TriesInstall device old (Err refusal) new
    → HandlesBatch device G budget requests old (Err (refusal_seen fault_of refusal)) new
batch_refused {D} {B} device G budget requests live old refusal new is runs wanted tries =
    let tried = tries.installs live.durable runs in
    record {
      outcome = subst (λ (known : Option (LiveState B)).
          BatchOutcome device G budget requests known old (Err (refusal_seen fault_of refusal)) new) (sym is)
          (inr (inr (inr (record { wanted = wanted; refused = tried.0; settles = tried.1 }))));
      sound = λ was. sound_refused_for G (refusal_seen fault_of refusal) old new tried.0 was;
      saved = λ was. saved_refused_for device (refusal_seen fault_of refusal) old new tried.0 was;
      failures = counts_replied refusal (device.failures (first old)) (device.failures (second old))
          (device.failures (first new)) (device.failures (second new)) tries.disks.failures;
      honesty_first = tries.disks.honesty_first;
      honesty_second = tries.disks.honesty_second;
      registered = tries.disks.registered;
    }

pub batch_no_room : {D B : Type 0} (device : Device D) (G : Ghosts B) (budget : ℕ) (requests : List BatchRequest)
    (old : Hosted D B) (refusal : HostRefusal) (new : Hosted D B) → IsSome old.live
    → MakesRoom device (adding_request requests) old (Err refusal) new
    → HandlesBatch device G budget requests old (Err (refusal_seen fault_of refusal)) new
batch_no_room device G budget requests old refusal new runs made =
    let known = some_live old.live runs in
    let running : IsRunning known.0.durable old = made.runs known.0 known.1 in
    elim (wants_or_not (adding_request requests) old)
    as (λ _. HandlesBatch device G budget requests old (Err (refusal_seen fault_of refusal)) new) [
      | inl not ↦ let h : Err refusal ≡ Ok tt = (made.enough known.0.durable running not).0 in absurd (cc)
      | inr wants ↦
          batch_refused device G budget requests known.0 old refusal new known.1 running wants
          (made.wanted known.0.durable running wants)
    ]

-- what a batch gives whose record was to be stored
abbrev pub given_unless : List BatchReply → Result (Unit {0}) HostRefusal → BatchResult
given_unless replies (Ok done) = Ok replies
given_unless replies (Err refusal) = Err (refusal_seen fault_of refusal)

-- ---- a batch that has room

module _ {D B : Type 0} (device : Device D) (G : Ghosts B) (budget : ℕ) (requests : List BatchRequest)
    (live : LiveState B) (journal : Journal D) (old : Hosted D B)
    (room : HadRoom device (adding_request requests) live.durable old (host_in live journal)) where
  -- no device fails where the room was made
  room_counts : (result : BatchResult) → (FailsBatch result → ⊥)
      → CountsFailures (FailsBatch result) (device.failures (first old)) (device.failures (second old))
      (device.failures (first_disk journal)) (device.failures (second_disk journal))
  room_counts result fine = counts_as ⊥ (FailsBatch result) (device.failures (first old))
      (device.failures (second old)) (device.failures (first_disk journal)) (device.failures (second_disk journal))
      (λ no. absurd no) fine room.disks.failures

  -- memory was refused before anything changed
  pub batch_ran_out : (requests ≡ [] → ⊥)
      → HandlesBatch device G budget requests old (Err NoMemory) (host_in live journal)
  batch_ran_out some = record {
    outcome = subst (λ (known : Option (LiveState B)). BatchOutcome device G budget requests known old (Err NoMemory)
        (host_in live journal)) room.live_same
        (inl (record {
          some_asked = some;
          room = room.room;
          refusal_is = refl;
          running = room.running;
          settles = settles_as_it_is device (adding_request requests) live.durable old (host_in live journal) room;
        }));
    sound = sound_same G old (host_in live journal) room.live_same;
    saved = room.saved;
    failures = room_counts (Err NoMemory) (λ failed. failed);
    honesty_first = room.disks.honesty_first;
    honesty_second = room.disks.honesty_second;
    registered = room.disks.registered;
  }

  -- the state is lost
  pub batch_lost : HasBegunToChange G budget requests live
      → HandlesBatch device G budget requests old (Err NoMemory)
      (host_stopped B live.durable.registered live.durable.state.seq journal)
  batch_lost changes = record {
    outcome = subst (λ (known : Option (LiveState B)). BatchOutcome device G budget requests known old (Err NoMemory)
        (host_stopped B live.durable.registered live.durable.state.seq journal)) room.live_same
        (inr (inr (inl (record {
          between = host_in live journal;
          room = room.room;
          changes = changes;
          refusal_is = refl;
          journal_same = refl;
          stopped = record { stopped = refl; seq_same = sym room.began.seq_is };
          settles = settles_as_it_is device (adding_request requests) live.durable old (host_in live journal) room;
        }))));
    sound = λ was. sound_stopped G (host_stopped B live.durable.registered live.durable.state.seq journal) refl;
    saved = λ was honest other runs.
        absurd (stopped_runs (host_stopped B live.durable.registered live.durable.state.seq journal) other refl runs);
    failures = room_counts (Err NoMemory) (λ failed. failed);
    honesty_first = room.disks.honesty_first;
    honesty_second = room.disks.honesty_second;
    registered = room.disks.registered;
  }

  module _ (replies : List BatchReply) (after : LiveState B) (steps : BatchSteps G budget requests live replies after)
    where
      -- no request was answered
      pub batch_untouched : answered_in steps ≡ []
          → HandlesBatch device G budget requests old (Ok replies) (host_in after journal)
      batch_untouched none =
          let same : after ≡ live = none_answered G budget requests live replies after steps none in
          let seen : host_in after journal ≡ host_in live journal = ap (λ (l : LiveState B). host_in l journal) same in
          record {
            outcome = subst (λ (known : Option (LiveState B)). BatchOutcome device G budget requests known old
                (Ok replies) (host_in after journal)) room.live_same
                (record {
                  between = host_in live journal;
                  room = room.room;
                  after = after;
                  steps = steps;
                  live_is = refl;
                  running = subst (λ (l : LiveState B). IsRunning l.durable (host_in l journal)) (sym same)
                      room.running;
                  added = λ some. absurd (some none);
                  untouched = λ _. seen;
                  settles = subst (λ (l : LiveState B). Settles device live.durable l.durable old (host_in l journal))
                      (sym same) (settles_as_it_is device (adding_request requests) live.durable old
                      (host_in live journal) room);
                });
            sound = sound_same G old (host_in after journal) (ap (λ (l : LiveState B). Some l) same ∙ room.live_same);
            saved = λ was. subst (λ (host : Hosted D B). IsSaved device host) (sym seen) (room.saved was);
            failures = room_counts (Ok replies) (λ failed. failed);
            honesty_first = room.disks.honesty_first;
            honesty_second = room.disks.honesty_second;
            registered = ap (λ (l : LiveState B). l.durable.registered) same ∙ room.disks.registered;
          }

      -- some were, and what they changed is a record
      module _ (some : answered_in steps ≡ [] → ⊥) (sound : IsSound G after) (body : List ℕ)
          (is_body : IsBodyOfBatch after.durable (answered_in steps) body)
          (leads : HoldsState device live.durable journal → IsBodyBetween Two body live.durable after.durable) where
        registered_same : live.durable.registered ≡ after.durable.registered
        registered_same = sym (batch_registered G budget requests live replies after steps)

        module _ (result : Result (Unit {0}) HostRefusal) (new : Hosted D B)
            (committed : CommitsRecord device live.durable.state.seq body (host_in after journal) result new) where
          commit_registered : new.registered ≡ old.registered
          commit_registered = committed.disks.registered ∙ sym registered_same ∙ room.disks.registered

          settles_stored : Settles device live.durable after.durable old new
          settles_stored = settles_added device (adding_request requests) live.durable old (host_in live journal) room
              after.durable new (λ held. committed.moments live.durable after.durable (leads held) held)

        batch_stored : (new : Hosted D B)
            → CommitsRecord device live.durable.state.seq body (host_in after journal) (Ok tt) new
            → HandlesBatch device G budget requests old (Ok replies) new
        batch_stored new committed =
            let outcome = committed.outcome after refl in
            record {
              outcome = subst (λ (known : Option (LiveState B)). BatchOutcome device G budget requests known old
                  (Ok replies) new) room.live_same
                  (record {
                    between = host_in live journal;
                    room = room.room;
                    after = after;
                    steps = steps;
                    live_is = outcome.1;
                    running = outcome.0;
                    added = λ _. (
                      record {
                        same = outcome.2.same;
                        body = outcome.2.body;
                        is_body = subst (λ (bs : List ℕ). IsBodyOfBatch after.durable (answered_in steps) bs)
                            (sym outcome.2.is_body) is_body;
                        added = outcome.2.added;
                        longer = outcome.2.longer;
                      },
                      outcome.3,
                    );
                    untouched = λ none. absurd (some none);
                    settles = settles_stored (Ok tt) new committed;
                  });
              sound = λ was other is.
                  let h : Some after ≡ Some other = sym outcome.1 ∙ is in
                  let same : after ≡ other = cc in
                  subst (IsSound G) same sound;
              saved = λ was honest other runs.
                  let honest_then : IsHonest device (host_in live journal) =
                  honest_before device (host_in after journal) new committed.disks.honesty_first
                  committed.disks.honesty_second honest in
                  let held : HoldsState device live.durable journal =
                  held_between device (adding_request requests) live.durable old (host_in live journal) room honest_then
                  was in
                  subst (λ (s : HostState). HoldsState device s new.journal)
                  (runs_in new after.durable other outcome.0 runs)
                  (committed.holds live.durable after.durable (leads held) held);
              failures = counts_then ⊥ (FailsBatch (Ok replies)) (device.failures (first old))
                  (device.failures (second old)) (device.failures (first_disk journal))
                  (device.failures (second_disk journal)) (device.failures (first new)) (device.failures (second new))
                  (λ no. no) room.disks.failures committed.disks.failures;
              honesty_first = committed.disks.honesty_first ∙ room.disks.honesty_first;
              honesty_second = committed.disks.honesty_second ∙ room.disks.honesty_second;
              registered = commit_registered (Ok tt) new committed;
            }

        batch_not_stored : (refusal : HostRefusal) (new : Hosted D B)
            → CommitsRecord device live.durable.state.seq body (host_in after journal) (Err refusal) new
            → HandlesBatch device G budget requests old (Err (refusal_seen fault_of refusal)) new
        batch_not_stored refusal new committed =
            let outcome = committed.outcome after refl in
            record {
              outcome = subst (λ (known : Option (LiveState B)). BatchOutcome device G budget requests known old
                  (Err (refusal_seen fault_of refusal)) new) room.live_same
                  (inr (inl (record {
                    between = host_in live journal;
                    room = room.room;
                    replies = replies;
                    after = after;
                    steps = steps;
                    answered = some;
                    sound = sound;
                    lost = outcome.2;
                    stopped = record { stopped = outcome.0; seq_same = outcome.1 ∙ sym room.began.seq_is };
                    settles = settles_stored (Err refusal) new committed;
                  })));
              sound = λ was. sound_stopped G new outcome.0;
              saved = λ was honest other runs. absurd (stopped_runs new other outcome.0 runs);
              failures = counts_then ⊥ (IsDeviceFailed (refused_by refusal)) (device.failures (first old))
                  (device.failures (second old)) (device.failures (first_disk journal))
                  (device.failures (second_disk journal)) (device.failures (first new)) (device.failures (second new))
                  (λ no. no) room.disks.failures
                  (counts_replied refusal (device.failures (first_disk journal)) (device.failures (second_disk journal))
                  (device.failures (first new)) (device.failures (second new)) committed.disks.failures);
              honesty_first = committed.disks.honesty_first ∙ room.disks.honesty_first;
              honesty_second = committed.disks.honesty_second ∙ room.disks.honesty_second;
              registered = commit_registered (Err refusal) new committed;
            }

        pub batch_committed : (result : Result (Unit {0}) HostRefusal) (new : Hosted D B)
            → CommitsRecord device live.durable.state.seq body (host_in after journal) result new
            → HandlesBatch device G budget requests old (given_unless replies result) new
        batch_committed (Ok done) new committed = batch_stored new committed
        batch_committed (Err refusal) new committed = batch_not_stored refusal new committed
