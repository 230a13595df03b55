-- What a batch does to a host that is seen to have room, by how its requests ran over the engine.
use Rattle.std.proofs.Common.{◌≡◌, ℕ, List, [], ◌∷◌, map, length, Option, Some, None, IsSome, Result, Ok, Err}
use Rattle.std.proofs.Common.{refl, sym, ◌∙◌, ap, subst, arith}
use Rattle.std.proofs.lemmas.List.{nil_from_length}
use Rattle.std.specs.List.{AllByRecursion}
use Rattle.ash_disk.specs.Device.{Device}
use Rattle.ash_journal.specs.declared.journal.Journal.{Journal}
use Rattle.ash_host.specs.declared.host_object.HostObject.{Ghosts}
use Rattle.ash_registry.specs.AcceptedRegistrations.{Registration}
use Rattle.ash_requests.specs.Requests.{Reopen, NoMemory}
use Rattle.ash_states.specs.HostStates.{HostState}
use Rattle.ash_engine.specs.LiveStates.{LiveState, EngineState}
use Rattle.ash_durable.specs.declared.batching.BatchRun.{BatchRun}
use Rattle.ash_durable.specs.Saving.{HostRefusal}
use Rattle.ash_durable.specs.Hosting.{Hosted, live_unless, IsReadyUnless, IsRunning, IsFull, IsSound}
use Rattle.ash_durable.specs.HostRequests.{MakesRoom, CommitsRecord}
use Rattle.ash_durable.specs.Batches.{BatchRequest, BatchReply, answered_in, adding_request, IsBodyOfBatch}
use Rattle.ash_durable.specs.Batches.{HasBegunToChange, HandlesBatch}
use Rattle.ash_durable.specs.BatchViews.{batch_reply_seen}
use Rattle.ash_durable.specs.BatchRuns.{HasRunWhole, MayBeStored}
use Rattle.ash_durable.proofs.BatchLaws.{answered_may_add}
use Rattle.ash_durable.proofs.BatchLeads.{batch_leads}
use Rattle.ash_durable.proofs.HandledBatches.{batch_of_stopped, batch_of_none}
use Rattle.ash_durable.proofs.HandledBatches.{batch_ran_out, batch_lost, batch_untouched, batch_committed, given_unless}
use Rattle.ash_durable.proofs.HandledRequests.{seen_host, host_in, host_stopped, HasRegistered, seen_in}
use Rattle.ash_durable.proofs.Handling.{FoundRoom}

-- where nothing was asked there are no requests
pub none_asked : {Q : Type 0} (view : Q → BatchRequest) (xs : List Q) → map view xs ≡ [] → xs ≡ []
none_asked view [] none = refl
none_asked view (x ∷ xs) none = absurd (cc)

-- a host that is seen to be stopped refuses each batch
pub stopped_seen : {D B : Type 0} (device : Device D) (G : Ghosts B) (budget : ℕ) (requests : List BatchRequest)
    (stopped : Option ℕ) (engine : EngineState B) (journal : Journal D) (host : Hosted D B) (seq : ℕ)
    → stopped ≡ Some seq → seen_host stopped engine journal ≡ host
    → HandlesBatch device G budget requests host (Err Reopen) host
stopped_seen device G budget requests None engine journal host seq stops seen = absurd (cc)
stopped_seen {D} {B} device G budget requests (Some n) engine journal host seq stops seen =
    subst (λ (h : Hosted D B). HandlesBatch device G budget requests h (Err Reopen) h) seen
    (batch_of_stopped device G budget requests (seen_host (Some n) engine journal) refl)

-- one that may write on may still do so with another live state
pub still_ready : {D B : Type 0} (stopped : Option ℕ) (was later : Option (LiveState B)) (journal : Journal D)
    → IsReadyUnless stopped was journal → IsSome later → IsReadyUnless stopped later journal
still_ready None was later journal ready has = (has, ready.1)
still_ready (Some seq) was later journal ready has = tt

-- an engine that is known to have a live state
pub known_has : {B : Type 0} (known : Option (LiveState B)) (live : LiveState B) → known ≡ Some live → IsSome known
known_has {B} known live is = subst (λ (l : Option (LiveState B)). IsSome l) (sym is) refl

-- one that runs has nothing to do if nothing was asked
pub none_seen : {D B Q A : Type 0} (device : Device D) (G : Ghosts B) (budget : ℕ) (view : Q → BatchRequest)
    (replied : A → BatchReply) (xs : List Q) (rs : List A) (live : LiveState B) (host : Hosted D B) → xs ≡ [] → rs ≡ []
    → host.live ≡ Some live → IsRunning live.durable host
    → HandlesBatch device G budget (map view xs) host (Ok (map replied rs)) host
none_seen {D} {B} {Q} {A} device G budget view replied xs rs live host no_requests no_replies is runs =
    subst (λ (ys : List Q). HandlesBatch device G budget (map view ys) host (Ok (map replied rs)) host)
    (sym no_requests)
    (subst (λ (ys : List A). HandlesBatch device G budget [] host (Ok (map replied ys)) host) (sym no_replies)
    (batch_of_none device G budget live host is runs))

module _ {D B : Type 0} (device : Device D) (G : Ghosts B) (budget : ℕ) (requests : List BatchRequest)
    (stopped : Option ℕ) (seen later : EngineState B) (journal : Journal D) (old : Hosted D B)
    (found : FoundRoom device (adding_request requests) old stopped seen journal)
    (same : later.registered ≡ seen.registered) where
  -- a host that is seen with an engine in a live state that has what was registered
  seen_with : (live : LiveState B) → later.live ≡ Some live → live.durable.registered ≡ later.registered
      → seen_host stopped later journal ≡ host_in live journal
  seen_with live is registered =
      subst (λ (s : Option ℕ). seen_host s later journal ≡ host_in live journal) (sym found.runs)
      (seen_in later live journal is (λ other other_is.
      let h : Some live ≡ Some other = sym is ∙ other_is in
      let one : live ≡ other = cc in
      subst (λ (l : LiveState B). l.durable.registered ≡ later.registered) one registered))

  -- memory was refused before anything changed
  pub ran_out_seen : later.live ≡ Some found.live → (requests ≡ [] → ⊥)
      → HandlesBatch device G budget requests old (Err NoMemory) (seen_host stopped later journal)
  ran_out_seen is some =
      subst (λ (host : Hosted D B). HandlesBatch device G budget requests old (Err NoMemory) host)
      (sym (seen_with found.live is (sym (same ∙ found.registered_is))))
      (batch_ran_out device G budget requests found.live journal old found.room some)

  -- the state is lost
  pub lost_seen : (seq : ℕ) → seq ≡ found.live.durable.state.seq → HasBegunToChange G budget requests found.live
      → HandlesBatch device G budget requests old (Err NoMemory) (seen_host (Some seq) later journal)
  lost_seen seq seq_is changes =
      subst (λ (n : ℕ). HandlesBatch device G budget requests old (Err NoMemory)
      (host_stopped B later.registered n journal)) (sym seq_is)
      (subst (λ (r : List Registration). HandlesBatch device G budget requests old (Err NoMemory)
      (host_stopped B r found.live.durable.state.seq journal)) (sym (same ∙ found.registered_is))
      (batch_lost device G budget requests found.live journal old found.room changes))

  module _ (run : BatchRun) (ran : HasRunWhole G budget requests found.live run later) (has : HasRegistered later) where
    -- the host runs
    pub ran_live : IsSome (live_unless stopped later.live)
    ran_live =
        subst (λ (s : Option ℕ). IsSome (live_unless s later.live)) (sym found.runs)
        (subst (λ (l : Option (LiveState B)). IsSome l) (sym ran.stepped.live_is) refl)

    seen_after : seen_host stopped later journal ≡ host_in ran.stepped.after journal
    seen_after = seen_with ran.stepped.after ran.stepped.live_is (has ran.stepped.after ran.stepped.live_is)

    -- no request was answered
    pub untouched_seen : run.answered ≡ 0
        → HandlesBatch device G budget requests old (Ok (map batch_reply_seen run.replies.items))
        (seen_host stopped later journal)
    untouched_seen none =
        subst (λ (host : Hosted D B). HandlesBatch device G budget requests old
        (Ok (map batch_reply_seen run.replies.items)) host) (sym seen_after)
        (batch_untouched device G budget requests found.live journal old found.room
        (map batch_reply_seen run.replies.items) ran.stepped.after ran.stepped.steps
        (ran.stepped.answered_are ∙ nil_from_length ran.answered (sym ran.count ∙ none)))

    module _ (some : run.answered ≡ 0 → ⊥) where
      answered_some : ran.answered ≡ [] → ⊥
      answered_some none = some (ran.count ∙ ap (λ (ls : List (LiveState B)). length ls) none)

      steps_some : answered_in ran.stepped.steps ≡ [] → ⊥
      steps_some none = answered_some (sym ran.stepped.answered_are ∙ none)

      -- a record more has room
      pub ran_room : (between : Hosted D B) → MakesRoom device (adding_request requests) old (Ok tt) between
          → seen_host stopped seen journal ≡ between → IsFull (seen_host stopped later journal) → ⊥
      ran_room between made is full =
          made.room (answered_may_add G budget requests found.live (map batch_reply_seen run.replies.items)
          ran.stepped.after ran.stepped.steps steps_some) (subst (λ (host : Hosted D B). IsFull host) is full)

      -- the batch is as its record is
      pub committed_seen : (seq : ℕ) (result : Result (Unit {0}) HostRefusal) (new : Hosted D B)
          → ((live : LiveState B) → later.live ≡ Some live → IsSound G live)
          → seq ≡ found.live.durable.state.seq
          → CommitsRecord device seq run.body.items (seen_host stopped later journal) result new
          → HandlesBatch device G budget requests old
          (given_unless (map batch_reply_seen run.replies.items) result) new
      committed_seen seq result new sound seq_is committed =
          let after = ran.stepped.after in
          let steps = ran.stepped.steps in
          let there : CommitsRecord device seq run.body.items (host_in after journal) result new =
          subst (λ (host : Hosted D B). CommitsRecord device seq run.body.items host result new) seen_after committed in
          let is_body : IsBodyOfBatch after.durable (answered_in steps) run.body.items =
          subst (λ (ls : List (LiveState B)). IsBodyOfBatch after.durable ls run.body.items) (sym ran.stepped.answered_are)
          (ran.is_body after ran.stepped.live_is answered_some) in
          batch_committed device G budget requests found.live journal old found.room
          (map batch_reply_seen run.replies.items) after steps steps_some (sound after ran.stepped.live_is)
          run.body.items is_body
          (batch_leads device G budget requests found.live (map batch_reply_seen run.replies.items) after steps
          (subst (λ (ls : List (LiveState B)). AllByRecursion MayBeStored ls) (sym ran.stepped.answered_are) ran.stored)
          run.body.items is_body journal)
          result new
          (subst (λ (n : ℕ). CommitsRecord device n run.body.items (host_in after journal) result new) seq_is there)
