-- What holds after a batch in the life of a store, where it held before.
use Rattle.std.proofs.Common.{◌≡◌, inl, inr, ℕ, List, ◌∷◌, ◌++◌, Some, None, Ok, Err, refl, sym, ◌∙◌, subst}
use Rattle.ash_disk.specs.Device.{Device}
use Rattle.ash_host.specs.declared.host_object.HostObject.{Ghosts}
use Rattle.ash_requests.specs.Requests.{Refusal}
use Rattle.ash_sources.specs.SourceFaults.{SourceFault}
use Rattle.ash_engine.specs.LiveStates.{LiveState}
use Rattle.ash_engine.specs.LiveSteps.{Reached}
use Rattle.ash_durable.specs.Hosting.{Hosted, first, second, IsHonest}
use Rattle.ash_durable.specs.StoredStates.{IsEither}
use Rattle.ash_durable.specs.Batches.{BatchRequest, BatchReply, BatchResult, TookBatch, HandlesBatch}
use Rattle.ash_durable.specs.Lives.{StoreEvent, InDoubtBatch, Crashed, UnderHost, OnDisks, Outlives, acknowledged_in}
use Rattle.ash_durable.proofs.BatchOutcomes.{answered_lead, batch_or_stopped}
use Rattle.ash_durable.proofs.CrashedDisks.{same_honesty, settle_crashed}
use Rattle.ash_durable.proofs.LifeEvents.{runs_in, stops_in, rests_on, still_whole, not_done, in_doubt, as_before}
use Rattle.ash_durable.proofs.LifeEvents.{Before}
use Rattle.ash_durable.proofs.Settling.{settle_now}

module _ {D B : Type 0} (device : Device D) (G : Ghosts B) (start : Reached) where
  batch_honest : (budget : ℕ) (requests : List BatchRequest) (old : Hosted D B) (result : BatchResult)
      (new : Hosted D B)
      → IsHonest device old → HandlesBatch device G budget requests old result new → IsHonest device new
  batch_honest budget requests old result new honest handled =
      same_honesty device (first old) (second old) (first new) (second new) honest handled.honesty_first
      handled.honesty_second

  pub replied_batch : (events : List StoreEvent) (budget : ℕ) (requests : List BatchRequest) (old : Hosted D B)
      (live : LiveState B) (replies : List BatchReply) (new : Hosted D B) → Before device G start events old
      → old.live ≡ Some live → HandlesBatch device G budget requests old (Ok replies) new
      → (took : TookBatch device G budget requests live old replies new)
      → Outlives device G start (acknowledged_in took.steps ++ events) (UnderHost new)
  replied_batch events budget requests old live replies new before is handled took =
      runs_in device G start (acknowledged_in took.steps ++ events) new took.after
      (handled.registered ∙ before.runs.registered_is)
      (batch_honest budget requests old (Ok replies) new before.honest handled) (handled.saved before.runs.saved)
      took.live_is took.running (handled.sound before.runs.sound took.after took.live_is)
      (answered_lead G budget requests live replies took.after events start (before.runs.sound live is).boxes
      (before.runs.led live is) took.steps)

  pub refused_batch : (events : List StoreEvent) (budget : ℕ) (requests : List BatchRequest) (old : Hosted D B)
      (refusal : Refusal SourceFault) (new : Hosted D B) → Before device G start events old
      → HandlesBatch device G budget requests old (Err refusal) new → (new.live ≡ None → old.live ≡ None)
      → Before device G start events new
  refused_batch events budget requests old refusal new before handled only =
      elim (batch_or_stopped device G budget requests old (Err refusal) new handled) [
        | inl stopped ↦ as_before device G start events old new stopped.2 before
        | inr some ↦ elim some.2.ending [
          | inl on ↦ runs_in device G start events new some.0 (handled.registered ∙ before.runs.registered_is)
              (batch_honest budget requests old (Err refusal) new before.honest handled)
              (handled.saved before.runs.saved) on.0 on.1 (before.runs.sound some.0 some.1)
              (before.runs.led some.0 some.1)
          | inr (inl same) ↦ as_before device G start events old new same before
          | inr (inr lost) ↦ let h : None ≡ Some some.0 = sym (only lost.0) ∙ some.1 in absurd (cc)
        ]
      ]

  pub failed_batch : (events : List StoreEvent) (budget : ℕ) (requests : List BatchRequest) (old : Hosted D B)
      (refusal : Refusal SourceFault) (new : Hosted D B) → Before device G start events old
      → HandlesBatch device G budget requests old (Err refusal) new → (old.live ≡ None → ⊥) → new.live ≡ None
      → Outlives device G start (InDoubtBatch budget requests ∷ events) (UnderHost new)
  failed_batch events budget requests old refusal new before handled ran none =
      elim (batch_or_stopped device G budget requests old (Err refusal) new handled) [
        | inl stopped ↦ absurd (ran stopped.0)
        | inr some ↦
            stops_in device G start (InDoubtBatch budget requests ∷ events) new
            (handled.registered ∙ before.runs.registered_is)
            (batch_honest budget requests old (Err refusal) new before.honest handled)
            (handled.saved before.runs.saved) none
            (in_doubt device G start events (InDoubtBatch budget requests) some.0 some.2.after (first new) (second new)
            (λ no. no) (λ reached. inl refl) (before.runs.led some.0 some.1) (before.runs.sound some.0 some.1)
            (some.2.sound before.runs.sound) (some.2.may before.runs.sound)
            (settle_now device (device.clock (first old)) (device.clock (second old)) (first new) (second new)
            (IsEither some.0.durable some.2.after.durable) (some.2.moments before.honest before.runs.saved)))
      ]

  pub crashed_batching : (events : List StoreEvent) (budget : ℕ) (requests : List BatchRequest) (old : Hosted D B)
      (result : BatchResult) (new : Hosted D B) (a b : D) → Before device G start events old
      → HandlesBatch device G budget requests old result new
      → Crashed device (device.clock (first old)) (device.clock (second old)) (first new) (second new) a b
      → Outlives device G start (InDoubtBatch budget requests ∷ events) (OnDisks a b)
  crashed_batching events budget requests old result new a b before handled crash =
      let x = device.clock (first old) in
      let y = device.clock (second old) in
      let event = InDoubtBatch budget requests in
      elim (batch_or_stopped device G budget requests old result new handled) [
        | inl stopped ↦
            let crash_old : Crashed device x y (first old) (second old) a b =
            subst (λ (host : Hosted D B). Crashed device x y (first host) (second host) a b) stopped.2 crash in
            rests_on device G start (event ∷ events) a b crash.honest
            (not_done device G start events event a b (λ no. no) (λ reached. inl refl)
            (still_whole device G start events (first old) (second old) a b before.whole
            (settle_crashed device x y (first old) (second old) a b
            (IsEither before.whole.s.durable before.whole.t.durable) before.whole.settled crash_old)))
        | inr some ↦
            rests_on device G start (event ∷ events) a b crash.honest
            (in_doubt device G start events event some.0 some.2.after a b (λ no. no) (λ reached. inl refl)
            (before.runs.led some.0 some.1) (before.runs.sound some.0 some.1) (some.2.sound before.runs.sound)
            (some.2.may before.runs.sound)
            (settle_crashed device x y (first new) (second new) a b
            (IsEither some.0.durable some.2.after.durable) (some.2.moments before.honest before.runs.saved) crash))
      ]
