-- In each life the events since the store was made or last opened are a prefix of the requests.
use Rattle.std.proofs.Common.{◌≡◌, inl, inr, ℕ, List, [], ◌∷◌, Some, None, Err, sym, ◌∙◌, subst}
use Rattle.ash_disk.specs.Device.{Device}
use Rattle.ash_host.specs.declared.host_object.HostObject.{Ghosts}
use Rattle.ash_requests.specs.Requests.{Request, Reply, Refusal}
use Rattle.ash_sources.specs.SourceFaults.{SourceFault}
use Rattle.ash_engine.specs.LiveStates.{LiveState}
use Rattle.ash_engine.specs.LiveSteps.{Reached}
use Rattle.ash_durable.specs.Hosting.{Hosted, Handles}
use Rattle.ash_durable.specs.Lives as lives
use Rattle.ash_durable.specs.Batches.{BatchRequest, HandlesBatch}
use Rattle.ash_durable.specs.Lives.{StoreEvent, Acknowledged, InDoubt, InDoubtBatch, Found, StoreLocation, UnderHost}
use Rattle.ash_durable.specs.Lives.{OnDisks, Life, AreAcknowledged, IsOfPrefix, IsPrefixAt}
use Rattle.ash_durable.proofs.BatchOutcomes.{batch_or_stopped, all_acknowledged}
use Rattle.ash_durable.proofs.RequestOutcomes.{handled_or_stopped}

of_acknowledged : (events : List StoreEvent) → AreAcknowledged events → IsOfPrefix events
of_acknowledged [] are = tt
of_acknowledged (Acknowledged budget request end seq happened answers ∷ earlier) are = are
of_acknowledged (InDoubt budget request ∷ earlier) are = absurd are
of_acknowledged (InDoubtBatch budget requests ∷ earlier) are = absurd are
of_acknowledged (Found reached ∷ earlier) are = tt

module _ {D B : Type 0} (device : Device D) (G : Ghosts B) (start : Reached) where
  -- whatever becomes of the host, what it leaves on its disks is such a prefix
  left : (events : List StoreEvent) (place : StoreLocation D B) → IsPrefixAt events place → IsOfPrefix events
  left events (UnderHost host) (inl stopped) = stopped.1
  left events (UnderHost host) (inr are) = of_acknowledged events are
  left events (OnDisks one other) are = are

  -- a host that runs has no request in doubt
  runs : (events : List StoreEvent) (host : Hosted D B) → (host.live ≡ None → ⊥) → IsPrefixAt events (UnderHost host)
      → AreAcknowledged events
  runs events host ran (inl stopped) = absurd (ran stopped.0)
  runs events host ran (inr are) = are

  ran_in : (live : LiveState B) (host : Hosted D B) → host.live ≡ Some live → host.live ≡ None → ⊥
  ran_in live host some none = let h : None ≡ Some live = sym none ∙ some in absurd (cc)

  unanswered : (events : List StoreEvent) (budget : ℕ) (request : Request) (old : Hosted D B)
      (reply : Reply SourceFault)
      (new : Hosted D B) → IsPrefixAt events (UnderHost old) → Handles device G budget request old reply new
      → IsPrefixAt events (UnderHost new)
  unanswered events budget request old reply new before handled =
      elim (handled_or_stopped device G budget request old reply new handled) [
        | inl stopped ↦ subst (λ (host : Hosted D B). IsPrefixAt events (UnderHost host)) (sym stopped.2) before
        | inr some ↦ inr (runs events old (ran_in some.0 old some.1) before)
      ]

  refused_batch : (events : List StoreEvent) (budget : ℕ) (requests : List BatchRequest) (old : Hosted D B)
      (refusal : Refusal SourceFault) (new : Hosted D B) → IsPrefixAt events (UnderHost old)
      → HandlesBatch device G budget requests old (Err refusal) new → IsPrefixAt events (UnderHost new)
  refused_batch events budget requests old refusal new before handled =
      elim (batch_or_stopped device G budget requests old (Err refusal) new handled) [
        | inl stopped ↦ subst (λ (host : Hosted D B). IsPrefixAt events (UnderHost host)) (sym stopped.2) before
        | inr some ↦ inr (runs events old (ran_in some.0 old some.1) before)
      ]

  pub prefix : (events : List StoreEvent) (place : StoreLocation D B) → Life device G start events place
      → IsPrefixAt events place
  prefix _ _ (lives.Created registered pool services a b host begins honest was) = inr tt
  prefix _ _ (lives.CrashedCreating registered pool services a b result a' b' begins fresh creates crash is_open) = tt
  prefix _ _ (lives.OpenedCreating registered pool services a b result a' b' pool' services' host begins fresh creates
      crash was) = inr tt
  prefix _ _ (lives.OpenedFirst registered pool services a b host honest was begins) = inr tt
  prefix _ _ (lives.Replied events budget request old live end seq happened new life is handled took) =
      inr (runs events old (ran_in live old is) (prefix events (UnderHost old) life))
  prefix _ _ (lives.Unanswered events budget request old reply new life handled not only) =
      unanswered events budget request old reply new (prefix events (UnderHost old) life) handled
  prefix _ _ (lives.Failed events budget request old reply new life handled not ran none) =
      inl (none, runs events old ran (prefix events (UnderHost old) life))
  prefix _ _ (lives.CrashedHandling events budget request old reply new a b life handled ran crash) =
      runs events old ran (prefix events (UnderHost old) life)
  prefix _ _ (lives.RepliedBatch events budget requests old live replies new life is handled took) =
      inr (all_acknowledged G budget requests live replies took.after events
      (runs events old (ran_in live old is) (prefix events (UnderHost old) life)) took.steps)
  prefix _ _ (lives.UnansweredBatch events budget requests old refusal new life handled only) =
      refused_batch events budget requests old refusal new (prefix events (UnderHost old) life) handled
  prefix _ _ (lives.FailedBatch events budget requests old refusal new life handled ran none) =
      inl (none, runs events old ran (prefix events (UnderHost old) life))
  prefix _ _ (lives.CrashedBatching events budget requests old result new a b life handled ran crash) =
      runs events old ran (prefix events (UnderHost old) life)
  prefix _ _ (lives.Closed events host life) = left events (UnderHost host) (prefix events (UnderHost host) life)
  prefix _ _ (lives.CrashedBetween events place a b life crash) = left events place (prefix events place life)
  prefix _ _ (lives.Opened events pool services a b host life was) = inr tt
  prefix _ _ (lives.RefusedOpening events others pool services a b r life was) = prefix events (OnDisks a b) life
  prefix _ _ (lives.CrashedOpening events others pool services a b result a' b' life opens crash) =
      prefix events (OnDisks a b) life
  prefix _ _ (lives.CrashedMoving events others pool services a b result a' b' life opens crash) =
      prefix events (OnDisks a b) life
  prefix _ _ (lives.NotCreated events others pool services a b r life was) = prefix events (OnDisks a b) life
  prefix _ _ (lives.CrashedNotCreating events others pool services a b result a' b' life creates crash) =
      prefix events (OnDisks a b) life
  prefix _ _ (lives.WasRead events a b a' b' life read) = prefix events (OnDisks a b) life
  prefix _ _ (lives.Swapped events a b life) = prefix events (OnDisks a b) life
