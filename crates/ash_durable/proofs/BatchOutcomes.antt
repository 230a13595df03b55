-- What a batch of a host comes to, and to which states its events lead.
use Rattle.std.proofs.Common.{◌≡◌, ◌⊎◌, inl, inr, ℕ, List, ◌∷◌, ◌++◌, append_assoc, append-nil, Option, Some, None}
use Rattle.std.proofs.Common.{Ok, Err, refl, sym, ◌∙◌, ap, subst}
use Rattle.ash_disk.specs.Device.{Device}
use Rattle.ash_host.specs.declared.host_object.HostObject.{Ghosts}
use Rattle.ash_requests.specs.Requests.{Request, Reply, Answered, Refused, Refusal, DeviceFailed, NoMemory, Reopen}
use Rattle.ash_requests.specs.Requests.{GenerationSpent}
use Rattle.ash_sources.specs.SourceFaults.{SourceFault}
use Rattle.ash_engine.specs.LiveStates.{LiveState, AreOf}
use Rattle.ash_engine.specs.LiveSteps.{Reached, reached_by, TakesStep}
use Rattle.ash_durable.specs.StoredStates.{SettleSince, IsEither}
use Rattle.ash_durable.specs.Hosting.{Hosted, first, second, IsRunning, IsSaved, IsHonest, IsSound, RunsSound}
use Rattle.ash_durable.specs.Hosting.{InstallRefused}
use Rattle.ash_durable.specs.Batches as batches
use Rattle.ash_durable.specs.Batches.{BatchRequest, Asked, BatchReply, BatchResult, BatchSteps, NoneLeft, Bad, Step}
use Rattle.ash_durable.specs.Batches.{TookBatch, BatchOutcome, HandlesBatch, adding_request}
use Rattle.ash_durable.specs.RequestRuns.{LosesAnswer}
use Rattle.ash_durable.specs.Lives.{StoreEvent, InDoubtBatch, LeadsTo, LeadTo, MayStepThrough, AreAcknowledged}
use Rattle.ash_durable.specs.Lives.{RecordsBatch, event_of, acknowledged_in}
use Rattle.ash_durable.proofs.Answerers.{may_answer}
use Rattle.ash_durable.proofs.Composing.{room_same}
use Rattle.ash_durable.proofs.RequestOutcomes.{was_lost}

-- ---- the steps of a batch

module _ {B : Type 0} (G : Ghosts B) (budget : ℕ) where
  -- the steps that were taken are such as may have been
  pub may_step_through : (requests : List BatchRequest) (live : LiveState B) (replies : List BatchReply)
      (after : LiveState B) → AreOf G live → BatchSteps G budget requests live replies after
      → MayStepThrough G budget requests (reached_by live) (reached_by after)
  may_step_through _ _ _ _ of (NoneLeft live) = refl
  may_step_through _ _ _ _ of (Bad number requests live replies after more) =
      may_step_through requests live replies after of more
  may_step_through _ _ _ _ of (Step request requests live reply next replies after stepped boxes more) = (
    reached_by next,
    record {
      reply = reply;
      answers = stepped.answers;
      may = may_answer G budget request live next reply of boxes stepped;
      stepped = stepped.taken;
    },
    may_step_through requests next replies after boxes more,
  )

  -- the event of a request leads to what its step led to
  one_leads : (events : List StoreEvent) (start : Reached) (request : Request) (live : LiveState B)
      (reply : Reply SourceFault) (next : LiveState B) → AreOf G live → AreOf G next
      → LeadTo G events start (reached_by live) → (stepped : TakesStep G budget request live reply next)
      → LeadTo G (event_of reply stepped ++ events) start (reached_by next)
  one_leads events start request live (Answered end seq happened) next of boxes led stepped = (
    reached_by live,
    led,
    (may_answer G budget request live next (Answered end seq happened) of boxes stepped, stepped.taken),
  )
  one_leads events start request live _ next of boxes led stepped =
      subst (λ (l : LiveState B). LeadTo G events start (reached_by l)) (sym (stepped.unchanged tt)) led

  -- and the events of a batch to what all of its steps led to
  pub answered_lead : (requests : List BatchRequest) (live : LiveState B) (replies : List BatchReply)
      (after : LiveState B) (events : List StoreEvent) (start : Reached) → AreOf G live
      → LeadTo G events start (reached_by live) → (steps : BatchSteps G budget requests live replies after)
      → LeadTo G (acknowledged_in steps ++ events) start (reached_by after)
  unfolding acknowledged_in
  answered_lead _ _ _ _ events start of led (NoneLeft live) = led
  answered_lead _ _ _ _ events start of led (Bad number requests live replies after more) =
      answered_lead requests live replies after events start of led more
  answered_lead _ _ _ _ events start of led
      (Step request requests live reply next replies after stepped boxes more) =
      subst (λ (all : List StoreEvent). LeadTo G all start (reached_by after))
      (sym (append_assoc (acknowledged_in more) (event_of reply stepped) events))
      (answered_lead requests next replies after (event_of reply stepped ++ events) start boxes
      (one_leads events start request live reply next of boxes led stepped) more)

  -- each of these events is a request that was answered

  one_acknowledged : (events : List StoreEvent) (request : Request) (live : LiveState B) (reply : Reply SourceFault)
      (next : LiveState B) (stepped : TakesStep G budget request live reply next) → AreAcknowledged events
      → AreAcknowledged (event_of reply stepped ++ events)
  one_acknowledged events request live (Answered end seq happened) next stepped are = are
  one_acknowledged events request live _ next stepped are = are

  pub all_acknowledged : (requests : List BatchRequest) (live : LiveState B) (replies : List BatchReply)
      (after : LiveState B) (events : List StoreEvent) → AreAcknowledged events
      → (steps : BatchSteps G budget requests live replies after) → AreAcknowledged (acknowledged_in steps ++ events)
  unfolding acknowledged_in
  all_acknowledged _ _ _ _ events are (NoneLeft live) = are
  all_acknowledged _ _ _ _ events are (Bad number requests live replies after more) =
      all_acknowledged requests live replies after events are more
  all_acknowledged _ _ _ _ events are (Step request requests live reply next replies after stepped boxes more) =
      subst AreAcknowledged (sym (append_assoc (acknowledged_in more) (event_of reply stepped) events))
      (all_acknowledged requests next replies after (event_of reply stepped ++ events)
      (one_acknowledged events request live reply next stepped are) more)

  -- and they are those of the replies

  one_recorded : (request : Request) (requests : List BatchRequest) (live : LiveState B) (reply : Reply SourceFault)
      (next : LiveState B) (replies : List BatchReply) (later : List StoreEvent)
      (stepped : TakesStep G budget request live reply next) → RecordsBatch budget requests replies later
      → RecordsBatch budget (Asked request ∷ requests) (batches.Replied reply ∷ replies)
      (later ++ event_of reply stepped)
  one_recorded request requests live (Answered end seq happened) next replies later stepped are =
      (later, stepped.answers, are, refl)
  one_recorded request requests live _ next replies later stepped are =
      subst (λ (events : List StoreEvent). RecordsBatch budget requests replies events) (sym (append-nil later)) are

  pub all_recorded : (requests : List BatchRequest) (live : LiveState B) (replies : List BatchReply)
      (after : LiveState B) (steps : BatchSteps G budget requests live replies after)
      → RecordsBatch budget requests replies (acknowledged_in steps)
  unfolding acknowledged_in
  all_recorded _ _ _ _ (NoneLeft live) = refl
  all_recorded _ _ _ _ (Bad number requests live replies after more) =
      all_recorded requests live replies after more
  all_recorded _ _ _ _ (Step request requests live reply next replies after stepped boxes more) =
      one_recorded request requests live reply next replies (acknowledged_in more) stepped
      (all_recorded requests next replies after more)

-- ---- what a batch comes to

-- What becomes of a host that ran in a live state, where a batch is refused: it still runs in that live state; it is as
-- it was; or it has stopped.
abbrev pub BatchEnding : {D B : Type 0} → LiveState B → Hosted D B → BatchResult → Hosted D B → Type 0
BatchEnding live old (Ok replies) new = Unit {0}
BatchEnding live old (Err refusal) new =
    ((new.live ≡ Some live) × IsRunning live.durable new)
    ⊎ ((new ≡ old) ⊎ ((new.live ≡ None) × LosesAnswer (Refused refusal)))

-- What a batch of a host comes to that ran in a live state: a live state that it may lead to, on which or on the one
-- before it the files settled at every moment.
pub record BatchComesTo {D B : Type 0} (device : Device D) (G : Ghosts B) (budget : ℕ) (requests : List BatchRequest)
    (live : LiveState B) (old : Hosted D B) (result : BatchResult) (new : Hosted D B) : Type 0 where
  pub after : LiveState B
  pub may : RunsSound G old → LeadsTo G (InDoubtBatch budget requests) (reached_by live) (reached_by after)
  pub sound : RunsSound G old → IsSound G after
  pub moments : IsHonest device old → IsSaved device old
      → SettleSince device (device.clock (first old)) (device.clock (second old)) (first new) (second new)
      (IsEither live.durable after.durable)
  pub ending : BatchEnding live old result new

module _ {D B : Type 0} (device : Device D) (G : Ghosts B) (budget : ℕ) (requests : List BatchRequest) where
  no_room : (live : LiveState B) (old : Hosted D B) (refusal : Refusal SourceFault) (new : Hosted D B)
      → InstallRefused old (Refused refusal) new → BatchEnding live old (Err refusal) new
  no_room live old GenerationSpent new refused = inr (inl refused.1)
  no_room live old NoMemory new refused = inr (inl refused.1)
  no_room live old DeviceFailed new refused = inr (inr (refused.1.stopped, tt))
  no_room live old _ new refused = absurd refused

  comes_to : (live : LiveState B) (old : Hosted D B) (result : BatchResult) (new : Hosted D B)
      → old.live ≡ Some live → HandlesBatch device G budget requests old result new
      → BatchOutcome device G budget requests (Some live) old result new
      → BatchComesTo device G budget requests live old result new
  comes_to live old (Ok replies) new is handled took = record {
    after = took.after;
    may = λ was. inr (may_step_through G budget requests live replies took.after (was live is).boxes took.steps);
    sound = λ was. handled.sound was took.after took.live_is;
    moments = took.settles;
    ending = tt;
  }
  comes_to live old (Err refusal) new is handled (inl out) = record {
    after = live;
    may = λ was. inl refl;
    sound = λ was. was live is;
    moments = out.settles;
    ending = inl (room_same device (adding_request requests) live old new out.room ∙ is, out.running);
  }
  comes_to live old (Err refusal) new is handled (inr (inl lost)) = record {
    after = lost.after;
    may = λ was. inr (may_step_through G budget requests live lost.replies lost.after (was live is).boxes lost.steps);
    sound = λ was. lost.sound;
    moments = lost.settles;
    ending = inr (inr (
      lost.stopped.stopped,
      was_lost lost.between.journal (Refused refusal) new.journal lost.lost,
    ));
  }
  comes_to live old (Err refusal) new is handled (inr (inr (inl lost))) = record {
    after = live;
    may = λ was. inl refl;
    sound = λ was. was live is;
    moments = lost.settles;
    ending = inr (inr (
      lost.stopped.stopped,
      subst (λ (r : Refusal SourceFault). LosesAnswer (Refused r)) (sym lost.refusal_is) tt,
    ));
  }
  comes_to live old (Err refusal) new is handled (inr (inr (inr none))) = record {
    after = live;
    may = λ was. inl refl;
    sound = λ was. was live is;
    moments = none.settles;
    ending = no_room live old refusal new none.refused;
  }

  -- a host that must be reopened refuses each batch
  pub stopped_batch : (old : Hosted D B) (result : BatchResult) (new : Hosted D B)
      → BatchOutcome device G budget requests None old result new → (result ≡ Err Reopen) × (new ≡ old)
  stopped_batch old (Ok replies) new none = absurd none
  stopped_batch old (Err refusal) new none =
      let one : Refusal SourceFault → BatchResult = λ r. Err r in (ap one none.0, none.1)

  -- a batch comes to nothing where the host had to be reopened, else to a live state
  abbrev pub BatchOrStopped : Hosted D B → BatchResult → Hosted D B → Type 0
  BatchOrStopped old result new =
      ((old.live ≡ None) × (result ≡ Err Reopen) × (new ≡ old))
      ⊎ ((live : LiveState B) × (old.live ≡ Some live)
      × BatchComesTo device G budget requests live old result new)

  pub batch_or_stopped : (old : Hosted D B) (result : BatchResult) (new : Hosted D B)
      → HandlesBatch device G budget requests old result new → BatchOrStopped old result new
  batch_or_stopped old result new handled = from old.live refl
    where
      from : (was : Option (LiveState B)) → old.live ≡ was → BatchOrStopped old result new
      from None none =
          let stopped = stopped_batch old result new
          (subst (λ (l : Option (LiveState B)). BatchOutcome device G budget requests l old result new) none
          handled.outcome) in
          inl (none, stopped.0, stopped.1)
      from (Some live) some = inr (
        live,
        some,
        comes_to live old result new some handled
            (subst (λ (l : Option (LiveState B)). BatchOutcome device G budget requests l old result new) some
            handled.outcome),
      )

  -- a host that gave replies to a batch took its steps
  pub took_batch : (old : Hosted D B) (replies : List BatchReply) (new : Hosted D B)
      → HandlesBatch device G budget requests old (Ok replies) new
      → (live : LiveState B) × (old.live ≡ Some live) × TookBatch device G budget requests live old replies new
  took_batch old replies new handled = from old.live refl
    where
      from : (was : Option (LiveState B)) → old.live ≡ was
          → (live : LiveState B) × (old.live ≡ Some live) × TookBatch device G budget requests live old replies new
      from None none = absurd (subst (λ (l : Option (LiveState B)).
          BatchOutcome device G budget requests l old (Ok replies) new) none handled.outcome)
      from (Some live) some = (
        live,
        some,
        subst (λ (l : Option (LiveState B)).
            BatchOutcome device G budget requests l old (Ok replies) new) some handled.outcome,
      )
