-- How calls of a host go on with a life.
use Rattle.std.proofs.Common.{◌≡◌, ◌⊎◌, inl, inr, ℕ, List, [], ◌∷◌, ◌++◌, Option, Some, None, Ok, Err, refl, sym, ◌∙◌}
use Rattle.std.proofs.Common.{ap, subst, append_assoc}
use Rattle.ash_disk.specs.Device.{Device}
use Rattle.ash_host.specs.declared.event.Event.{Event as HostEvent}
use Rattle.ash_host.specs.declared.host_object.HostObject.{Ghosts}
use Rattle.ash_meaning.specs.Ends.{End}
use Rattle.ash_requests.specs.Requests.{Request, Reply, Answered, Value, ShownAs, Number, Done, Refused, Refusal}
use Rattle.ash_sources.specs.SourceFaults.{SourceFault}
use Rattle.ash_engine.specs.LiveStates.{LiveState}
use Rattle.ash_engine.specs.LiveSteps.{Reached}
use Rattle.ash_durable.specs.Hosting.{Hosted, IsAnswer, TookStep, HostReplies, Handles}
use Rattle.ash_durable.specs.Batches.{BatchRequest, HandlesBatch, HostCall, SingleCall, BatchCall}
use Rattle.ash_durable.specs.Batches.{HostResult, SingleResult, BatchGiven, HandlesCall, HandlesCalls}
use Rattle.ash_durable.specs.RequestRuns.{LosesAnswer}
use Rattle.ash_durable.specs.Lives.{StoreEvent, Acknowledged, InDoubt, InDoubtBatch, UnderHost, Life, Replied}
use Rattle.ash_durable.specs.Lives.{Unanswered, Failed, RepliedBatch, UnansweredBatch, FailedBatch, acknowledged_in}
use Rattle.ash_durable.specs.Lives.{Records, RecordsCall, LivesOn}
use Rattle.ash_durable.proofs.BatchOutcomes.{batch_or_stopped, took_batch, all_recorded}
use Rattle.ash_durable.proofs.RequestOutcomes.{handled_or_stopped, stopped_answer}

-- the events of a request that is not answered
abbrev MayRecord : ℕ → Request → Reply SourceFault → List StoreEvent → Type 0
MayRecord budget request reply events = (events ≡ []) ⊎ (LosesAnswer reply × (events ≡ InDoubt budget request ∷ []))

records_other : (budget : ℕ) (request : Request) (reply : Reply SourceFault) (events : List StoreEvent)
    → (IsAnswer reply → ⊥)
    → MayRecord budget request reply events → Records budget request reply events
records_other budget request (Answered end seq happened) events not may = absurd (not tt)
records_other budget request _ events not may = may

module _ {D B : Type 0} (device : Device D) (G : Ghosts B) (budget : ℕ) where
  -- a host that ran and has stopped had a failure
  stops_by : (request : Request) (old : Hosted D B) (reply : Reply SourceFault) (new : Hosted D B) (live : LiveState B)
      → old.live ≡ Some live → new.live ≡ None → Handles device G budget request old reply new → LosesAnswer reply
  stops_by request old reply new live ran none handled =
      elim (handled_or_stopped device G budget request old reply new handled) [
        | inl stopped ↦ let h : None ≡ Some live = sym stopped.0 ∙ ran in absurd (cc)
        | inr some ↦ elim some.2.ending [
          | inl on ↦ let h : None ≡ Some some.2.after = sym none ∙ on.0 in absurd (cc)
          | inr (inl same) ↦ let h : None ≡ Some live = sym none
              ∙ ap (λ (host : Hosted D B). host.live) same.1 ∙ ran in absurd (cc)
          | inr (inr lost) ↦ lost.1
        ]
      ]

  -- and so had one that did so in a batch
  refused_by : (requests : List BatchRequest) (old : Hosted D B) (refusal : Refusal SourceFault) (new : Hosted D B)
      (live : LiveState B) → old.live ≡ Some live → new.live ≡ None
      → HandlesBatch device G budget requests old (Err refusal) new → LosesAnswer (Refused refusal)
  refused_by requests old refusal new live ran none handled =
      elim (batch_or_stopped device G budget requests old (Err refusal) new handled) [
        | inl stopped ↦ let h : None ≡ Some live = sym stopped.0 ∙ ran in absurd (cc)
        | inr some ↦ elim some.2.ending [
          | inl on ↦ let h : None ≡ Some some.0 = sym none ∙ on.0 in absurd (cc)
          | inr (inl same) ↦ let h : None ≡ Some live = sym none
              ∙ ap (λ (host : Hosted D B). host.live) same ∙ ran in absurd (cc)
          | inr (inr lost) ↦ lost.1
        ]
      ]

  -- a host that gave an answer took a step for it
  took_step : (request : Request) (old : Hosted D B) (end : End) (seq : ℕ) (happened : List HostEvent)
      (new : Hosted D B) → Handles device G budget request old (Answered end seq happened) new
      → (live : LiveState B) × (old.live ≡ Some live)
      × TookStep device G budget request live old (Answered end seq happened) new
  took_step request old end seq happened new handled = from old.live refl
    where
      reply : Reply SourceFault
      reply = Answered end seq happened

      by : (live : LiveState B) → old.live ≡ Some live → HostReplies device G budget request (Some live) old reply new
          → (one : LiveState B) × (old.live ≡ Some one) × TookStep device G budget request one old reply new
      by live is (inl took) = (live, is, took)
      by live is (inr (inl out)) = absurd (subst IsAnswer out.ran_out.reply_is tt)
      by live is (inr (inr (inl lost))) = absurd lost.lost
      by live is (inr (inr (inr (inl lost)))) = absurd (subst IsAnswer lost.reply_is tt)
      by live is (inr (inr (inr (inr none)))) = absurd none.refused

      from : (was : Option (LiveState B)) → old.live ≡ was
          → (one : LiveState B) × (old.live ≡ Some one) × TookStep device G budget request one old reply new
      from None none =
          let replies : HostReplies device G budget request None old reply new =
          subst (λ (l : Option (LiveState B)). HostReplies device G budget request l old reply new) none
          handled.replies in
          absurd (stopped_answer request old.seq (subst IsAnswer replies.0 tt))
      from (Some live) some =
          by live some (subst (λ (l : Option (LiveState B)). HostReplies device G budget request l old reply new) some
          handled.replies)

  module _ (start : Reached) where
    -- a life that goes on with one request
    abbrev LivesOnce : Request → List StoreEvent → Reply SourceFault → Hosted D B → Type 0
    LivesOnce request events reply new =
        (one : List StoreEvent) × Life device G start (one ++ events) (UnderHost new)
        × Records budget request reply one

    other_once : (request : Request) (events : List StoreEvent) (old : Hosted D B) (reply : Reply SourceFault)
        (new : Hosted D B) → Life device G start events (UnderHost old) → Handles device G budget request old reply new
        → (IsAnswer reply → ⊥) → LivesOnce request events reply new
    other_once request events old reply new life handled not = by new.live old.live refl refl
      where
        goes_on : (new.live ≡ None → old.live ≡ None) → LivesOnce request events reply new
        goes_on only = (
          [],
          Unanswered events budget request old reply new life handled not only,
          records_other budget request reply [] not (inl refl),
        )

        by : (is was : Option (LiveState B)) → new.live ≡ is → old.live ≡ was → LivesOnce request events reply new
        by (Some live) was runs before = goes_on (λ none. let h : None ≡ Some live = sym none ∙ runs in absurd (cc))
        by None None none before = goes_on (λ again. before)
        by None (Some live) none before =
            let ran : old.live ≡ None → ⊥ = λ stopped. let h : None ≡ Some live = sym stopped ∙ before in
            absurd (cc) in (
              InDoubt budget request ∷ [],
              Failed events budget request old reply new life handled not ran none,
              records_other budget request reply (InDoubt budget request ∷ []) not
                  (inr (stops_by request old reply new live before none handled, refl)),
            )

    lives_once : (request : Request) (events : List StoreEvent) (old : Hosted D B) (reply : Reply SourceFault)
        (new : Hosted D B) → Life device G start events (UnderHost old) → Handles device G budget request old reply new
        → LivesOnce request events reply new
    lives_once request events old (Answered end seq happened) new life handled =
        let took = took_step request old end seq happened new handled in (
          Acknowledged budget request end seq happened took.2.stepped.answers ∷ [],
          Replied events budget request old took.0 end seq happened new life took.1 handled took.2,
          (took.2.stepped.answers, refl),
        )
    lives_once request events old (Value word) new life handled =
        other_once request events old (Value word) new life handled (λ no. no)
    lives_once request events old (ShownAs shown) new life handled =
        other_once request events old (ShownAs shown) new life handled (λ no. no)
    lives_once request events old (Number seq) new life handled =
        other_once request events old (Number seq) new life handled (λ no. no)
    lives_once request events old Done new life handled =
        other_once request events old Done new life handled (λ no. no)
    lives_once request events old (Refused refusal) new life handled =
        other_once request events old (Refused refusal) new life handled (λ no. no)

    -- a life that goes on with one call
    abbrev LivesOnceBy : HostCall → List StoreEvent → HostResult → Hosted D B → Type 0
    LivesOnceBy call events result new =
        (one : List StoreEvent) × Life device G start (one ++ events) (UnderHost new)
        × RecordsCall budget call result one

    refused_once : (requests : List BatchRequest) (events : List StoreEvent) (old : Hosted D B)
        (refusal : Refusal SourceFault) (new : Hosted D B) → Life device G start events (UnderHost old)
        → HandlesBatch device G budget requests old (Err refusal) new
        → LivesOnceBy (BatchCall requests) events (BatchGiven (Err refusal)) new
    refused_once requests events old refusal new life handled = by new.live old.live refl refl
      where
        goes_on : (new.live ≡ None → old.live ≡ None)
            → LivesOnceBy (BatchCall requests) events (BatchGiven (Err refusal)) new
        goes_on only =
            ([], UnansweredBatch events budget requests old refusal new life handled only, inl refl)

        by : (is was : Option (LiveState B)) → new.live ≡ is → old.live ≡ was
            → LivesOnceBy (BatchCall requests) events (BatchGiven (Err refusal)) new
        by (Some live) was runs before = goes_on (λ none. let h : None ≡ Some live = sym none ∙ runs in absurd (cc))
        by None None none before = goes_on (λ again. before)
        by None (Some live) none before =
            let ran : old.live ≡ None → ⊥ = λ stopped. let h : None ≡ Some live = sym stopped ∙ before in
            absurd (cc) in (
              InDoubtBatch budget requests ∷ [],
              FailedBatch events budget requests old refusal new life handled ran none,
              inr (refused_by requests old refusal new live before none handled, refl),
            )

    pub call_once : (call : HostCall) (events : List StoreEvent) (old : Hosted D B) (result : HostResult)
        (new : Hosted D B) → Life device G start events (UnderHost old) → HandlesCall device G budget call old result new
        → LivesOnceBy call events result new
    call_once (SingleCall request) events old (SingleResult reply) new life handled =
        lives_once request events old reply new life handled
    call_once (BatchCall requests) events old (BatchGiven (Ok replies)) new life handled =
        let took = took_batch device G budget requests old replies new handled in (
          acknowledged_in took.2.steps,
          RepliedBatch events budget requests old took.0 replies new life took.1 handled took.2,
          all_recorded G budget requests took.0 replies took.2.after took.2.steps,
        )
    call_once (BatchCall requests) events old (BatchGiven (Err refusal)) new life handled =
        refused_once requests events old refusal new life handled
    call_once (SingleCall request) events old (BatchGiven result) new life handled = absurd handled
    call_once (BatchCall requests) events old (SingleResult reply) new life handled = absurd handled

  pub lives_on : (old : Hosted D B) (calls : List HostCall) (results : List HostResult) (new : Hosted D B)
      → HandlesCalls device G budget old calls results new → LivesOn device G budget old calls results new
  lives_on old [] [] new all =
      λ start events life. (
        [],
        subst (λ (host : Hosted D B). Life device G start events (UnderHost host)) (sym all) life,
        refl,
      )
  lives_on old (call ∷ calls) (result ∷ results) new all =
      λ start events life.
      let one = call_once start call events old result all.0 life all.1 in
      let more = lives_on all.0 calls results new all.2 start (one.0 ++ events) one.1 in (
        more.0 ++ one.0,
        subst (λ (later : List StoreEvent). Life device G start later (UnderHost new))
            (sym (append_assoc more.0 one.0 events)) more.1,
        (more.0, one.0, one.2, more.2, refl),
      )
  lives_on old [] (result ∷ results) new all = absurd all
  lives_on old (call ∷ calls) [] new all = absurd all
