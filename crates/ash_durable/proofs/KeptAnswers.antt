-- The answers of calls of a host are kept, whenever a crash comes.
use Rattle.std.proofs.Common.{◌≡◌, inl, inr, ℕ, List, [], ◌∷◌, ◌++◌, Some, None, refl, sym, ◌∙◌, subst}
use Rattle.std.specs.Bool.{IsTrue}
use Rattle.ash_disk.specs.Device.{Device}
use Rattle.ash_host.specs.declared.host_object.HostObject.{Ghosts}
use Rattle.ash_engine.specs.LiveSteps.{Reached}
use Rattle.ash_durable.specs.Hosting.{Hosted, first, second}
use Rattle.ash_durable.specs.Batches.{HostCall, SingleCall, BatchCall, HostResult, SingleResult, BatchGiven, HandlesCall}
use Rattle.ash_durable.specs.Batches.{HandlesCalls}
use Rattle.ash_durable.specs.Lives.{StoreEvent, InDoubt, InDoubtBatch, Crashed, UnderHost, OnDisks, Life}
use Rattle.ash_durable.specs.Lives.{CrashedHandling, CrashedBatching, CrashedBetween}
use Rattle.ash_durable.specs.KeptAnswers.{AreDoubts, OutlivesCrashes, KeepsAnswers}
use Rattle.ash_durable.proofs.BatchOutcomes.{batch_or_stopped}
use Rattle.ash_durable.proofs.LifeLaws.{outlives}
use Rattle.ash_durable.proofs.LivesOn.{call_once}
use Rattle.ash_durable.proofs.RequestOutcomes.{handled_or_stopped}

module _ {D B : Type 0} (device : Device D) (G : Ghosts B) (stays : (disk : D) → IsTrue (device.honest disk)
    → device.leaves disk (device.clock disk) (device.seen disk)) (budget : ℕ) where
  module _ (start : Reached) (events : List StoreEvent) (old : Hosted D B)
      (life : Life device G start events (UnderHost old)) where
    -- nothing is in doubt where the call did nothing
    crashed_between : (call : HostCall) (new : Hosted D B) → new ≡ old
        → OutlivesCrashes device G budget start events call old new
    crashed_between call new same = λ a b crash.
        let there = subst (λ (host : Hosted D B). Crashed device (device.clock (first old)) (device.clock (second old))
        (first host) (second host) a b) same crash in
        let on = CrashedBetween events (UnderHost old) a b life there in
        ([], inl refl, on, outlives device G stays start events (OnDisks a b) on)

    crashes : (call : HostCall) (result : HostResult) (new : Hosted D B) → HandlesCall device G budget call old result new
        → OutlivesCrashes device G budget start events call old new
    crashes (SingleCall request) (SingleResult reply) new handled =
        elim (handled_or_stopped device G budget request old reply new handled) [
          | inl stopped ↦ crashed_between (SingleCall request) new stopped.2
          | inr some ↦ λ a b crash.
              let ran : old.live ≡ None → ⊥ = λ none. let h : None ≡ Some some.0 = sym none ∙ some.1 in absurd (cc) in
              let on = CrashedHandling events budget request old reply new a b life handled ran crash in (
                InDoubt budget request ∷ [],
                inr refl,
                on,
                outlives device G stays start (InDoubt budget request ∷ events) (OnDisks a b) on,
              )
        ]
    crashes (BatchCall requests) (BatchGiven result) new handled =
        elim (batch_or_stopped device G budget requests old result new handled) [
          | inl stopped ↦ crashed_between (BatchCall requests) new stopped.2
          | inr some ↦ λ a b crash.
              let ran : old.live ≡ None → ⊥ = λ none. let h : None ≡ Some some.0 = sym none ∙ some.1 in absurd (cc) in
              let on = CrashedBatching events budget requests old result new a b life handled ran crash in (
                InDoubtBatch budget requests ∷ [],
                inr refl,
                on,
                outlives device G stays start (InDoubtBatch budget requests ∷ events) (OnDisks a b) on,
              )
        ]
    crashes (SingleCall request) (BatchGiven result) new handled = absurd handled
    crashes (BatchCall requests) (SingleResult reply) new handled = absurd handled

  pub keeps_answers : (old : Hosted D B) (calls : List HostCall) (results : List HostResult) (new : Hosted D B)
      → HandlesCalls device G budget old calls results new → KeepsAnswers device G budget old calls results new
  keeps_answers old [] [] new all = λ start events life.
      (all, outlives device G stays start events (UnderHost old) life)
  keeps_answers old (call ∷ calls) (result ∷ results) new all = λ start events life.
      let one = call_once device G budget start call events old result all.0 life all.1 in (
        outlives device G stays start events (UnderHost old) life,
        (
          all.0,
          one.0,
          one.2,
          crashes start events old life call result all.0 all.1,
          keeps_answers all.0 calls results new all.2 start (one.0 ++ events) one.1,
        ),
      )
  keeps_answers old [] (result ∷ results) new all = absurd all
  keeps_answers old (call ∷ calls) [] new all = absurd all
