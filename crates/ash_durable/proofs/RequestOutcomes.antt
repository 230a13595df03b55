-- What a request of a host comes to, and which events lead to which states.
use Rattle.std.proofs.Common.{◌≡◌, ◌⊎◌, inl, inr, ℕ, List, [], ◌∷◌, ◌++◌, Option, Some, None, refl, sym, ◌∙◌, ap, subst}
use Rattle.ash_disk.specs.Device.{Device}
use Rattle.ash_journal.specs.declared.journal.Journal.{Journal}
use Rattle.ash_host.specs.declared.host_object.HostObject.{Ghosts}
use Rattle.ash_requests.specs.Requests.{Request, Seq, Reply, Refused, DeviceFailed, NoMemory, GenerationSpent}
use Rattle.ash_sources.specs.SourceFaults.{SourceFault}
use Rattle.ash_states.specs.HostStates.{HostState}
use Rattle.ash_engine.specs.LiveStates.{LiveState, AreOf}
use Rattle.ash_engine.specs.LiveSteps.{Reached, reached_by, LiveSteps, TakesStep}
use Rattle.ash_durable.specs.Hosting.{Hosted, first, second, IsRunning, IsSaved, IsHonest, IsSound, RunsSound, IsAnswer}
use Rattle.ash_durable.specs.Hosting.{InstallRefused, WasLost, HostReplies, reply_stopped, Handles}
use Rattle.ash_durable.specs.RequestRuns.{LosesAnswer}
use Rattle.ash_durable.specs.StoredStates.{SettleSince, IsEither}
use Rattle.ash_durable.specs.Batches.{BatchRequest, Asked, BadRequest}
use Rattle.ash_durable.specs.Lives.{StoreEvent, Acknowledged, InDoubt, InDoubtBatch, Found, LeadsTo, LeadTo, LeadBy}
use Rattle.ash_durable.specs.Lives.{MayStepThrough}
use Rattle.ash_durable.proofs.Answerers.{may_answer}
use Rattle.ash_durable.proofs.Composing.{room_same}

-- ---- events

module _ {B : Type 0} (G : Ghosts B) where
  -- no requests of a batch change what is registered
  through_registered : (budget : ℕ) (requests : List BatchRequest) (before after : Reached)
      → MayStepThrough G budget requests before after → (after.durable).registered ≡ (before.durable).registered
  through_registered budget [] before after same = ap (λ (r : Reached). (r.durable).registered) same
  through_registered budget (BadRequest number ∷ requests) before after through =
      through_registered budget requests before after through
  through_registered budget (Asked request ∷ requests) before after through =
      through_registered budget requests through.0 after through.2 ∙ through.1.stepped.registered

  -- no event changes what is registered
  take_registered : (event : StoreEvent) (before after : Reached) → LeadsTo G event before after
      → (after.durable).registered ≡ (before.durable).registered
  take_registered (Acknowledged budget request end seq happened answers) before after took = took.1.registered
  take_registered (InDoubt budget request) before after (inl same) =
      ap (λ (r : Reached). (r.durable).registered) same
  take_registered (InDoubt budget request) before after (inr some) = some.3.registered
  take_registered (InDoubtBatch budget requests) before after (inl same) =
      ap (λ (r : Reached). (r.durable).registered) same
  take_registered (InDoubtBatch budget requests) before after (inr through) =
      through_registered budget requests before after through
  take_registered (Found reached) before after found =
      ap (λ (r : Reached). (r.durable).registered) found.1 ∙ sym (ap (λ (s : HostState). s.registered) found.0)

  pub lead_registered : (events : List StoreEvent) (start reached : Reached) → LeadTo G events start reached
      → (reached.durable).registered ≡ (start.durable).registered
  lead_registered [] start reached led = ap (λ (r : Reached). (r.durable).registered) led
  lead_registered (event ∷ earlier) start reached led = take_registered event led.0 reached led.2
      ∙ lead_registered earlier start led.0 led.1

  -- what is between the events before one and those after it
  record IsBetween (later : List StoreEvent) (event : StoreEvent) (earlier : List StoreEvent)
      (start reached : Reached) : Type 0 where
    before : Reached
    after : Reached
    led : LeadTo G earlier start before
    stepped : LeadsTo G event before after
    leads_on : LeadTo G later after reached

  between : (later : List StoreEvent) (event : StoreEvent) (earlier : List StoreEvent) (start reached : Reached)
      → LeadTo G (later ++ event ∷ earlier) start reached → IsBetween later event earlier start reached
  between [] event earlier start reached led =
      record { before = led.0; after = reached; led = led.1; stepped = led.2; leads_on = refl }
  between (newest ∷ later) event earlier start reached led =
      let by = between later event earlier start led.0 led.1 in
      record {
        before = by.before;
        after = by.after;
        led = by.led;
        stepped = by.stepped;
        leads_on = (led.0, by.leads_on, led.2);
      }

  -- events lead by way of each of them
  pub lead_by : (later : List StoreEvent) (event : StoreEvent) (earlier : List StoreEvent) (start reached : Reached)
      → LeadTo G (later ++ event ∷ earlier) start reached → LeadBy G later event earlier start reached.durable
  lead_by later event earlier start reached led =
      let by = between later event earlier start reached led in
      record {
        before = by.before;
        after = by.after;
        last = reached;
        led = by.led;
        stepped = by.stepped;
        leads_on = by.leads_on;
        state_is = refl;
      }

  -- a step that was taken is one that may have been
  may_step : (budget : ℕ) (request : Request) (old new : LiveState B) (reply : Reply SourceFault)
      → AreOf G old → AreOf G new → TakesStep G budget request old reply new
      → LeadsTo G (InDoubt budget request) (reached_by old) (reached_by new)
  may_step budget request old new reply old_of new_of step =
      inr (reply, step.answers, may_answer G budget request old new reply old_of new_of step, step.taken)

-- ---- what a request comes to

-- What becomes of a host that ran in a live state, by what came of a request: it runs in the live state that the
-- request led to; it is as it was; or it has stopped.
abbrev pub Ending : {D B : Type 0} → Ghosts B → ℕ → Request → LiveState B → LiveState B → Hosted D B
    → Reply SourceFault → Hosted D B → Type 0
Ending G budget request live after old reply new =
    ((new.live ≡ Some after) × IsRunning after.durable new × LiveSteps G budget request live reply after)
    ⊎ (((IsAnswer reply → ⊥) × (new ≡ old))
    ⊎ ((new.live ≡ None) × LosesAnswer reply))

-- What a request of a host comes to that ran in a live state: a live state that it may lead to, on which or on the one
-- before it the files settled at every moment.
pub record Outcome {D B : Type 0} (device : Device D) (G : Ghosts B) (budget : ℕ) (request : Request)
    (live : LiveState B) (old : Hosted D B) (reply : Reply SourceFault) (new : Hosted D B) : Type 0 where
  pub after : LiveState B
  pub may : RunsSound G old → LeadsTo G (InDoubt budget request) (reached_by live) (reached_by after)
  pub sound : RunsSound G old → IsSound G after
  pub moments : IsHonest device old → IsSaved device old
      → SettleSince device (device.clock (first old)) (device.clock (second old)) (first new) (second new)
      (IsEither live.durable after.durable)
  pub ending : Ending G budget request live after old reply new

-- what was not kept lost an answer
pub was_lost : {D : Type 0} (old : Journal D) (reply : Reply SourceFault) (new : Journal D) → WasLost old reply new
    → LosesAnswer reply
was_lost old (Refused DeviceFailed) new lost = tt
was_lost old (Refused NoMemory) new lost = tt
was_lost old _ new lost = absurd lost

module _ {D B : Type 0} (device : Device D) (G : Ghosts B) (budget : ℕ) (request : Request) where
  not_installed : (live : LiveState B) (old : Hosted D B) (reply : Reply SourceFault) (new : Hosted D B)
      → InstallRefused old reply new → Ending G budget request live live old reply new
  not_installed live old (Refused GenerationSpent) new refused = inr (inl (λ no. no, refused.1))
  not_installed live old (Refused NoMemory) new refused = inr (inl (λ no. no, refused.1))
  not_installed live old (Refused DeviceFailed) new refused = inr (inr (refused.1.stopped, tt))
  not_installed live old _ new refused = absurd refused

  outcome_of : (live : LiveState B) (old : Hosted D B) (reply : Reply SourceFault) (new : Hosted D B)
      → old.live ≡ Some live → Handles device G budget request old reply new
      → HostReplies device G budget request (Some live) old reply new
      → Outcome device G budget request live old reply new
  outcome_of live old reply new is handled (inl took) = record {
    after = took.after;
    may = λ was. may_step G budget request live took.after reply (was live is).boxes
        (handled.sound was took.after took.live_is).boxes took.stepped;
    sound = λ was. handled.sound was took.after took.live_is;
    moments = took.settles;
    ending = inl (took.live_is, took.running, inl took.stepped);
  }
  outcome_of live old reply new is handled (inr (inl out)) = record {
    after = live;
    may = λ was. inl refl;
    sound = λ was. was live is;
    moments = out.settles;
    ending = inl (room_same device request live old new out.room ∙ is, out.running, inr out.ran_out);
  }
  outcome_of live old reply new is handled (inr (inr (inl lost))) = record {
    after = lost.after;
    may = λ was. may_step G budget request live lost.after lost.answer (was live is).boxes lost.sound.boxes
        lost.stepped;
    sound = λ was. lost.sound;
    moments = lost.settles;
    ending = inr (inr (lost.stopped.stopped, was_lost lost.between.journal reply new.journal lost.lost));
  }
  outcome_of live old reply new is handled (inr (inr (inr (inl lost)))) = record {
    after = live;
    may = λ was. inl refl;
    sound = λ was. was live is;
    moments = lost.settles;
    ending = inr (inr (lost.stopped.stopped, subst LosesAnswer (sym lost.reply_is) tt));
  }
  outcome_of live old reply new is handled (inr (inr (inr (inr none)))) = record {
    after = live;
    may = λ was. inl refl;
    sound = λ was. was live is;
    moments = none.settles;
    ending = not_installed live old reply new none.refused;
  }

  -- a request comes to nothing where the host had to be reopened, else to a live state
  abbrev pub HandledOrStopped : Hosted D B → Reply SourceFault → Hosted D B → Type 0
  HandledOrStopped old reply new =
      ((old.live ≡ None) × (reply ≡ reply_stopped request old.seq) × (new ≡ old))
      ⊎ ((live : LiveState B) × (old.live ≡ Some live) × Outcome device G budget request live old reply new)

  pub handled_or_stopped : (old : Hosted D B) (reply : Reply SourceFault) (new : Hosted D B)
      → Handles device G budget request old reply new → HandledOrStopped old reply new
  handled_or_stopped old reply new handled = from old.live refl
    where
      from : (was : Option (LiveState B)) → old.live ≡ was → HandledOrStopped old reply new
      from None none =
          let replies : HostReplies device G budget request None old reply new =
          subst (λ (l : Option (LiveState B)). HostReplies device G budget request l old reply new) none
          handled.replies in
          inl (none, replies.0, replies.1)
      from (Some live) some =
          let replies : HostReplies device G budget request (Some live) old reply new =
          subst (λ (l : Option (LiveState B)). HostReplies device G budget request l old reply new) some
          handled.replies in
          inr (live, some, outcome_of live old reply new some handled replies)

pub stopped_answer : (request : Request) (seq : ℕ) → IsAnswer (reply_stopped request seq) → ⊥
stopped_answer Seq seq answer = answer
stopped_answer _ seq answer = answer
