-- What holds after each event in the life of a store, where it held before.
use Rattle.std.proofs.Common.{◌≡◌, ◌⊎◌, inl, inr, ℕ, List, [], ◌∷◌, Some, None, Result, Ok, Err, refl}
use Rattle.std.proofs.Common.{sym, ◌∙◌, ap, subst}
use Rattle.ash_disk.specs.Device.{Device}
use Rattle.ash_journal.specs.Current.{SettleOn}
use Rattle.ash_journal.specs.Layout.{IsClosed, IsOpen}
use Rattle.ash_journal.proofs.LayoutLaws.{open_closed}
use Rattle.ash_host.specs.declared.event.Event.{Event as HostEvent}
use Rattle.ash_host.specs.declared.host_object.HostObject.{Ghosts}
use Rattle.ash_meaning.specs.Ends.{End}
use Rattle.ash_requests.specs.Requests.{Request, Reply, Answered}
use Rattle.ash_sources.specs.SourceFaults.{SourceFault}
use Rattle.ash_registry.specs.AcceptedRegistrations.{Registration}
use Rattle.ash_states.specs.HostStates.{HostState}
use Rattle.ash_engine.specs.LiveStates.{LiveState, begin}
use Rattle.ash_engine.specs.LiveSteps.{Reached, reached_by}
use Rattle.ash_durable.specs.HandedBoxes.{first_state, first_reached}
use Rattle.ash_durable.specs.Hosting.{Hosted, first, second, IsRunning, IsSaved, IsHonest, IsAnswer, Handles, TookStep}
use Rattle.ash_durable.specs.Hosting.{IsSound, RunsSound}
use Rattle.ash_durable.specs.OpenedStore.{AddNothing, WasOpened, WasNotFound, Opens, first_found, second_found}
use Rattle.ash_durable.specs.OpenedStore.{NotFound, LeftThere}
use Rattle.ash_durable.specs.StoredStates.{AreHonest, SettleNow, IsOne, IsEither, HaveStateInTwo}
use Rattle.ash_durable.specs.Store.{WereOnlyRead, IsClosedOrHasState, WasCreated, Creates}
use Rattle.ash_durable.specs.Lives.{StoreEvent, Acknowledged, InDoubt, Found, LeadsTo, LeadTo, IsCertain}
use Rattle.ash_durable.specs.Lives.{Crashed, AreFresh, first_of, second_of, StoreLocation, UnderHost}
use Rattle.ash_durable.specs.Lives.{OnDisks, first_at, second_at, IsWholeHistory, Outlives}
use Rattle.ash_durable.specs.declared.fault.OpenRefused.{OpenRefused}
use Rattle.ash_durable.proofs.Settling.{settle_on_more, in_any_version, settle_now, settle_still}
use Rattle.ash_durable.proofs.Answerers.{may_answer}
use Rattle.ash_durable.proofs.Answering.{leaves}
use Rattle.ash_durable.proofs.HandedOver.{live_saved}
use Rattle.ash_durable.proofs.Making.{read_idle}
use Rattle.ash_durable.proofs.Opened.{kept_back}
use Rattle.ash_durable.proofs.RequestOutcomes.{lead_registered, handled_or_stopped}
use Rattle.ash_durable.proofs.CrashedDisks.{same_honesty, settle_crashed, settle_read, settle_swapped, held}

-- a host with a sound live state runs in it
pub sound_in : {D B : Type 0} (G : Ghosts B) (host : Hosted D B) (live : LiveState B) → host.live ≡ Some live
    → IsSound G live → RunsSound G host
sound_in G host live is sound = λ other other_is.
    let h : Some live ≡ Some other = sym is ∙ other_is in
    let same : live ≡ other = cc in
    subst (IsSound G) same sound

module _ {D B : Type 0} (device : Device D) (G : Ghosts B) (start : Reached) where
  -- ---- a host

  -- A host that runs in a live state to which events lead.
  pub runs_in : (events : List StoreEvent) (host : Hosted D B) (live : LiveState B)
      → host.registered ≡ (start.durable).registered
      → IsHonest device host → IsSaved device host → host.live ≡ Some live → IsRunning live.durable host
      → IsSound G live → LeadTo G events start (reached_by live)
      → Outlives device G start events (UnderHost host)
  runs_in events host live with_it honest saved is running sound led = record {
    honest = honest;
    whole = record {
      s = reached_by live;
      t = reached_by live;
      s_led = led;
      t_led = led;
      s_saved = live_saved G live sound;
      t_saved = live_saved G live sound;
      settled = settle_on_more device (device.clock (first host)) (device.clock (second host)) (first host)
          (second host) (IsOne live.durable) (IsEither live.durable live.durable)
          (held device host live.durable honest saved running) (λ s same. inl same);
      certain = λ yes. refl;
    };
    runs = record {
      registered_is = with_it;
      running = λ other other_is.
          subst (λ (l : LiveState B). IsRunning l.durable host) (same_live other other_is) running;
      sound = sound_in G host live is sound;
      led = λ other other_is.
          subst (λ (l : LiveState B). LeadTo G events start (reached_by l)) (same_live other other_is) led;
      saved = saved;
      settles = λ other runs. held device host other honest saved runs;
    };
  }
    where
      same_live : (other : LiveState B) → host.live ≡ Some other → live ≡ other
      same_live other other_is = let h : Some live ≡ Some other = sym is ∙ other_is in cc

  -- A host that must be reopened.
  pub stops_in : (events : List StoreEvent) (host : Hosted D B) → host.registered ≡ (start.durable).registered
      → IsHonest device host → IsSaved device host → host.live ≡ None
      → IsWholeHistory device G start events (first host) (second host)
      → Outlives device G start events (UnderHost host)
  stops_in events host with_it honest saved none whole = record {
    honest = honest;
    whole = whole;
    runs = record {
      registered_is = with_it;
      running = λ live is. absurd (never live is);
      sound = λ live is. absurd (never live is);
      led = λ live is. absurd (never live is);
      saved = saved;
      settles = λ state runs. held device host state honest saved runs;
    };
  }
    where
      never : (live : LiveState B) → host.live ≡ Some live → ⊥
      never live is = let h : None ≡ Some live = sym none ∙ is in absurd (cc)

  -- Two disks that no host has.
  pub rests_on : (events : List StoreEvent) (a b : D) → AreHonest device a b → IsWholeHistory device G start events a b
      → Outlives device G start events (OnDisks a b)
  rests_on events a b honest whole = record { honest = honest; whole = whole; runs = tt }

  -- the same two states on other disks
  pub still_whole : (events : List StoreEvent) (a b a' b' : D) → (was : IsWholeHistory device G start events a b)
      → SettleNow device a' b' (IsEither was.s.durable was.t.durable) → IsWholeHistory device G start events a' b'
  still_whole events a b a' b' was settled =
      record {
        s = was.s;
        t = was.t;
        s_led = was.s_led;
        t_led = was.t_led;
        s_saved = was.s_saved;
        t_saved = was.t_saved;
        settled = settled;
        certain = was.certain;
      }

  -- an event is in doubt that changed nothing
  pub not_done : (events : List StoreEvent) (event : StoreEvent) (a b : D) → (IsCertain (event ∷ events) → ⊥)
      → ((reached : Reached) → LeadsTo G event reached reached) → IsWholeHistory device G start events a b
      → IsWholeHistory device G start (event ∷ events) a b
  not_done events event a b doubtful stays was = record {
    s = was.s;
    t = was.t;
    s_led = (was.s, was.s_led, stays was.s);
    t_led = (was.t, was.t_led, stays was.t);
    s_saved = was.s_saved;
    t_saved = was.t_saved;
    settled = was.settled;
    certain = λ no. absurd (doubtful no);
  }

  -- an event is in doubt: it took place, or changed nothing
  pub in_doubt : (events : List StoreEvent) (event : StoreEvent) (live after : LiveState B) (a b : D)
      → (IsCertain (event ∷ events) → ⊥) → ((reached : Reached) → LeadsTo G event reached reached)
      → LeadTo G events start (reached_by live) → IsSound G live → IsSound G after
      → LeadsTo G event (reached_by live) (reached_by after)
      → SettleNow device a b (IsEither live.durable after.durable)
      → IsWholeHistory device G start (event ∷ events) a b
  in_doubt events event live after a b doubtful stays led sound sound_after may settled = record {
    s = reached_by live;
    t = reached_by after;
    s_led = (reached_by live, led, stays (reached_by live));
    t_led = (reached_by live, led, may);
    s_saved = live_saved G live sound;
    t_saved = live_saved G after sound_after;
    settled = settled;
    certain = λ no. absurd (doubtful no);
  }

  -- ---- requests

  abbrev pub Before : List StoreEvent → Hosted D B → Type 0
  Before events old = Outlives device G start events (UnderHost old)

  handled_honest : (budget : ℕ) (request : Request) (old : Hosted D B) (reply : Reply SourceFault) (new : Hosted D B)
      → IsHonest device old → Handles device G budget request old reply new → IsHonest device new
  handled_honest budget request old reply new honest handled =
      same_honesty device (first old) (second old) (first new) (second new)
      honest handled.honesty_first handled.honesty_second

  -- a host as it was, if it had events before
  pub as_before : (events : List StoreEvent) (old new : Hosted D B) → new ≡ old → Before events old → Before events new
  as_before events old new same before = subst (λ (host : Hosted D B). Outlives device G start events (UnderHost host))
      (sym same) before

  pub replied : (events : List StoreEvent) (budget : ℕ) (request : Request) (old : Hosted D B) (live : LiveState B)
      (end : End) (seq : ℕ) (happened : List HostEvent) (new : Hosted D B) → Before events old → old.live ≡ Some live
      → Handles device G budget request old (Answered end seq happened) new
      → (took : TookStep device G budget request live old (Answered end seq happened) new)
      → Outlives device G start (Acknowledged budget request end seq happened took.stepped.answers ∷ events)
      (UnderHost new)
  replied events budget request old live end seq happened new before is handled took =
      let reply = Answered end seq happened in
      let sound = handled.sound before.runs.sound took.after took.live_is in
      runs_in (Acknowledged budget request end seq happened took.stepped.answers ∷ events) new took.after
      (handled.registered ∙ before.runs.registered_is)
      (handled_honest budget request old reply new before.honest handled)
      (handled.saved before.runs.saved) took.live_is took.running
      sound (
        reached_by live,
        before.runs.led live is,
        (
          may_answer G budget request live took.after reply (before.runs.sound live is).boxes sound.boxes took.stepped,
          took.stepped.taken,
        ),
      )

  pub stored : (events : List StoreEvent) (budget : ℕ) (request : Request) (old : Hosted D B)
      (reply : Reply SourceFault) (new : Hosted D B)
      → Before events old → Handles device G budget request old reply new → (IsAnswer reply → ⊥)
      → (new.live ≡ None → old.live ≡ None) → Before events new
  stored events budget request old reply new before handled not only =
      elim (handled_or_stopped device G budget request old reply new handled) [
        | inl stopped ↦ as_before events old new stopped.2 before
        | inr some ↦ elim some.2.ending [
          | inl on ↦
              let same = leaves G budget request some.0 some.2.after reply on.2 not in
              runs_in events new some.2.after (handled.registered ∙ before.runs.registered_is)
              (handled_honest budget request old reply new before.honest handled) (handled.saved before.runs.saved)
              on.0 on.1 (some.2.sound before.runs.sound)
              (subst (λ (l : LiveState B). LeadTo G events start (reached_by l)) (sym same)
              (before.runs.led some.0 some.1))
          | inr (inl none) ↦ as_before events old new none.1 before
          | inr (inr lost) ↦ let h : None ≡ Some some.0 = sym (only lost.0) ∙ some.1 in absurd (cc)
        ]
      ]

  pub failed : (events : List StoreEvent) (budget : ℕ) (request : Request) (old : Hosted D B)
      (reply : Reply SourceFault) (new : Hosted D B)
      → Before events old → Handles device G budget request old reply new → (old.live ≡ None → ⊥) → new.live ≡ None
      → Outlives device G start (InDoubt budget request ∷ events) (UnderHost new)
  failed events budget request old reply new before handled ran none =
      elim (handled_or_stopped device G budget request old reply new handled) [
        | inl stopped ↦ absurd (ran stopped.0)
        | inr some ↦
            stops_in (InDoubt budget request ∷ events) new (handled.registered ∙ before.runs.registered_is)
            (handled_honest budget request old reply new before.honest handled) (handled.saved before.runs.saved) none
            (in_doubt events (InDoubt budget request) some.0 some.2.after (first new) (second new) (λ no. no)
            (λ reached. inl refl) (before.runs.led some.0 some.1) (before.runs.sound some.0 some.1) (some.2.sound before.runs.sound)
            (some.2.may before.runs.sound)
            (settle_now device (device.clock (first old)) (device.clock (second old)) (first new) (second new)
            (IsEither some.0.durable some.2.after.durable) (some.2.moments before.honest before.runs.saved)))
      ]

  pub crashed_handling : (events : List StoreEvent) (budget : ℕ) (request : Request) (old : Hosted D B)
      (reply : Reply SourceFault) (new : Hosted D B) (a b : D) → Before events old
      → Handles device G budget request old reply new
      → Crashed device (device.clock (first old)) (device.clock (second old)) (first new) (second new) a b
      → Outlives device G start (InDoubt budget request ∷ events) (OnDisks a b)
  crashed_handling events budget request old reply new a b before handled crash =
      elim (handled_or_stopped device G budget request old reply new handled) [
        | inl stopped ↦
            let crash_old : Crashed device (device.clock (first old)) (device.clock (second old)) (first old)
            (second old) a b = subst (λ (host : Hosted D B). Crashed device (device.clock (first old))
            (device.clock (second old))
            (first host) (second host) a b) stopped.2 crash in
            rests_on (InDoubt budget request ∷ events) a b crash.honest
            (not_done events (InDoubt budget request) a b (λ no. no) (λ reached. inl refl) (still_whole events (first old) (second old) a b before.whole
            (settle_crashed device (device.clock (first old)) (device.clock (second old)) (first old) (second old) a b
            (IsEither before.whole.s.durable before.whole.t.durable) before.whole.settled crash_old)))
        | inr some ↦
            rests_on (InDoubt budget request ∷ events) a b crash.honest
            (in_doubt events (InDoubt budget request) some.0 some.2.after a b (λ no. no) (λ reached. inl refl)
            (before.runs.led some.0 some.1) (before.runs.sound some.0 some.1) (some.2.sound before.runs.sound)
            (some.2.may before.runs.sound)
            (settle_crashed device (device.clock (first old)) (device.clock (second old)) (first new) (second new) a b
            (IsEither some.0.durable some.2.after.durable) (some.2.moments before.honest before.runs.saved) crash))
      ]

  -- ---- disks that no host has

  pub crashed_between : (events : List StoreEvent) (place : StoreLocation D B) (a b : D)
      → Outlives device G start events place
      → Crashed device (device.clock (first_at place)) (device.clock (second_at place)) (first_at place)
      (second_at place) a b → Outlives device G start events (OnDisks a b)
  crashed_between events place a b before crash =
      rests_on events a b crash.honest (still_whole events (first_at place) (second_at place) a b before.whole
      (settle_crashed device (device.clock (first_at place)) (device.clock (second_at place)) (first_at place)
      (second_at place) a b (IsEither before.whole.s.durable before.whole.t.durable) before.whole.settled crash))

  abbrev pub Rested : List StoreEvent → D → D → Type 0
  Rested events a b = Outlives device G start events (OnDisks a b)

  -- each of the two states has what is registered
  pub s_registered : (events : List StoreEvent) (a b : D) (was : IsWholeHistory device G start events a b)
      → (was.s.durable).registered ≡ (start.durable).registered
  s_registered events a b was = lead_registered G events start was.s was.s_led

  pub t_registered : (events : List StoreEvent) (a b : D) (was : IsWholeHistory device G start events a b)
      → (was.t.durable).registered ≡ (start.durable).registered
  t_registered events a b was = lead_registered G events start was.t was.t_led

  -- a host that was opened in a state to which the events lead
  pub found_led : (events : List StoreEvent) (reached : Reached) (state : HostState) (live : LiveState B)
      → LeadTo G events start reached → state ≡ reached.durable → live.durable ≡ state
      → LeadTo G (Found (reached_by live) ∷ events) start (reached_by live)
  found_led events reached state live led is lives = (reached, led, (sym (lives ∙ is), refl))

  pub opened : (events : List StoreEvent) (pool services : List B) (a b : D) (host : Hosted D B) → Rested events a b
      → (was : WasOpened device G (start.durable).registered pool services a b host)
      → Outlives device G start (Found (reached_by was.live) ∷ events) (UnderHost host)
  opened events pool services a b host before was =
      let is : IsEither before.whole.s.durable before.whole.t.durable was.state =
      was.same before.whole.s.durable before.whole.t.durable before.honest (s_registered events a b before.whole)
      (t_registered events a b before.whole)
      (in_any_version device a b (IsEither before.whole.s.durable before.whole.t.durable) before.whole.settled) in
      let led : LeadTo G (Found (reached_by was.live) ∷ events) start (reached_by was.live) = elim is [
        | inl s_is ↦ found_led events before.whole.s was.state was.live before.whole.s_led s_is was.restored.durable
        | inr t_is ↦ found_led events before.whole.t was.state was.live before.whole.t_led t_is was.restored.durable
      ] in
      let back = kept_back device (start.durable).registered a b was.state host.journal was.kept.old was.kept.version
      was.kept.found was.kept.keeps in
      runs_in (Found (reached_by was.live) ∷ events) host was.live
      (was.running.registered_is ∙ was.kept.found.registered_is)
      (same_honesty device a b (first host) (second host) before.honest back.honesty_first back.honesty_second)
      (was.saved before.honest) was.live_is
      (subst (λ (s : HostState). IsRunning s host) (sym was.restored.durable) was.running) was.sound led

  -- a store whose life begins with what was found
  pub opened_first : (registered : List Registration) (pool services : List B) (a b : D) (host : Hosted D B)
      → AreHonest device a b → (was : WasOpened device G registered pool services a b host)
      → start ≡ reached_by was.live → Outlives device G start (Found (reached_by was.live) ∷ []) (UnderHost host)
  opened_first registered pool services a b host honest was begins =
      let lives = was.restored.durable in
      let back = kept_back device registered a b was.state host.journal was.kept.old was.kept.version was.kept.found
      was.kept.keeps in
      runs_in (Found (reached_by was.live) ∷ []) host was.live
      (was.running.registered_is ∙ sym (ap (λ (s : HostState). s.registered) lives)
      ∙ sym (ap (λ (r : Reached). (r.durable).registered) begins))
      (same_honesty device a b (first host) (second host) honest back.honesty_first back.honesty_second)
      (was.saved honest) was.live_is (subst (λ (s : HostState). IsRunning s host) (sym lives) was.running) was.sound
      (found_led [] start was.state was.live refl (sym lives ∙ sym (ap (λ (r : Reached). r.durable) begins)) lives)

  pub not_found : (events : List StoreEvent) (others : List Registration) (pool services : List B) (a b : D)
      (r : OpenRefused D) → Rested events a b
      → WasNotFound device G others pool services a b r → Rested events r.a r.b
  not_found events others pool services a b r before was =
      rests_on events r.a r.b (same_honesty device a b r.a r.b before.honest was.disks.honesty_first
      was.disks.honesty_second)
      (still_whole events a b r.a r.b before.whole
      (settle_now device (device.clock a) (device.clock b) r.a r.b
      (IsEither before.whole.s.durable before.whole.t.durable)
      (settle_still device (device.clock a) (device.clock b) a b r.a r.b
      (IsEither before.whole.s.durable before.whole.t.durable)
      (was.moments before.honest) before.whole.settled)))

  opening_adds_nothing : (others : List Registration) (pool services : List B) (a b : D)
      (result : Result (Hosted D B) (OpenRefused D))
      (opens : Opens device G others pool services a b result)
      → AddNothing device a b (first_found device G others pool services a b result opens)
      (second_found device G others pool services a b result opens)
  opening_adds_nothing others pool services a b (Ok host) was = was.kept.found.moments
  opening_adds_nothing others pool services a b (Err r) (NotFound was) = was.moments
  opening_adds_nothing others pool services a b (Err r) (LeftThere was) = was.found.moments

  pub crashed_opening : (events : List StoreEvent) (others : List Registration) (pool services : List B) (a b : D)
      (result : Result (Hosted D B) (OpenRefused D)) (a' b' : D) → Rested events a b
      → (opens : Opens device G others pool services a b result)
      → Crashed device (device.clock a) (device.clock b) (first_found device G others pool services a b result opens)
      (second_found device G others pool services a b result opens) a' b' → Rested events a' b'
  crashed_opening events others pool services a b result a' b' before opens crash =
      let x = first_found device G others pool services a b result opens in
      let y = second_found device G others pool services a b result opens in
      rests_on events a' b' crash.honest (still_whole events a b a' b' before.whole
      (settle_crashed device (device.clock a) (device.clock b) x y a' b'
      (IsEither before.whole.s.durable before.whole.t.durable)
      (settle_still device (device.clock a) (device.clock b) a b x y
      (IsEither before.whole.s.durable before.whole.t.durable)
      (opening_adds_nothing others pool services a b result opens before.honest) before.whole.settled) crash))

  pub looked : (events : List StoreEvent) (a b a' b' : D) → Rested events a b → WereOnlyRead device a b a' b'
      → Rested events a' b'
  looked events a b a' b' before read =
      rests_on events a' b' (same_honesty device a b a' b' before.honest read.read_first.honesty
      read.read_second.honesty)
      (still_whole events a b a' b' before.whole
      (settle_now device (device.clock a) (device.clock b) a' b'
      (IsEither before.whole.s.durable before.whole.t.durable)
      (settle_read device a b a' b' (IsEither before.whole.s.durable before.whole.t.durable) before.honest read
      before.whole.settled)))

  pub turned : (events : List StoreEvent) (a b : D) → Rested events a b → Rested events b a
  turned events a b before =
      rests_on events b a (record {
        honest_first = before.honest.honest_second;
        honest_second = before.honest.honest_first;
      })
      (still_whole events a b b a before.whole
      (settle_swapped device a b (IsEither before.whole.s.durable before.whole.t.durable) before.whole.settled))

  -- ---- a store that is created

  pub created : (registered : List Registration) (pool services : List B) (a b : D) (host : Hosted D B)
      → start ≡ first_reached G registered pool services → AreHonest device a b
      → WasCreated device G registered pool services a b host → Outlives device G start [] (UnderHost host)
  created registered pool services a b host begins honest was =
      runs_in [] host (begin G registered pool services)
      (was.running.registered_is ∙ sym (ap (λ (r : Reached). (r.durable).registered) begins))
      (same_honesty device a b (first host) (second host)
      honest was.made.disks.honesty_first was.made.disks.honesty_second)
      was.saved was.live_is was.running (was.sound (begin G registered pool services) was.live_is) (sym begins)

  -- no file is open, or they settle on the state before any request, which is sound
  abbrev pub IsClosedOrBegun : List Registration → List B → List B → List ℕ → List ℕ → Type 0
  IsClosedOrBegun registered pool services x y = (IsClosed x × IsClosed y)
      ⊎ (IsSound G (begin G registered pool services)
      × SettleOn (HaveStateInTwo (IsOne (first_state G registered services))) x y)

  with_sound : (registered : List Registration) (pool services : List B) (x y : List ℕ)
      → IsSound G (begin G registered pool services) → IsClosedOrHasState (first_state G registered services) x y
      → IsClosedOrBegun registered pool services x y
  with_sound registered pool services x y sound (inl closed) = inl closed
  with_sound registered pool services x y sound (inr settle) = inr (sound, settle)

  -- of every two images that a crash then may leave now, none is open, or they settle on the state before any request
  pub begun : (registered : List Registration) (pool services : List B) (a b : D)
      (result : Result (Hosted D B) (OpenRefused D)) (a' b' : D) (x y : List ℕ) → AreFresh device a b
      → Creates device G registered pool services a b result
      → Crashed device (device.clock a) (device.clock b) (first_of result)
      (second_of result) a' b' → device.leaves a' (device.clock a') x → device.leaves b' (device.clock b') y
      → IsClosedOrBegun registered pool services x y
  begun registered pool services a b (Ok host) a' b' x y fresh was crash left_x left_y =
      let one = crash.left_first x left_x in
      let other = crash.left_second y left_y in
      with_sound registered pool services x y (was.sound (begin G registered pool services) was.live_is)
      (was.made.moments (device.clock a) (device.clock b)
      fresh.honest fresh.rested_first fresh.rested_second one.0 other.0 x y one.1 one.2 other.1 other.2 one.3 other.3)
  begun registered pool services a b (Err r) a' b' x y fresh was crash left_x left_y =
      let one = crash.left_first x left_x in
      let other = crash.left_second y left_y in
      elim was.begun [
        | inl read ↦ inl (read_idle device a b r.a r.b read (device.clock a) (device.clock b)
            fresh.honest fresh.rested_first fresh.rested_second one.0 other.0 x y one.1 one.2 other.1 other.2 one.3
            other.3)
        | inr sound ↦ with_sound registered pool services x y sound
            (was.not_made.moments (device.clock a) (device.clock b)
            fresh.honest fresh.rested_first fresh.rested_second one.0 other.0 x y one.1 one.2 other.1 other.2 one.3
            other.3)
      ]

  pub open_begun : (registered : List Registration) (pool services : List B) (x y : List ℕ) → IsOpen x ⊎ IsOpen y
      → IsClosedOrBegun registered pool services x y
      → IsSound G (begin G registered pool services)
      × SettleOn (HaveStateInTwo (IsOne (first_state G registered services))) x y
  open_begun registered pool services x y is (inr settle) = settle
  open_begun registered pool services x y (inl is_open) (inl closed) = absurd (open_closed x is_open closed.0)
  open_begun registered pool services x y (inr is_open) (inl closed) = absurd (open_closed y is_open closed.1)
