-- What holds in each life of a store, by induction over it.
use Rattle.std.proofs.Common.{◌≡◌, inl, inr, ℕ, List, [], ◌∷◌, ◌++◌, Result, Ok, Err, refl, sym, ◌∙◌, ap, subst, arith}
use Rattle.std.specs.Bool.{IsTrue}
use Rattle.ash_disk.specs.Device.{Device}
use Rattle.ash_journal.specs.declared.error.CreateFault.TheVariants as creating
use Rattle.ash_journal.specs.declared.journal.Journal.{Journal}
use Rattle.ash_journal.specs.Current.{Contents, Represent, SettleOn}
use Rattle.ash_journal.specs.Journal.{first_disk, second_disk}
use Rattle.ash_journal.proofs.SettleLaws.{represent_now, represent_once}
use Rattle.ash_image.specs.declared.version.Version.{Version}
use Rattle.ash_image.specs.declared.version.Version.TheVariants.{One, Two}
use Rattle.ash_states.specs.HostStates.{HostState}
use Rattle.ash_host.specs.declared.host_object.HostObject.{Ghosts}
use Rattle.ash_registry.specs.AcceptedRegistrations.{Registration}
use Rattle.ash_engine.specs.LiveStates.{begin}
use Rattle.ash_engine.specs.RestoredBoxes.{LacksService}
use Rattle.ash_engine.specs.LiveSteps.{Reached, reached_by}
use Rattle.ash_durable.specs.HandedBoxes.{first_state, first_reached, AreSaved, CanOpen}
use Rattle.ash_durable.specs.StoreFaults.{IsMishap}
use Rattle.ash_durable.specs.Hosting.{Hosted, first, second, IsRunning, IsSound}
use Rattle.ash_durable.specs.OpenedStore.{WasOpened, WasFound, WasLeft, WasRefused, Opens, Keeps}
use Rattle.ash_durable.specs.OpenedStore.{first_found, second_found, NotFound, LeftThere}
use Rattle.ash_durable.specs.StoredStates.{AreHonest, SettleSince, SettleNow, IsOne, IsEither, HaveStateInTwo}
use Rattle.ash_durable.specs.Store.{WereOnlyRead, AreClosed, NotMadeFor, WasNotCreated, Creates}
use Rattle.ash_durable.specs.Lives as lives
use Rattle.ash_durable.specs.Lives.{StoreEvent, Found, LeadBy}
use Rattle.ash_durable.specs.Lives.{Crashed, AreFresh, IsOneOpen, first_of, second_of, StoreLocation, UnderHost}
use Rattle.ash_durable.specs.Lives.{CanOpenAfter}
use Rattle.ash_durable.specs.Lives.{OnDisks, first_at, second_at, Life, Outlives}
use Rattle.ash_durable.specs.declared.fault.OpenRefused.{OpenRefused}
use Rattle.ash_durable.specs.declared.fault.StoreFault.{StoreFault}
use Rattle.ash_durable.specs.declared.fault.StoreFault.TheVariants as faults
use Rattle.ash_durable.proofs.Faultless.{represent_open}
use Rattle.ash_durable.proofs.HandedOver.{live_saved}
use Rattle.ash_durable.proofs.Mishaps.{two_one, only_mishaps}
use Rattle.ash_durable.proofs.Settling.{settle_on_more, settle_now, settle_still}
use Rattle.ash_replay.specs.ReplayedStates.{IsStateOf}
use Rattle.ash_replay.proofs.HostStatesRead.{host_state_once}
use Rattle.ash_durable.proofs.Opened.{kept_back}
use Rattle.ash_durable.proofs.BatchEvents.{replied_batch, refused_batch, failed_batch, crashed_batching}
use Rattle.ash_durable.proofs.RequestOutcomes.{lead_by}
use Rattle.ash_durable.proofs.CrashedDisks.{same_honesty, settle_crashed, settle_read}
use Rattle.ash_durable.proofs.LifeEvents.{runs_in, rests_on, still_whole, replied, stored, failed, crashed_handling}
use Rattle.ash_durable.proofs.LifeEvents.{crashed_between, Rested, s_registered, t_registered, found_led, opened}
use Rattle.ash_durable.proofs.LifeEvents.{opened_first, not_found}
use Rattle.ash_durable.proofs.LifeEvents.{crashed_opening, looked, turned, created, IsClosedOrBegun, begun, open_begun}

-- ---- what the disks read

module _ {D : Type 0} (device : Device D) (stays : (disk : D) → IsTrue (device.honest disk)
    → device.leaves disk (device.clock disk) (device.seen disk)) where
  -- a store's files, as they read, represent a state of those that they settle on
  reads_one : (a b : D) (P : HostState → Type 0) → AreHonest device a b → SettleNow device a b P → (contents : Contents)
      × HaveStateInTwo P contents × Represent contents (device.seen a) (device.seen b)
  reads_one a b P honest run =
      represent_now (HaveStateInTwo P) (device.seen a) (device.seen b)
      (run.moments (device.clock a) (device.clock b) (device.seen a) (device.seen b) (omega arith) (omega arith)
      (omega arith) (omega arith) (stays a honest.honest_first) (stays b honest.honest_second))

  never_closed : (a b : D) (P : HostState → Type 0) → AreHonest device a b → SettleNow device a b P
      → AreClosed device a b
      → ⊥
  never_closed a b P honest run closed =
      let one = reads_one a b P honest run in
      represent_open one.0 (device.seen a) (device.seen b) one.2 (closed.closed_first, closed.closed_second)

  -- ---- what is moved to version 2

  -- files that settle on states in version 2 are not found in version 1
  never_in_one : (others : List Registration) (a b : D) (P : HostState → Type 0) (state : HostState) (old : Journal D)
      → AreHonest device a b → SettleNow device a b P → WasFound device others a b One state old → ⊥
  never_in_one others a b P state old honest settle found =
      let holds = found.holds honest in
      let one = reads_one a b P honest settle in
      two_one one.0 holds.contents
      (represent_once holds.contents one.0 (device.seen a) (device.seen b) holds.represented one.2) one.1.1
      holds.in_version

  -- and what is found in version 2 is kept as it was found
  kept_on : (others : List Registration) (a b : D) (P : HostState → Type 0) (state : HostState)
      (old new : Journal D) (version : Version) → AreHonest device a b → SettleNow device a b P
      → WasFound device others a b version state old → Keeps device version state old new
      → SettleSince device (device.clock (first_disk old)) (device.clock (second_disk old)) (first_disk new)
      (second_disk new) P
  kept_on others a b P state old new One honest settle found moved =
      absurd (never_in_one others a b P state old honest settle found)
  kept_on others a b P state old new Two honest settle found same =
      let x = first_disk old in
      let y = second_disk old in
      subst (λ (j : Journal D). SettleSince device (device.clock x) (device.clock y) (first_disk j) (second_disk j) P)
      (sym same)
      (settle_now device (device.clock a) (device.clock b) x y P
      (settle_still device (device.clock a) (device.clock b) a b x y P (found.moments honest) settle))

module _ {D B : Type 0} (device : Device D) (G : Ghosts B) (stays : (disk : D) → IsTrue (device.honest disk)
    → device.leaves disk (device.clock disk) (device.seen disk)) (start : Reached) where
  -- where a store is, a creation that is refused has only read
  only_read : (Lacks : ℕ → Type 0) (fault : StoreFault) (a b a' b' : D) → NotMadeFor device Lacks a b fault a' b'
      → AreHonest device a b → (AreClosed device a b → ⊥) → WereOnlyRead device a b a' b'
  only_read Lacks (faults.Create creating.DeviceFailed) a b a' b' cause honest not_closed = elim (cause honest) [
    | inl closed ↦ absurd (not_closed closed)
    | inr read ↦ read
  ]
  only_read Lacks (faults.Create creating.AlreadyThere) a b a' b' cause honest not_closed = (cause honest).0
  only_read Lacks (faults.Create creating.NoMemory) a b a' b' cause honest not_closed = (cause honest).0
  only_read Lacks (faults.PoolShort kind) a b a' b' cause honest not_closed = (cause.1 honest).0
  only_read Lacks _ a b a' b' cause honest not_closed = absurd cause

  not_created : (events : List StoreEvent) (others : List Registration) (pool services : List B) (a b : D)
      (r : OpenRefused D) → Rested device G start events a b → WasNotCreated device G others pool services a b r
      → Rested device G start events r.a r.b
  not_created events others pool services a b r before was =
      looked device G start events a b r.a r.b before
      (only_read (LacksService G others services) r.fault a b r.a r.b was.not_made.cause before.honest
      (never_closed device stays a b (IsEither before.whole.s.durable before.whole.t.durable) before.honest
      before.whole.settled))

  still_there : (others : List Registration) (pool services : List B) (a b : D) (P : HostState → Type 0)
      (result : Result (Hosted D B) (OpenRefused D))
      → AreHonest device a b → SettleNow device a b P → Creates device G others pool services a b result
      → SettleSince device (device.clock a) (device.clock b) (first_of result) (second_of result) P
  still_there others pool services a b P (Ok host) honest run was =
      absurd (never_closed device stays a b P honest run (was.made.closed honest))
  still_there others pool services a b P (Err r) honest run was =
      settle_read device a b r.a r.b P honest (only_read (LacksService G others services) r.fault a b r.a r.b
      was.not_made.cause honest (never_closed device stays a b P honest run)) run

  crashed_not_creating : (events : List StoreEvent) (others : List Registration) (pool services : List B) (a b : D)
      (result : Result (Hosted D B) (OpenRefused D)) (a' b' : D) → Rested device G start events a b
      → Creates device G others pool services a b result → Crashed device (device.clock a) (device.clock b)
      (first_of result) (second_of result) a' b' → Rested device G start events a' b'
  crashed_not_creating events others pool services a b result a' b' before creates crash =
      let P = IsEither before.whole.s.durable before.whole.t.durable in
      rests_on device G start events a' b' crash.honest (still_whole device G start events a b a' b' before.whole
      (settle_crashed device (device.clock a) (device.clock b) (first_of result) (second_of result) a' b' P
      (still_there others pool services a b P result before.honest before.whole.settled creates) crash))

  -- a crash while a store is made that leaves a file open leaves it in the state before any request
  crashed_creating : (registered : List Registration) (pool services : List B) (a b : D)
      (result : Result (Hosted D B) (OpenRefused D)) (a' b' : D) → start ≡ first_reached G registered pool services
      → AreFresh device a b → Creates device G registered pool services a b result
      → Crashed device (device.clock a) (device.clock b) (first_of result) (second_of result) a' b'
      → IsOneOpen device a' b' → Rested device G start [] a' b'
  crashed_creating registered pool services a b result a' b' begins fresh creates crash is_open =
      rests_on device G start [] a' b' crash.honest (record {
        s = start;
        t = start;
        s_led = refl;
        t_led = refl;
        s_saved = saved;
        t_saved = saved;
        settled = settle_on_more device (device.clock a') (device.clock b') a' b'
            (IsOne (first_state G registered services)) (IsEither start.durable start.durable) settled
            (λ s is. inl (is ∙ sym start_is));
        certain = λ yes. refl;
      })
    where
      start_is : start.durable ≡ first_state G registered services
      start_is = ap (λ (r : Reached). r.durable) begins

      images : (x y : List ℕ) → device.leaves a' (device.clock a') x → device.leaves b' (device.clock b') y
          → IsSound G (begin G registered pool services)
          × SettleOn (HaveStateInTwo (IsOne (first_state G registered services))) x y
      images x y left_x left_y =
          open_begun device G start registered pool services x y (is_open x y left_x left_y)
          (begun device G start registered pool services a b result a' b' x y fresh creates crash left_x left_y)

      saved : AreSaved G start.durable
      saved = subst (AreSaved G) (sym start_is) (live_saved G (begin G registered pool services)
          (images (device.seen a') (device.seen b') (stays a' crash.honest.honest_first)
          (stays b' crash.honest.honest_second)).0)

      settled : SettleNow device a' b' (IsOne (first_state G registered services))
      settled = record {
        first_began = omega arith;
        second_began = omega arith;
        moments = λ s t x y from_a s_end from_b t_end left_x left_y.
            let now_first : s ≡ device.clock a' = omega (arith, from_a, s_end) in
            let now_second : t ≡ device.clock b' = omega (arith, from_b, t_end) in
            (images x y (subst (λ (n : ℕ). device.leaves a' n x) now_first left_x)
            (subst (λ (n : ℕ). device.leaves b' n y) now_second left_y)).1;
      }

  -- what is read of files of which none is open, or that settle on the state before any request, is that state
  state_at_first : (registered : List Registration) (pool services : List B) (contents : Contents) (state : HostState)
      (x y : List ℕ) → state.registered ≡ registered
      → Represent contents x y → IsStateOf state contents → IsClosedOrBegun device G start registered pool services x y
      → state ≡ first_state G registered services
  state_at_first registered pool services contents state x y with_it is is_state (inl closed) =
      absurd (represent_open contents x y is closed)
  state_at_first registered pool services contents state x y with_it is is_state (inr settle) =
      let none = first_state G registered services in
      let one = represent_now (HaveStateInTwo (IsOne none)) x y settle.1 in
      let found = one.1.0 in
      let other : IsStateOf found.0 contents =
      subst (IsStateOf found.0) (represent_once one.0 contents x y one.2 is) found.2 in
      host_state_once state none contents with_it is_state
      (subst (λ (s : HostState). IsStateOf s contents) found.1 other)

  opened_creating : (registered : List Registration) (pool services : List B) (a b : D)
      (result : Result (Hosted D B) (OpenRefused D)) (a' b' : D) (pool' services' : List B) (host : Hosted D B)
      → start ≡ first_reached G registered pool services → AreFresh device a b
      → Creates device G registered pool services a b result
      → Crashed device (device.clock a) (device.clock b) (first_of result) (second_of result) a' b'
      → (was : WasOpened device G registered pool' services' a' b' host)
      → Outlives device G start (Found (reached_by was.live) ∷ []) (UnderHost host)
  opened_creating registered pool services a b result a' b' pool' services' host begins fresh creates crash was =
      let honest : AreHonest device a' b' = crash.honest in
      let holds = was.kept.found.holds honest in
      let back = kept_back device registered a' b' was.state host.journal was.kept.old was.kept.version was.kept.found
      was.kept.keeps in
      let is : was.state ≡ first_state G registered services =
      state_at_first registered pool services holds.contents was.state (device.seen a') (device.seen b')
      was.kept.found.registered_is holds.represented holds.is_state
      (begun device G start registered pool services a b result a' b' (device.seen a') (device.seen b') fresh creates
      crash (stays a' honest.honest_first) (stays b' honest.honest_second)) in
      let start_is : start.durable ≡ first_state G registered services = ap (λ (r : Reached). r.durable) begins in
      runs_in device G start (Found (reached_by was.live) ∷ []) host was.live
      (was.running.registered_is ∙ was.kept.found.registered_is
      ∙ sym (ap (λ (r : Reached). (r.durable).registered) begins))
      (same_honesty device a' b' (first host) (second host) honest back.honesty_first back.honesty_second)
      (was.saved honest) was.live_is
      (subst (λ (s : HostState). IsRunning s host) (sym was.restored.durable) was.running) was.sound
      (found_led device G start [] start was.state was.live refl (is ∙ sym start_is) was.restored.durable)

  -- so nothing is left in version 1
  never_left : (others : List Registration) (pool services : List B) (a b : D) (P : HostState → Type 0)
      (r : OpenRefused D) → AreHonest device a b → SettleNow device a b P
      → WasLeft device G others pool services a b r → ⊥
  never_left others pool services a b P r honest settle left =
      never_in_one device stays others a b P left.state left.old honest settle left.found

  refused : (events : List StoreEvent) (others : List Registration) (pool services : List B) (a b : D)
      (r : OpenRefused D) → Rested device G start events a b → WasRefused device G others pool services a b r
      → Rested device G start events r.a r.b
  refused events others pool services a b r before (NotFound none) =
      not_found device G start events others pool services a b r before none
  refused events others pool services a b r before (LeftThere left) =
      absurd (never_left others pool services a b (IsEither before.whole.s.durable before.whole.t.durable) r
      before.honest before.whole.settled left)

  moving_settles : (others : List Registration) (pool services : List B) (a b : D) (P : HostState → Type 0)
      (result : Result (Hosted D B) (OpenRefused D)) → AreHonest device a b → SettleNow device a b P
      → (opens : Opens device G others pool services a b result)
      → SettleSince device (device.clock (first_found device G others pool services a b result opens))
      (device.clock (second_found device G others pool services a b result opens)) (first_of result)
      (second_of result) P
  moving_settles others pool services a b P (Ok host) honest settle was =
      kept_on device stays others a b P was.state was.kept.old host.journal was.kept.version honest settle
      was.kept.found was.kept.keeps
  moving_settles others pool services a b P (Err r) honest settle (NotFound was) =
      settle_now device (device.clock a) (device.clock b) r.a r.b P
      (settle_still device (device.clock a) (device.clock b) a b r.a r.b P (was.moments honest) settle)
  moving_settles others pool services a b P (Err r) honest settle (LeftThere left) =
      absurd (never_left others pool services a b P r honest settle left)

  crashed_moving : (events : List StoreEvent) (others : List Registration) (pool services : List B) (a b : D)
      (result : Result (Hosted D B) (OpenRefused D)) (a' b' : D) → Rested device G start events a b
      → (opens : Opens device G others pool services a b result)
      → Crashed device (device.clock (first_found device G others pool services a b result opens))
      (device.clock (second_found device G others pool services a b result opens)) (first_of result)
      (second_of result) a' b' → Rested device G start events a' b'
  crashed_moving events others pool services a b result a' b' before opens crash =
      let P = IsEither before.whole.s.durable before.whole.t.durable in
      rests_on device G start events a' b' crash.honest (still_whole device G start events a b a' b' before.whole
      (settle_crashed device (device.clock (first_found device G others pool services a b result opens))
      (device.clock (second_found device G others pool services a b result opens)) (first_of result)
      (second_of result) a' b' P
      (moving_settles others pool services a b P result before.honest before.whole.settled opens) crash))

  -- ---- all of it

  pub outlives : (events : List StoreEvent) (place : StoreLocation D B) → Life device G start events place
      → Outlives device G start events place
  outlives _ _ (lives.Created registered pool services a b host begins honest was) =
      created device G start registered pool services a b host begins honest was
  outlives _ _ (lives.CrashedCreating registered pool services a b result a' b' begins fresh creates crash is_open) =
      crashed_creating registered pool services a b result a' b' begins fresh creates crash is_open
  outlives _ _ (lives.OpenedCreating registered pool services a b result a' b' pool' services' host begins fresh creates
      crash was) =
      opened_creating registered pool services a b result a' b' pool' services' host begins fresh creates crash was
  outlives _ _ (lives.OpenedFirst registered pool services a b host honest was begins) =
      opened_first device G start registered pool services a b host honest was begins
  outlives _ _ (lives.Replied events budget request old live end seq happened new life is handled took) =
      replied device G start events budget request old live end seq happened new (outlives events (UnderHost old) life)
      is handled took
  outlives _ _ (lives.Unanswered events budget request old reply new life handled not only) =
      stored device G start events budget request old reply new (outlives events (UnderHost old) life)
      handled not only
  outlives _ _ (lives.Failed events budget request old reply new life handled not ran none) =
      failed device G start events budget request old reply new (outlives events (UnderHost old) life)
      handled ran none
  outlives _ _ (lives.CrashedHandling events budget request old reply new a b life handled ran crash) =
      crashed_handling device G start events budget request old reply new a b (outlives events (UnderHost old) life)
      handled crash
  outlives _ _ (lives.RepliedBatch events budget requests old live replies new life is handled took) =
      replied_batch device G start events budget requests old live replies new (outlives events (UnderHost old) life)
      is handled took
  outlives _ _ (lives.UnansweredBatch events budget requests old refusal new life handled only) =
      refused_batch device G start events budget requests old refusal new (outlives events (UnderHost old) life)
      handled only
  outlives _ _ (lives.FailedBatch events budget requests old refusal new life handled ran none) =
      failed_batch device G start events budget requests old refusal new (outlives events (UnderHost old) life)
      handled ran none
  outlives _ _ (lives.CrashedBatching events budget requests old result new a b life handled ran crash) =
      crashed_batching device G start events budget requests old result new a b
      (outlives events (UnderHost old) life) handled crash
  outlives _ _ (lives.Closed events host life) =
      let before = outlives events (UnderHost host) life in
      rests_on device G start events (first host) (second host) before.honest before.whole
  outlives _ _ (lives.CrashedBetween events place a b life crash) =
      crashed_between device G start events place a b (outlives events place life) crash
  outlives _ _ (lives.Opened events pool services a b host life was) =
      opened device G start events pool services a b host (outlives events (OnDisks a b) life) was
  outlives _ _ (lives.RefusedOpening events others pool services a b r life was) =
      refused events others pool services a b r (outlives events (OnDisks a b) life) was
  outlives _ _ (lives.CrashedOpening events others pool services a b result a' b' life opens crash) =
      crashed_opening device G start events others pool services a b result a' b'
      (outlives events (OnDisks a b) life) opens crash
  outlives _ _ (lives.CrashedMoving events others pool services a b result a' b' life opens crash) =
      crashed_moving events others pool services a b result a' b' (outlives events (OnDisks a b) life) opens crash
  outlives _ _ (lives.NotCreated events others pool services a b r life was) =
      not_created events others pool services a b r (outlives events (OnDisks a b) life) was
  outlives _ _ (lives.CrashedNotCreating events others pool services a b result a' b' life creates crash) =
      crashed_not_creating events others pool services a b result a' b' (outlives events (OnDisks a b) life) creates
      crash
  outlives _ _ (lives.WasRead events a b a' b' life read) =
      looked device G start events a b a' b' (outlives events (OnDisks a b) life) read
  outlives _ _ (lives.Swapped events a b life) =
      turned device G start events a b (outlives events (OnDisks a b) life)

  -- the files settle on states to which the events lead by way of each of them
  pub settles_by : (later : List StoreEvent) (event : StoreEvent) (earlier : List StoreEvent)
      (place : StoreLocation D B) → Life device G start (later ++ event ∷ earlier) place
      → SettleNow device (first_at place) (second_at place) (LeadBy G later event earlier start)
  settles_by later event earlier place life =
      let whole = (outlives (later ++ event ∷ earlier) place life).whole in
      settle_on_more device (device.clock (first_at place)) (device.clock (second_at place)) (first_at place)
      (second_at place) (IsEither whole.s.durable whole.t.durable) (LeadBy G later event earlier start) whole.settled
      (λ state either. elim either [
        | inl s_is ↦ subst (LeadBy G later event earlier start) (sym s_is)
            (lead_by G later event earlier start whole.s whole.s_led)
        | inr t_is ↦ subst (LeadBy G later event earlier start) (sym t_is)
            (lead_by G later event earlier start whole.t whole.t_led)
      ])

  -- No opening of a store is refused but because memory ran out or a disk failed, where the boxes are such as it can be
  -- opened with.
  pub opens : (events : List StoreEvent) (pool services : List B) (a b : D) (r : OpenRefused D)
      → Life device G start events (OnDisks a b) → CanOpenAfter device G pool services events start a b
      → WasRefused device G (start.durable).registered pool services a b r → IsMishap r.fault
  opens events pool services a b r life can (NotFound was) =
      let before = outlives events (OnDisks a b) life in
      let whole = before.whole in
      let one = reads_one device stays a b (IsEither whole.s.durable whole.t.durable) before.honest whole.settled in
      let found = one.1.0 in
      let state = found.0 in
      let registered = (start.durable).registered in
      let known : (state.registered ≡ registered) × CanOpen G pool services state =
      elim found.1 [
        | inl s_is ↦
            let with_it = ap (λ (s : HostState). s.registered) s_is ∙ s_registered device G start events a b whole in (
              with_it,
              subst (CanOpen G pool services) (sym s_is)
                  (can whole.s whole.s_led whole.s_saved (one.0, one.2, state, with_it, found.2, s_is)),
            )
        | inr t_is ↦
            let with_it = ap (λ (s : HostState). s.registered) t_is ∙ t_registered device G start events a b whole in (
              with_it,
              subst (CanOpen G pool services) (sym t_is)
                  (can whole.t whole.t_led whole.t_saved (one.0, one.2, state, with_it, found.2, t_is)),
            )
      ] in
      only_mishaps G registered pool services state one.0 r.fault (device.seen a) (device.seen b) known.0
      one.2 found.2 one.1.1 known.1 (was.cause before.honest)
  opens events pool services a b r life can (LeftThere left) = subst IsMishap (sym left.left.fault_is) tt
