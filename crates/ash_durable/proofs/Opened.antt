-- What a host has that was made or opened.
use Rattle.std.proofs.Common.{◌≡◌, inl, inr, zero, List, [], None, Some, Result, Ok, Err, refl, sym, ◌∙◌, ap, subst}
use Rattle.std.proofs.Common.{arith}
use Rattle.std.specs.Bool.{IsTrue}
use Rattle.ash_disk.specs.Device.{Device}
use Rattle.ash_journal.specs.declared.journal.Journal.{Journal}
use Rattle.ash_journal.specs.Current.{Contents, Represent}
use Rattle.ash_journal.specs.Journal.{first_disk, second_disk, IsReady}
use Rattle.ash_image.specs.declared.version.Version.{Version}
use Rattle.ash_image.specs.declared.version.Version.TheVariants.{One, Two}
use Rattle.ash_states.specs.HostStates.{HostState}
use Rattle.ash_host.specs.declared.host_object.HostObject.{Ghosts}
use Rattle.ash_registry.specs.AcceptedRegistrations.{Registration}
use Rattle.ash_engine.specs.LiveStates.{LiveState, EngineState, begin}
use Rattle.ash_engine.specs.RestoredBoxes.{HasServices, Restores}
use Rattle.ash_durable.specs.HandedBoxes.{first_state, AreSaved}
use Rattle.ash_durable.specs.StoreFaults.{IsMishap}
use Rattle.ash_durable.specs.Hosting.{Hosted, first, second, IsRunning, IsSound, RunsSound}
use Rattle.ash_durable.specs.OpenedStore.{HasFound, WasFound, Keeps, WasKept, WasOpened, Opens, OpensAgain, NotFound}
use Rattle.ash_durable.specs.OpenedStore.{LeftThere}
use Rattle.ash_durable.specs.StoredStates.{AreHonest, HoldsState, SettleInAnyVersion, IsOne, IsEither}
use Rattle.ash_durable.specs.Store.{HandsBack, HasMade, WasMade, WasCreated}
use Rattle.ash_durable.specs.declared.fault.OpenRefused.{OpenRefused}
use Rattle.ash_durable.specs.declared.store.Found.{Found}
use Rattle.ash_durable.proofs.HandledRequests.{seen_host, host_in, running_seen}
use Rattle.ash_replay.proofs.Adding.{alone_in, state_of_alone}
use Rattle.ash_durable.proofs.OpenedJournals.{handed_on}
use Rattle.ash_durable.proofs.Composing.{live_there}
use Rattle.ash_durable.proofs.HandedOver.{live_saved}
use Rattle.ash_durable.proofs.Mishaps.{only_mishaps}
use Rattle.ash_durable.proofs.Settling.{settle_on_more, in_any_version, settled_state, holds_now}

-- a host runs in one state
pub runs_once : {D B : Type 0} (host : Hosted D B) (s t : HostState) → IsRunning s host → IsRunning t host → s ≡ t
runs_once host s t one other = let same : Some s ≡ Some t = sym one.state_is ∙ other.state_is in cc

-- disks are as honest as those that were handed over
pub honest_before : {D : Type 0} (device : Device D) (failed : Type 0) (a b a' b' : D)
    → HandsBack device failed a b a' b' → AreHonest device a' b' → AreHonest device a b
honest_before device failed a b a' b' back honest = record {
  honest_first = subst IsTrue back.honesty_first honest.honest_first;
  honest_second = subst IsTrue back.honesty_second honest.honest_second;
}

pub created : {D B : Type 0} (device : Device D) (G : Ghosts B) (registered : List Registration)
    (pool services : List B) (a b : D) (host : Hosted D B) → HasServices G registered services
    → host.live ≡ Some (begin G registered pool services) → RunsSound G host
    → IsRunning (first_state G registered services) host
    → WasMade device (first_state G registered services) a b host.journal
    → WasCreated device G registered pool services a b host
created device G registered pool services a b host has live_is sound running made = record {
  has = has;
  live_is = live_is;
  running = running;
  sound = sound;
  made = made;
  saved = λ honest state runs.
      subst (λ (s : HostState). HoldsState device s host.journal)
      (runs_once host (first_state G registered services) state running runs)
      (made.holds (honest_before device ⊥ a b (first host) (second host) made.disks honest));
}

-- the disks of a state that was found and is kept
pub kept_back : {D : Type 0} (device : Device D) (registered : List Registration) (a b : D) (state : HostState)
    (journal old : Journal D) (version : Version) → WasFound device registered a b version state old
    → Keeps device version state old journal
    → HandsBack device ⊥ a b (first_disk journal) (second_disk journal)
kept_back device registered a b state journal old One found moved =
    handed_on device ⊥ a b (first_disk old) (second_disk old) (first_disk journal) (second_disk journal) found.disks
    moved.disks
kept_back {D} device registered a b state journal old Two found same =
    subst (λ (j : Journal D). HandsBack device ⊥ a b (first_disk j) (second_disk j)) (sym same) found.disks

-- it is ready
pub kept_ready : {D : Type 0} (device : Device D) (registered : List Registration) (a b : D) (state : HostState)
    (journal old : Journal D) (version : Version) → WasFound device registered a b version state old
    → Keeps device version state old journal → IsReady journal
kept_ready device registered a b state journal old One found moved = moved.ready
kept_ready device registered a b state journal old Two found same = subst IsReady (sym same) found.ready

-- its files hold it in version 2
kept_holds : {D : Type 0} (device : Device D) (registered : List Registration) (a b : D) (state : HostState)
    (journal old : Journal D) (version : Version) → WasFound device registered a b version state old
    → Keeps device version state old journal → AreHonest device a b → HoldsState device state journal
kept_holds device registered a b state journal old One found moved honest =
    let holds = found.holds honest in
    record {
      contents = (moved.image, []);
      holds = moved.holds holds.contents holds.holds;
      is_state = state_of_alone Two state moved.image moved.is_image;
      in_two = alone_in Two state moved.image moved.is_image;
    }
kept_holds {D} device registered a b state journal old Two found same honest =
    let holds = found.holds honest in
    subst (λ (j : Journal D). HoldsState device state j) (sym same)
    (record {
      contents = holds.contents;
      holds = holds.holds;
      is_state = holds.is_state;
      in_two = holds.in_version;
    })

module _ {D : Type 0} (device : Device D) (stays : (disk : D) → IsTrue (device.honest disk)
    → device.leaves disk (device.clock disk) (device.seen disk)) where
  -- what is found is one of two states that the files settled on
  found_either : (registered : List Registration) (a b : D) (version : Version) (state : HostState)
      (journal : Journal D)
      → WasFound device registered a b version state journal → (s t : HostState) → AreHonest device a b
      → s.registered ≡ registered → t.registered ≡ registered → SettleInAnyVersion device a b (IsEither s t)
      → IsEither s t state
  found_either registered a b version state journal found s t honest s_with t_with settle =
      let holds = found.holds honest in
      settled_state device (device.clock a) (device.clock b) a b (IsEither s t) holds.contents state (device.seen a)
      (device.seen b) (stays a honest.honest_first) (stays b honest.honest_second)
      settle holds.represented holds.is_state
      (λ u either. elim either [
        | inl is ↦ ap (λ (q : HostState). q.registered) is ∙ s_with ∙ sym found.registered_is
        | inr is ↦ ap (λ (q : HostState). q.registered) is ∙ t_with ∙ sym found.registered_is
      ])

  -- the files of a journal that holds contents represent them as they read
  held : (state : HostState) (journal : Journal D)
      (honest : AreHonest device (first_disk journal) (second_disk journal))
      (holds : HoldsState device state journal)
      → Represent holds.contents (device.seen (first_disk journal)) (device.seen (second_disk journal))
  held state journal honest holds =
      let one = first_disk journal in
      let other = second_disk journal in
      let run = holds.holds.run in
      let now = run.moments (device.clock one) (device.clock other) (device.seen one) (device.seen other)
      run.first_began (omega arith) run.second_began (omega arith) (stays one honest.honest_first)
      (stays other honest.honest_second) zero (device.seen one) (device.seen other) (refl, refl) in
      subst (λ (c : Contents). Represent c (device.seen one) (device.seen other)) now.1 now.2

module _ {D B : Type 0} (device : Device D) (G : Ghosts B) (stays : (disk : D) → IsTrue (device.honest disk)
    → device.leaves disk (device.clock disk) (device.seen disk)) (pool services : List B) where
  pub opened : (registered : List Registration) (a b : D) (state : HostState) (live : LiveState B) (host : Hosted D B)
      → IsRunning state host → host.live ≡ Some live → Restores G state pool services live → IsSound G live
      → WasKept device registered a b state host.journal → WasOpened device G registered pool services a b host
  opened registered a b state live host running live_is restored sound kept = record {
    state = state;
    running = running;
    live = live;
    live_is = live_is;
    restored = restored;
    sound = sound;
    kept = kept;
    same = found_either device stays registered a b kept.version state kept.old kept.found;
    saved = λ honest still other runs.
        subst (λ (s : HostState). HoldsState device s host.journal) (runs_once host state other running runs)
        (kept_holds device registered a b state host.journal kept.old kept.version kept.found kept.keeps honest);
  }

  pub opens_again : (host : Hosted D B) (result : Result (Hosted D B) (OpenRefused D)) → RunsSound G host
      → Opens device G host.registered pool services (first host) (second host) result
      → OpensAgain device G pool services host result
  opens_again host (Ok new) sound opens = (
    opens.running.registered_is ∙ opens.kept.found.registered_is,
    λ state honest runs saved.
        let with_it = sym runs.registered_is in
        let now = settle_on_more device (device.clock (first host)) (device.clock (second host)) (first host)
        (second host) (IsOne state) (IsEither state state)
        (holds_now device state host.journal (saved honest state runs)) (λ s is. inl is) in
        let same : opens.state ≡ state = elim (opens.same state state honest with_it with_it
        (in_any_version device (first host) (second host) (IsEither state state) now))
        [ inl is ↦ is | inr is ↦ is ] in
        (subst (λ (s : HostState). IsRunning s new) same opens.running, opens.saved honest),
  )
  opens_again host (Err refused) sound (NotFound none) = λ state honest runs saved can.
      let holds = saved honest state runs in
      let read = held device stays state host.journal honest holds in
      let x = device.seen (first host) in
      let y = device.seen (second host) in
      let known = live_there host.live state runs.state_is in
      let has : AreSaved G state = subst (AreSaved G) known.2 (live_saved G known.0 (sound known.0 known.1)) in
      only_mishaps G host.registered pool services state holds.contents refused.fault x y (sym runs.registered_is) read
      holds.is_state holds.in_two (can has) (none.cause honest)
  opens_again host (Err refused) sound (LeftThere left) = λ state honest runs saved can.
      subst IsMishap (sym left.left.fault_is) tt

  -- the host of a store that was found
  pub opened_found : (registered : List Registration) (a b : D) (found : Found D B)
      → HasFound device G registered pool services a b found
      → WasOpened device G registered pool services a b (seen_host None found.engine found.journal)
  opened_found registered a b found has =
      let live = has.lives.live in
      let is : host_in live found.journal ≡ seen_host None found.engine found.journal =
      ap (λ (r : List Registration). seen_with r live found.journal)
      (ap (λ (s : HostState). s.registered) has.lives.restored.durable)
      ∙ ap (λ (e : EngineState B). seen_host None e found.journal) (sym has.lives.engine_is) in
      subst (λ (host : Hosted D B). WasOpened device G registered pool services a b host) is
      (opened registered a b has.state live (host_in live found.journal)
      (subst (λ (s : HostState). IsRunning s (host_in live found.journal)) has.lives.restored.durable
      (running_seen live found.journal)) refl has.lives.restored has.lives.sound has.kept)
    where
      seen_with : List Registration → LiveState B → Journal D → Hosted D B
      seen_with r live journal =
          record { registered = r; live = Some live; seq = live.durable.state.seq; journal = journal }

-- the host of a store that was made
pub created_made : {D B : Type 0} (device : Device D) (G : Ghosts B) (registered : List Registration)
    (pool services : List B) (a b : D) (store : Found D B) → HasMade device G registered pool services a b store
    → WasCreated device G registered pool services a b (seen_host None store.engine store.journal)
created_made {D} {B} device G registered pool services a b store has =
    subst (λ (e : EngineState B). WasCreated device G registered pool services a b (seen_host None e store.journal))
    (sym has.engine_is)
    (created device G registered pool services a b (host_in (begin G registered pool services) store.journal) has.has
    refl (λ live is. let h : Some (begin G registered pool services) ≡ Some live = is in
    let same : begin G registered pool services ≡ live = cc in subst (IsSound G) same has.sound)
    (running_seen (begin G registered pool services) store.journal) has.made)
