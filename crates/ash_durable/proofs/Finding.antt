-- What finding a state on two disks comes to.
use Rattle.std.proofs.Common.{◌≡◌, ◌⊎◌, inl, inr, ℕ, Bool, true, false, List, ◌∷◌, Result, Ok, Err, refl, sym, subst}
use Rattle.ash_disk.specs.Device.{Device, IsOnlyRead}
use Rattle.ash_journal.specs.declared.error.OpenFault.{OpenFault}
use Rattle.ash_journal.specs.declared.error.OpenFault.TheVariants as opening
use Rattle.ash_journal.specs.declared.journal.Journal.{Journal}
use Rattle.ash_journal.specs.declared.journal.OpenedJournal.{OpenedJournal}
use Rattle.ash_journal.specs.Current.{Represent}
use Rattle.ash_journal.specs.JournalFailures.{CountsFailures}
use Rattle.ash_journal.specs.Journal.{first_disk, second_disk, generation, HasFailed}
use Rattle.ash_journal.specs.Layout.{HasMark}
use Rattle.ash_journal.specs.OtherState.{first_of, second_of}
use Rattle.ash_journal.specs.Opening.{FaultIs}
use Rattle.ash_journal.specs.Reading.{bodies_of}
use Rattle.ash_journal.specs.SettledSince.{Extends, NoContents}
use Rattle.ash_journal.proofs.LayoutLaws.{solid_mark}
use Rattle.ash_image.specs.declared.version.Version.{Version}
use Rattle.ash_image.specs.declared.version.Version.TheVariants.{One}
use Rattle.ash_states.specs.HostStates.{HostState}
use Rattle.ash_host.specs.declared.host_object.HostObject.{Ghosts}
use Rattle.ash_registry.specs.AcceptedRegistrations.{Registration}
use Rattle.ash_durable.specs.StoreFaults.{IsFailed}
use Rattle.ash_durable.specs.OpenedStore.{StoreFaultIs, WasFound, WasNotFound, OpensState, contents_of, AreInPlace}
use Rattle.ash_durable.specs.OpenedStore.{HoldsRead, WasSettled, WasNotSettled, Settled, NotFound, LeftThere}
use Rattle.ash_durable.specs.OpenedStore.{UnsettledFor}
use Rattle.ash_durable.specs.Saving.{last_generation}
use Rattle.ash_durable.specs.StoredStates.{AreHonest}
use Rattle.ash_durable.specs.Store.{HandsBack, WereOnlyRead}
use Rattle.ash_durable.specs.declared.fault.OpenRefused.{OpenRefused}
use Rattle.ash_durable.specs.declared.fault.StoreFault.{StoreFault}
use Rattle.ash_durable.specs.declared.fault.StoreFault.TheVariants as faults
use Rattle.ash_durable.specs.declared.store.Found.{Found}
use Rattle.ash_durable.proofs.Faultless.{represent_current}
use Rattle.ash_durable.proofs.Settling.{extends_on}
use Rattle.ash_durable.proofs.OpenedJournals.{handed_on}

-- what is counted for a fault of a journal, for the fault of the store
opening_counts : (fault : OpenFault) (f s f' s' : ℕ) → CountsFailures (fault ≡ opening.DeviceFailed) f s f' s'
    → CountsFailures (IsFailed (faults.Open fault)) f s f' s'
opening_counts opening.DeviceFailed f s f' s' counts = record {
  first_never_falls = counts.first_never_falls;
  second_never_falls = counts.second_never_falls;
  counted = λ is. counts.counted refl;
  none = λ not. absurd (not tt);
}
opening_counts opening.NoGeneration f s f' s' counts = record {
  first_never_falls = counts.first_never_falls;
  second_never_falls = counts.second_never_falls;
  counted = λ is. absurd is;
  none = λ not. counts.none (λ e. cc);
}
opening_counts (opening.Damaged at) f s f' s' counts = record {
  first_never_falls = counts.first_never_falls;
  second_never_falls = counts.second_never_falls;
  counted = λ is. absurd is;
  none = λ not. counts.none (λ e. cc);
}
opening_counts opening.NoMemory f s f' s' counts = record {
  first_never_falls = counts.first_never_falls;
  second_never_falls = counts.second_never_falls;
  counted = λ is. absurd is;
  none = λ not. counts.none (λ e. cc);
}

-- a fault of a journal is one of the store
opening_cause : {B : Type 0} (G : Ghosts B) (registered : List Registration) (pool services : List B)
    (fault : OpenFault) (x y : List ℕ) → FaultIs fault x y
    → StoreFaultIs G registered pool services (faults.Open fault) x y
opening_cause G registered pool services opening.DeviceFailed x y cause = cause
opening_cause G registered pool services opening.NoGeneration x y cause = cause
opening_cause G registered pool services opening.NoMemory x y cause = cause
opening_cause G registered pool services (opening.Damaged at) x y cause = inl cause

-- why a journal's state is of no use, as a fault of its files
settled_cause : {D B : Type 0} (G : Ghosts B) (registered : List Registration) (pool services : List B)
    (opened : OpenedJournal D) (fault : StoreFault) (x y : List ℕ) → Represent (contents_of opened) x y
    → (generation opened.journal ≡ last_generation → HasMark last_generation x ⊎ HasMark last_generation y)
    → UnsettledFor G registered pool services opened fault → StoreFaultIs G registered pool services fault x y
settled_cause G registered pool services opened (faults.Open opening.DeviceFailed) x y is marked cause = tt
settled_cause G registered pool services opened (faults.Open opening.NoMemory) x y is marked cause =
    represent_current (contents_of opened) x y is
settled_cause G registered pool services opened (faults.Open (opening.Damaged at)) x y is marked wrong =
    inr (contents_of opened, is, wrong)
settled_cause G registered pool services opened faults.OtherInterface x y is marked others =
    (contents_of opened, is, others)
settled_cause G registered pool services opened (faults.PoolShort kind) x y is marked short =
    (contents_of opened, is, short.0, short.1, short.2, short.3)
settled_cause G registered pool services opened (faults.RestoreRefused number) x y is marked refused =
    (contents_of opened, is, refused.0, refused.1, refused.2, refused.3)
settled_cause G registered pool services opened faults.GenerationSpent x y is marked spent = record {
  contents = contents_of opened;
  represented = is;
  state = spent.state;
  registered_is = spent.registered_is;
  is_state = spent.is_state;
  in_one = spent.in_one;
  live = spent.live;
  restored = spent.restored;
  last = marked spent.last;
}
settled_cause G registered pool services opened (faults.Open opening.NoGeneration) x y is marked none = absurd none
settled_cause G registered pool services opened (faults.Create fault) x y is marked none = absurd none

module _ {D : Type 0} (device : Device D) where
  -- ---- two disks whose journal was opened

  -- what a journal's opening says of two disks
  pub record IsOpened (a b : D) (opened : OpenedJournal D) : Type 0 where
    pub holds : AreHonest device a b → HoldsRead device opened
    pub placed : AreHonest device a b → AreInPlace opened
    pub represents : AreHonest device a b → Represent (contents_of opened) (device.seen a) (device.seen b)
    pub extends : AreHonest device a b → Extends device a b (first_disk opened.journal) (second_disk opened.journal)
        NoContents
    pub sound : HasFailed opened.journal → ⊥
    pub read : WereOnlyRead device a b (first_disk opened.journal) (second_disk opened.journal)
    pub counts : CountsFailures ⊥ (device.failures a) (device.failures b) (device.failures (first_disk opened.journal))
        (device.failures (second_disk opened.journal))

  -- it hands them on as they are
  opened_back : (a b : D) (opened : OpenedJournal D) → IsOpened a b opened
      → HandsBack device ⊥ a b (first_disk opened.journal) (second_disk opened.journal)
  opened_back a b opened is = record {
    failures = is.counts;
    honesty_first = is.read.read_first.honesty;
    honesty_second = is.read.read_second.honesty;
  }

  -- the file with the last number of a generation
  mark_of : (swapped : Bool) (current other : D) (number : ℕ) → HasMark number (device.seen current)
      → HasMark number (device.seen (first_of swapped current other))
      ⊎ HasMark number (device.seen (second_of swapped current other))
  mark_of false current other number marked = inl marked
  mark_of true current other number marked = inr marked

  marked : (a b : D) (opened : OpenedJournal D) → IsOpened a b opened → AreHonest device a b
      → generation opened.journal ≡ last_generation
      → HasMark last_generation (device.seen a) ⊎ HasMark last_generation (device.seen b)
  marked a b opened is honest last =
      let j = opened.journal in
      let files = is.holds honest in
      let mark = solid_mark (generation j) opened.image.items (bodies_of opened.records.items)
      (files.gate ∷ files.after) (device.seen j.current) files.fits.numbered files.bytes in
      elim (mark_of j.swapped j.current j.other last_generation
      (subst (λ (n : ℕ). HasMark n (device.seen j.current)) last mark)) [
        | inl one ↦ inl (subst (HasMark last_generation) (is.read.read_first.seen honest.honest_first) one)
        | inr two ↦ inr (subst (HasMark last_generation) (is.read.read_second.seen honest.honest_second) two)
      ]

  found : (registered : List Registration) (a b : D) (opened : OpenedJournal D) (version : Version)
      (state : HostState) (journal : Journal D)
      → IsOpened a b opened → WasSettled device registered opened version state journal
      → WasFound device registered a b version state journal
  found registered a b opened version state journal is settled = record {
    registered_is = settled.registered_is;
    ready = settled.settled.ready is.sound;
    holds = λ honest.
        let reads = settled.reads (is.placed honest) in
        record {
          contents = contents_of opened;
          in_version = reads.1;
          represented = is.represents honest;
          holds = settled.settled.holds (contents_of opened) (is.holds honest);
          is_state = reads.0;
        };
    moments = λ honest. extends_on device a b (first_disk opened.journal) (second_disk opened.journal)
        (first_disk journal) (second_disk journal) (is.extends honest)
        (settled.settled.extends (contents_of opened) (is.holds honest));
    repaired = record {
      was = opened.journal;
      read = is.read;
      finds = λ honest. (contents_of opened, is.holds honest);
      only = settled.settled.only;
    };
    disks = handed_on device ⊥ a b (first_disk opened.journal) (second_disk opened.journal) (first_disk journal)
        (second_disk journal) (opened_back a b opened is) settled.settled.disks;
  }

module _ {D B : Type 0} (device : Device D) (G : Ghosts B) (registered : List Registration) (pool services : List B)
    (a b : D) where
  not_found : (opened : OpenedJournal D) (refused : OpenRefused D) → IsOpened device a b opened
      → WasNotSettled device G registered pool services opened refused
      → WasNotFound device G registered pool services a b refused
  not_found opened refused is settled = record {
    cause = λ honest. settled_cause G registered pool services opened refused.fault (device.seen a) (device.seen b)
        (is.represents honest) (marked device a b opened is honest) (settled.cause (is.placed honest));
    read = λ not.
        let same = settled.read not in
        record {
          read_first = subst (λ (d : D). IsOnlyRead device a d) (sym same.0) is.read.read_first;
          read_second = subst (λ (d : D). IsOnlyRead device b d) (sym same.1) is.read.read_second;
        };
    moments = λ honest. extends_on device a b (first_disk opened.journal) (second_disk opened.journal)
        refused.a refused.b (is.extends honest) (settled.extends (is.holds honest));
    repaired = λ failed.
        let on = settled.only failed in
        inr (
          on.0,
          record {
            was = opened.journal;
            read = is.read;
            finds = λ honest. (contents_of opened, is.holds honest);
            only = on.1;
          },
          on.2,
          on.3,
        );
    disks = handed_on device (IsFailed refused.fault) a b (first_disk opened.journal) (second_disk opened.journal)
        refused.a refused.b (opened_back device a b opened is) settled.disks;
  }

  pub finds : (opened : OpenedJournal D) (result : Result (Found D B) (OpenRefused D)) → IsOpened device a b opened
      → Settled device G registered pool services opened result
      → OpensState device G registered pool services a b result
  finds opened (Ok one) is settled = record {
    state = settled.state;
    lives = settled.lives;
    kept = record {
      version = settled.version;
      old = settled.old;
      found = found device registered a b opened settled.version settled.state settled.old is settled.settled;
      keeps = settled.keeps;
    };
  }
  finds opened (Err refused) is (inl none) = NotFound (not_found opened refused is none)
  finds opened (Err refused) is (inr settled) = LeftThere (record {
    state = settled.state;
    live = settled.live;
    restored = settled.restored;
    old = settled.old;
    found = found device registered a b opened One settled.state settled.old is settled.settled;
    left = settled.left;
  })

  -- ---- two disks whose journal was not

  pub not_opened : (a' b' : D) (fault : OpenFault) (reported : StoreFault)
      → reported ≡ faults.Open fault → (AreHonest device a b → FaultIs fault (device.seen a) (device.seen b))
      → (AreHonest device a b → Extends device a b a' b' NoContents) → IsOnlyRead device a a' → IsOnlyRead device b b'
      → CountsFailures (fault ≡ opening.DeviceFailed) (device.failures a) (device.failures b) (device.failures a')
      (device.failures b') → WasNotFound device G registered pool services a b
      (record { fault = reported; a = a'; b = b' })
  not_opened a' b' fault reported is cause extends read_first read_second counts =
      subst (λ (f : StoreFault). WasNotFound device G registered pool services a b
      (record { fault = f; a = a'; b = b' })) (sym is)
      (record {
        cause = λ honest. opening_cause G registered pool services fault (device.seen a) (device.seen b) (cause honest);
        read = λ not. record { read_first = read_first; read_second = read_second };
        moments = extends;
        repaired = λ failed. inl (record { read_first = read_first; read_second = read_second });
        disks = record {
          failures = opening_counts fault (device.failures a) (device.failures b) (device.failures a')
              (device.failures b') counts;
          honesty_first = read_first.honesty;
          honesty_second = read_second.honesty;
        };
      })
