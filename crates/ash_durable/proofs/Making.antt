-- What making a store on two disks comes to.
use Rattle.std.proofs.Common.{◌≡◌, ◌⊎◌, inl, inr, ℕ, ◌≤◌, ◌↔◌, true, false, List, [], ◌∷◌, length, refl, sym, subst}
use Rattle.std.proofs.Common.{arith}
use Rattle.std.specs.Bool.{IsTrue}
use Rattle.std.proofs.lemmas.Bool.{cases_eq}
use Rattle.ash_disk.specs.Device.{Device, EveryMomentSince, IsOnlyRead}
use Rattle.ash_disk.proofs.DeviceLaws.{read_on}
use Rattle.ash_journal.specs.declared.error.CreateFault.{CreateFault}
use Rattle.ash_journal.specs.declared.error.CreateFault.TheVariants as creating
use Rattle.ash_journal.specs.declared.journal.Journal.{Journal}
use Rattle.ash_journal.specs.Current.{IsContents}
use Rattle.ash_journal.specs.JournalFailures.{CountsFailures}
use Rattle.ash_journal.specs.Journal.{current_disk, first_disk, second_disk, generation, record_bytes, IsReady, Holds}
use Rattle.ash_journal.specs.Layout.{IsClosed, IsShut}
use Rattle.ash_journal.specs.Opening.{CreateFaultIs, IsCreatedOrClosed}
use Rattle.ash_journal.specs.Writes.{AreUnused, WasUnused}
use Rattle.ash_journal.proofs.LayoutLaws.{open_closed}
use Rattle.ash_journal.proofs.ReadLaws.{rested_read}
use Rattle.ash_journal.proofs.SettleLaws.{settle_more}
use Rattle.ash_image.specs.declared.version.Version.TheVariants.{Two}
use Rattle.ash_states.specs.HostStates.{HostState}
use Rattle.ash_states.specs.Images.{IsImageIn}
use Rattle.ash_durable.specs.StoreFaults.{IsFailed}
use Rattle.ash_durable.specs.StoredStates.{AreHonest, IsOne, HaveStateInTwo}
use Rattle.ash_durable.specs.Store.{HandsBack, WereOnlyRead, AreClosed, MakesOrNot, WasMade, NotMadeFor, WasNotMade}
use Rattle.ash_durable.specs.declared.fault.StoreFault.{StoreFault}
use Rattle.ash_durable.specs.declared.fault.StoreFault.TheVariants as faults
use Rattle.ash_durable.proofs.OpenedJournals.{handed_on}
use Rattle.ash_replay.specs.ReplayedStates.{AreIn, IsStateOf}
use Rattle.ash_replay.proofs.Adding.{alone_in, state_of_alone}

-- ---- files that are closed

closed_or_not : (bytes : List ℕ) → IsClosed bytes ⊎ (IsClosed bytes → ⊥)
closed_or_not [] = inl tt
closed_or_not (gate ∷ []) = inl tt
closed_or_not (gate ∷ second ∷ rest) = elim (cases_eq gate 1)
    [ inl one ↦ inr (λ closed. closed one) | inr shut ↦ inl shut ]

-- a file that is not found open is closed
pub closed_when : (bytes : List ℕ) → IsTrue false ↔ (IsClosed bytes → ⊥) → IsClosed bytes
closed_when bytes found = elim (closed_or_not bytes) [
  | inl closed ↦ closed
  | inr is_open ↦ let h : false ≡ true = found.1 is_open in absurd (cc)
]

tiny_closed : (file : List ℕ) → length file ≤ 1 → IsClosed file
tiny_closed [] tiny = tt
tiny_closed (gate ∷ []) tiny = tt
tiny_closed (gate ∷ second ∷ rest) tiny = absurd (omega arith)

shut_closed : (file : List ℕ) → IsShut file → IsClosed file
shut_closed [] shut = tt
shut_closed (gate ∷ []) shut = tt
shut_closed (gate ∷ second ∷ rest) shut = λ is_open. omega (arith, is_open, shut)

idle_closed : (images : List ℕ → Type 0) → AreUnused images → (image : List ℕ) → images image → IsClosed image
idle_closed images (inl tiny) image left = tiny_closed image (tiny image left)
idle_closed images (inr shut) image left = shut_closed image (shut image left)

-- ---- what is counted and reported

creating_counts : (fault : CreateFault) (f s f' s' : ℕ) → CountsFailures (fault ≡ creating.DeviceFailed) f s f' s'
    → CountsFailures (IsFailed (faults.Create fault)) f s f' s'
creating_counts creating.DeviceFailed f s f' s' counts = record {
  first_never_falls = counts.first_never_falls;
  second_never_falls = counts.second_never_falls;
  counted = λ is. counts.counted refl;
  none = λ not. absurd (not tt);
}
creating_counts creating.AlreadyThere f s f' s' counts = record {
  first_never_falls = counts.first_never_falls;
  second_never_falls = counts.second_never_falls;
  counted = λ is. absurd is;
  none = λ not. counts.none (λ e. cc);
}
creating_counts creating.NoMemory f s f' s' counts = record {
  first_never_falls = counts.first_never_falls;
  second_never_falls = counts.second_never_falls;
  counted = λ is. absurd is;
  none = λ not. counts.none (λ e. cc);
}

module _ {D : Type 0} (device : Device D) where
  -- disks that were only read are as honest as they were
  pub honest_read : (a b a' b' : D) → WereOnlyRead device a b a' b' → AreHonest device a b → AreHonest device a' b'
  honest_read a b a' b' read honest = record {
    honest_first = subst IsTrue (sym read.read_first.honesty) honest.honest_first;
    honest_second = subst IsTrue (sym read.read_second.honesty) honest.honest_second;
  }

  -- disks that were only read have no file open where they have rested
  pub read_idle : (a b a' b' : D) → WereOnlyRead device a b a' b' → (p q : ℕ) → AreHonest device a b
      → WasUnused device p a → WasUnused device q b
      → EveryMomentSince device p q a' b' (λ x y. IsClosed x × IsClosed y)
  read_idle a b a' b' read p q honest rested_a rested_b s t x y from_p to_a from_q to_b left_x left_y =
      let one = rested_read device p a a' honest.honest_first read.read_first rested_a in
      let two = rested_read device q b b' honest.honest_second read.read_second rested_b in (
        idle_closed (device.leaves a' s) (one.idle s from_p to_a) x left_x,
        idle_closed (device.leaves b' t) (two.idle t from_q to_b) y left_y,
      )

  -- so no store is made there
  pub read_makes : (state : HostState) (a b a' b' : D) → WereOnlyRead device a b a' b'
      → MakesOrNot device state a b a' b'
  read_makes state a b a' b' read p q honest rested_a rested_b s t x y from_p to_a from_q to_b left_x left_y =
      inl (read_idle a b a' b' read p q honest rested_a rested_b s t x y from_p to_a from_q to_b left_x left_y)

  -- and then a journal was created, or it was not
  module _ (Lacks : ℕ → Type 0) (state : HostState) (image : List ℕ) (depicts : IsImageIn Two image state)
      (a b one two : D)
      (read : WereOnlyRead device a b one two) (back : HandsBack device ⊥ a b one two)
      (closed : AreHonest device a b → AreClosed device a b) where
    creates : (a' b' : D) → ((p q : ℕ) → IsTrue (device.honest one) → IsTrue (device.honest two)
        → WasUnused device p one → WasUnused device q two → EveryMomentSince device p q a' b' (IsCreatedOrClosed image))
        → MakesOrNot device state a b a' b'
    creates a' b' moments p q honest rested_a rested_b s t x y from_p to_a from_q to_b left_x left_y =
        let is = honest_read a b one two read honest in
        let made = moments p q is.honest_first is.honest_second
        (rested_read device p a one honest.honest_first read.read_first rested_a)
        (rested_read device q b two honest.honest_second read.read_second rested_b)
        s t x y from_p to_a from_q to_b left_x left_y in
        elim made [
          | inl none ↦ inl none
          | inr settle ↦ inr (settle_more (IsContents (image, [])) (HaveStateInTwo (IsOne state))
              (λ contents same. (
                (state, refl, subst (IsStateOf state) (sym same) (state_of_alone Two state image depicts)),
                subst (AreIn Two) (sym same) (alone_in Two state image depicts),
              ))
              x y settle)
        ]

    pub made : (journal : Journal D) → IsReady journal → current_disk journal ≡ first_disk journal
        → generation journal ≡ 1 → record_bytes journal ≡ 0
        → (IsTrue (device.honest one) → IsTrue (device.honest two) → Holds device journal image [])
        → ((p q : ℕ) → IsTrue (device.honest one) → IsTrue (device.honest two) → WasUnused device p one
        → WasUnused device q two → EveryMomentSince device p q (first_disk journal) (second_disk journal)
        (IsCreatedOrClosed image)) → HandsBack device ⊥ one two (first_disk journal) (second_disk journal)
        → WasMade device state a b journal
    made journal ready in_first number emptied holds moments disks = record {
      ready = ready;
      in_first = in_first;
      number = number;
      emptied = emptied;
      closed = closed;
      holds = λ honest.
          let is = honest_read a b one two read honest in
          record {
            contents = (image, []);
            holds = holds is.honest_first is.honest_second;
            is_state = state_of_alone Two state image depicts;
            in_two = alone_in Two state image depicts;
          };
      moments = creates (first_disk journal) (second_disk journal) moments;
      disks = handed_on device ⊥ a b one two (first_disk journal) (second_disk journal) back disks;
    }

    -- why it was not
    cause : (fault : CreateFault) (a' b' : D)
        → (IsTrue (device.honest one) → IsTrue (device.honest two)
        → CreateFaultIs fault (device.seen one) (device.seen two) (IsOnlyRead device one a' × IsOnlyRead device two b'))
        → NotMadeFor device Lacks a b (faults.Create fault) a' b'
    cause creating.DeviceFailed a' b' is = λ honest. inl (closed honest)
    cause creating.AlreadyThere a' b' is = λ honest.
        let still = honest_read a b one two read honest in
        let found = is still.honest_first still.honest_second in (
          record {
            read_first = read_on device a one a' read.read_first found.1.0;
            read_second = read_on device b two b' read.read_second found.1.1;
          },
          λ shut. elim found.0 [
            | inl is_open ↦ open_closed (device.seen one) is_open
                (subst IsClosed (sym (read.read_first.seen honest.honest_first)) shut.closed_first)
            | inr is_open ↦ open_closed (device.seen two) is_open
                (subst IsClosed (sym (read.read_second.seen honest.honest_second)) shut.closed_second)
          ],
        )
    cause creating.NoMemory a' b' is = λ honest.
        let still = honest_read a b one two read honest in
        let found = is still.honest_first still.honest_second in (
          record {
            read_first = read_on device a one a' read.read_first found.1.0;
            read_second = read_on device b two b' read.read_second found.1.1;
          },
          closed honest,
        )

    pub not_made : (fault : CreateFault) (reported : StoreFault) (a' b' : D) → reported ≡ faults.Create fault
        → (IsTrue (device.honest one) → IsTrue (device.honest two)
        → CreateFaultIs fault (device.seen one) (device.seen two) (IsOnlyRead device one a' × IsOnlyRead device two b'))
        → ((p q : ℕ) → IsTrue (device.honest one) → IsTrue (device.honest two) → WasUnused device p one
        → WasUnused device q two → EveryMomentSince device p q a' b' (IsCreatedOrClosed image))
        → device.honest a' ≡ device.honest one → device.honest b' ≡ device.honest two
        → CountsFailures (fault ≡ creating.DeviceFailed) (device.failures one) (device.failures two)
        (device.failures a') (device.failures b')
        → WasNotMade device Lacks state a b (record { fault = reported; a = a'; b = b' })
    not_made fault reported a' b' is why moments honesty_first honesty_second counts =
        subst (λ (f : StoreFault). WasNotMade device Lacks state a b (record { fault = f; a = a'; b = b' })) (sym is)
        (record {
          cause = cause fault a' b' why;
          moments = creates a' b' moments;
          disks = handed_on device (IsFailed (faults.Create fault)) a b one two a' b' back (record {
            failures = creating_counts fault (device.failures one) (device.failures two) (device.failures a')
                (device.failures b') counts;
            honesty_first = honesty_first;
            honesty_second = honesty_second;
          });
        })
