-- What becomes of a journal that was opened: its state is read, or not, and its gates are written over.
use Rattle.std.proofs.Common.{◌≡◌, inl, inr, ℕ, List, Some, Result, Ok, Err, refl, sym, ◌∙◌, ap, subst, arith}
use Rattle.ash_disk.specs.Device.{Device}
use Rattle.ash_journal.specs.declared.error.OpenFault.TheVariants as opening
use Rattle.ash_journal.specs.declared.journal.Journal.{Journal}
use Rattle.ash_journal.specs.declared.journal.OpenedJournal.{OpenedJournal}
use Rattle.ash_journal.specs.declared.record.Record.{Record}
use Rattle.ash_journal.specs.Current.{Contents}
use Rattle.ash_journal.specs.JournalFailures.{CountsFailures}
use Rattle.ash_journal.specs.Journal.{first_disk, second_disk, HasFailed, IsReady, Holds, HoldsBeforeRepair}
use Rattle.ash_journal.specs.Reading.{AreAt, bodies_of}
use Rattle.ash_journal.specs.SettledSince.{Extends, NoContents}
use Rattle.ash_journal.proofs.RunLaws.{same_extends}
use Rattle.ash_image.specs.declared.version.Version.TheVariants.{One, Two}
use Rattle.ash_states.specs.HostStates.{HostState}
use Rattle.ash_host.specs.declared.host_object.HostObject.{Ghosts}
use Rattle.ash_registry.specs.AcceptedRegistrations.{Registration}
use Rattle.ash_engine.specs.LiveStates.{LiveState, EngineState}
use Rattle.ash_engine.specs.RestoredBoxes.{Restores}
use Rattle.ash_replay.specs.ReplayFaults.{after_image}
use Rattle.ash_replay.specs.ReplayedStates.{AreIn, IsStateOf, IsRead, IsReadFault}
use Rattle.ash_replay.specs.declared.fault.ReplayFault.{ReplayFault}
use Rattle.ash_replay.specs.declared.fault.ReplayFault.TheVariants as replaying
use Rattle.ash_replay.specs.declared.state.StateRead.{StateRead}
use Rattle.ash_durable.specs.StoreFaults.{IsFailed, fault_of_reading}
use Rattle.ash_durable.specs.OpenedStore.{contents_of, AreInPlace, OnlySettled, WasNotSettled, Settled, HasSettled}
use Rattle.ash_durable.specs.OpenedStore.{FailedToSettle, LivesAgain, Revives, Repairs, Moves, MayNotMove, UnsettledFor}
use Rattle.ash_durable.specs.Store.{HandsBack}
use Rattle.ash_durable.specs.declared.fault.OpenRefused.{OpenRefused}
use Rattle.ash_durable.specs.declared.fault.StoreFault.{StoreFault}
use Rattle.ash_durable.specs.declared.fault.StoreFault.TheVariants as faults
use Rattle.ash_durable.specs.declared.store.Found.{Found}

-- calls of which the first met no failure
pub counted_on : (failed : Type 0) (f s f' s' f'' s'' : ℕ) → CountsFailures ⊥ f s f' s'
    → CountsFailures failed f' s' f'' s'' → CountsFailures failed f s f'' s''
counted_on failed f s f' s' f'' s'' one two =
    let same = one.none (λ (e : ⊥). e) in
    subst (λ (n : ℕ). CountsFailures failed n s f'' s'') same.0
    (subst (λ (n : ℕ). CountsFailures failed f' n f'' s'') same.1 two)

-- a call that met no failure, by whatever it says of one
pub counted_none : (failed : Type 0) (f s f' s' : ℕ) → (failed → ⊥) → CountsFailures failed f s f' s'
    → CountsFailures ⊥ f s f' s'
counted_none failed f s f' s' not counts = record {
  first_never_falls = counts.first_never_falls;
  second_never_falls = counts.second_never_falls;
  counted = λ is. absurd is;
  none = λ never. counts.none not;
}

-- no call at all
uncounted : (failed : Type 0) (f s : ℕ) → (failed → ⊥) → CountsFailures failed f s f s
uncounted failed f s not = record {
  first_never_falls = omega arith;
  second_never_falls = omega arith;
  counted = λ is. absurd (not is);
  none = λ never. (refl, refl);
}

-- contents that are read as no state are of no use
read_unsettled : {D B : Type 0} (G : Ghosts B) (registered : List Registration) (pool services : List B)
    (opened : OpenedJournal D) (fault : ReplayFault) → IsReadFault registered (contents_of opened) fault
    → UnsettledFor G registered pool services opened (fault_of_reading fault)
read_unsettled G registered pool services opened (replaying.Damaged at) reads = reads
read_unsettled G registered pool services opened replaying.OtherInterface reads = reads
read_unsettled G registered pool services opened replaying.NoMemory reads = tt

-- no device failed
no_failure : (fault : ReplayFault) → IsFailed (fault_of_reading fault) → ⊥
no_failure (replaying.Damaged at) failed = failed
no_failure replaying.OtherInterface failed = failed
no_failure replaying.NoMemory failed = failed

-- what an image and records are read as, what the journal holds is read as
pub read_as : {D : Type 0} (opened : OpenedJournal D) (registered : List Registration) (read : StateRead)
    (image : List ℕ) (records : List Record) → image ≡ opened.image.items → records ≡ opened.records.items
    → IsRead registered (image, bodies_of records) read → IsRead registered (contents_of opened) read
read_as opened registered read image records image_is records_is reads =
    subst (λ (i : List ℕ). IsRead registered (i, bodies_of opened.records.items) read) image_is
    (subst (λ (rs : List Record). IsRead registered (image, bodies_of rs) read) records_is reads)

-- and so it is with a fault
pub fault_as : {D : Type 0} (opened : OpenedJournal D) (registered : List Registration) (fault : ReplayFault)
    (image : List ℕ) (records : List Record) → image ≡ opened.image.items → records ≡ opened.records.items
    → (AreAt (after_image image) records → IsReadFault registered (image, bodies_of records) fault)
    → AreInPlace opened → IsReadFault registered (contents_of opened) fault
fault_as opened registered fault image records image_is records_is reads =
    subst (λ (i : List ℕ). AreAt (after_image i) opened.records.items
    → IsReadFault registered (i, bodies_of opened.records.items) fault) image_is
    (subst (λ (rs : List Record). AreAt (after_image image) rs → IsReadFault registered (image, bodies_of rs) fault)
    records_is reads)

module _ {D : Type 0} (device : Device D) where
  -- disks that are handed on
  pub handed_on : (failed : Type 0) (a b a' b' a'' b'' : D) → HandsBack device ⊥ a b a' b'
      → HandsBack device failed a' b' a'' b'' → HandsBack device failed a b a'' b''
  handed_on failed a b a' b' a'' b'' one two = record {
    failures = counted_on failed (device.failures a) (device.failures b) (device.failures a') (device.failures b')
        (device.failures a'') (device.failures b'') one.failures two.failures;
    honesty_first = two.honesty_first ∙ one.honesty_first;
    honesty_second = two.honesty_second ∙ one.honesty_second;
  }

  -- ---- the gates of a journal

  -- they are written over
  pub has_settled : (was journal : Journal D) (failed : Type 0) → (failed → ⊥)
      → ((HasFailed was → ⊥) → IsReady journal) → OnlySettled device was journal
      → ((contents : Contents) → HoldsBeforeRepair device was contents.0 contents.1
      → Holds device journal contents.0 contents.1)
      → ((contents : Contents) → HoldsBeforeRepair device was contents.0 contents.1
      → Extends device (first_disk was) (second_disk was) (first_disk journal) (second_disk journal) NoContents)
      → CountsFailures failed (device.failures (first_disk was)) (device.failures (second_disk was))
      (device.failures (first_disk journal)) (device.failures (second_disk journal))
      → device.honest (first_disk journal) ≡ device.honest (first_disk was)
      → device.honest (second_disk journal) ≡ device.honest (second_disk was) → HasSettled device was journal
  has_settled was journal failed not ready only holds extends counts honesty_first honesty_second = record {
    ready = ready;
    only = only;
    holds = holds;
    extends = extends;
    disks = record {
      failures = counted_none failed (device.failures (first_disk was)) (device.failures (second_disk was))
          (device.failures (first_disk journal)) (device.failures (second_disk journal)) not counts;
      honesty_first = honesty_first;
      honesty_second = honesty_second;
    };
  }

  -- or a device failed
  pub failed_to_settle : (was journal : Journal D) (refused : OpenRefused D) (failed : Type 0) → failed
      → refused.fault ≡ faults.Open opening.DeviceFailed → refused.a ≡ first_disk journal
      → refused.b ≡ second_disk journal
      → OnlySettled device was journal
      → ((contents : Contents) → HoldsBeforeRepair device was contents.0 contents.1
      → Extends device (first_disk was) (second_disk was) (first_disk journal) (second_disk journal) NoContents)
      → CountsFailures failed (device.failures (first_disk was)) (device.failures (second_disk was))
      (device.failures (first_disk journal)) (device.failures (second_disk journal))
      → device.honest (first_disk journal) ≡ device.honest (first_disk was)
      → device.honest (second_disk journal) ≡ device.honest (second_disk was) → FailedToSettle device was refused
  failed_to_settle was journal refused failed has fault_is a_is b_is only extends counts honesty_first
      honesty_second = record {
        fault_is = fault_is;
        journal = journal;
        first_is = a_is;
        second_is = b_is;
        only = only;
        extends = extends;
        disks = record {
          failures = record {
            first_never_falls = counts.first_never_falls;
            second_never_falls = counts.second_never_falls;
            counted = λ is. counts.counted has;
            none = λ not. absurd (not tt);
          };
          honesty_first = honesty_first;
          honesty_second = honesty_second;
        };
      }

  -- ---- what an opened journal holds is read

  -- disks that are handed back with this refusal
  handed : (refused : OpenRefused D) (failed : Type 0) (a b a' b' : D) → (IsFailed refused.fault → failed)
      → (failed → IsFailed refused.fault)
      → refused.a ≡ a' → refused.b ≡ b' → HandsBack device failed a b a' b'
      → HandsBack device (IsFailed refused.fault) a b refused.a refused.b
  handed refused failed a b a' b' to from a_is b_is back =
      subst (λ (x : D). HandsBack device (IsFailed refused.fault) a b x refused.b) (sym a_is)
      (subst (λ (y : D). HandsBack device (IsFailed refused.fault) a b a' y) (sym b_is)
      (record {
        failures = record {
          first_never_falls = back.failures.first_never_falls;
          second_never_falls = back.failures.second_never_falls;
          counted = λ is. back.failures.counted (to is);
          none = λ not. back.failures.none (λ is. not (from is));
        };
        honesty_first = back.honesty_first;
        honesty_second = back.honesty_second;
      }))

  extends_to : (a b a' b' : D) (refused : OpenRefused D) → refused.a ≡ a' → refused.b ≡ b'
      → Extends device a b a' b' NoContents → Extends device a b refused.a refused.b NoContents
  extends_to a b a' b' refused a_is b_is extends =
      subst (λ (x : D). Extends device a b x refused.b NoContents) (sym a_is)
      (subst (λ (y : D). Extends device a b a' y NoContents) (sym b_is) extends)

module _ {D B : Type 0} (device : Device D) (G : Ghosts B) (registered : List Registration) (pool services : List B)
    (opened : OpenedJournal D) where
  -- nothing was written
  unwritten : (refused : OpenRefused D)
      → refused.a ≡ first_disk opened.journal → refused.b ≡ second_disk opened.journal
      → (IsFailed refused.fault → ⊥)
      → (AreInPlace opened → UnsettledFor G registered pool services opened refused.fault)
      → WasNotSettled device G registered pool services opened refused
  unwritten refused a_is b_is not cause =
      let a = first_disk opened.journal in
      let b = second_disk opened.journal in
      record {
        cause = cause;
        read = λ never. (a_is, b_is);
        extends = λ holds. extends_to device a b a b refused a_is b_is (same_extends device a b NoContents);
        only = λ failed. absurd (not failed);
        disks = handed device refused ⊥ a b a b not (λ is. absurd is) a_is b_is (record {
          failures = uncounted ⊥ (device.failures a) (device.failures b) (λ is. is);
          honesty_first = refl;
          honesty_second = refl;
        });
      }

  -- it is read as no state
  pub not_read : (fault : ReplayFault) (refused : OpenRefused D)
      → refused.fault ≡ fault_of_reading fault → refused.a ≡ first_disk opened.journal
      → refused.b ≡ second_disk opened.journal
      → (AreInPlace opened → IsReadFault registered (contents_of opened) fault)
      → WasNotSettled device G registered pool services opened refused
  not_read fault refused fault_is a_is b_is reads =
      unwritten refused a_is b_is
      (λ failed. no_failure fault (subst IsFailed fault_is failed))
      (λ placed. subst (UnsettledFor G registered pool services opened) (sym fault_is)
      (read_unsettled G registered pool services opened fault (reads placed)))

  -- as a state that the boxes did not take
  boxes_fail : (state : HostState) (fault : StoreFault) → Revives G state pool services (Err fault) → IsFailed fault → ⊥
  boxes_fail state (faults.PoolShort kind) why failed = failed
  boxes_fail state (faults.RestoreRefused number) why failed = failed
  boxes_fail state (faults.Open opening.NoMemory) why failed = failed
  boxes_fail state _ why failed = why

  not_taken : (state : HostState) (fault : StoreFault) → state.registered ≡ registered
      → IsStateOf state (contents_of opened) → Revives G state pool services (Err fault)
      → UnsettledFor G registered pool services opened fault
  not_taken state (faults.PoolShort kind) with_it is_state why = (state, with_it, is_state, why)
  not_taken state (faults.RestoreRefused number) with_it is_state why = (state, with_it, is_state, why)
  not_taken state (faults.Open opening.NoMemory) with_it is_state why = tt
  not_taken state _ with_it is_state why = absurd why

  pub not_revived : (state : HostState) (fault : StoreFault) (refused : OpenRefused D) → state.registered ≡ registered
      → (AreInPlace opened → IsStateOf state (contents_of opened))
      → refused.fault ≡ fault → refused.a ≡ first_disk opened.journal → refused.b ≡ second_disk opened.journal
      → Revives G state pool services (Err fault)
      → WasNotSettled device G registered pool services opened refused
  not_revived state fault refused with_it reads fault_is a_is b_is why =
      unwritten refused a_is b_is (λ failed. boxes_fail state fault why (subst IsFailed fault_is failed))
      (λ placed. subst (UnsettledFor G registered pool services opened) (sym fault_is)
      (not_taken state fault with_it (reads placed) why))

  -- as a state, and a device failed then
  unsettled : (refused : OpenRefused D) → FailedToSettle device opened.journal refused
      → WasNotSettled device G registered pool services opened refused
  unsettled refused failed =
      let a = first_disk opened.journal in
      let b = second_disk opened.journal in
      let is_failed : IsFailed refused.fault = subst IsFailed (sym failed.fault_is) tt in
      record {
        cause = λ placed. subst (UnsettledFor G registered pool services opened) (sym failed.fault_is) tt;
        read = λ not. absurd (not is_failed);
        extends = λ holds. extends_to device a b (first_disk failed.journal) (second_disk failed.journal) refused
            failed.first_is failed.second_is (failed.extends (contents_of opened) holds);
        only = λ is. (failed.journal, failed.only, failed.first_is, failed.second_is);
        disks = handed device refused (Unit {0}) a b (first_disk failed.journal) (second_disk failed.journal)
            (λ is. tt) (λ is. is_failed) failed.first_is failed.second_is failed.disks;
      }

  -- as a state that is not moved
  may_fail : (was : Journal D) (fault : StoreFault) → MayNotMove was fault → IsFailed fault → ⊥
  may_fail was faults.GenerationSpent may failed = failed
  may_fail was (faults.Open opening.NoMemory) may failed = failed
  may_fail was _ may failed = may

  may_not_move : (fault : StoreFault) (state : HostState) (live : LiveState B) → state.registered ≡ registered
      → IsStateOf state (contents_of opened) → AreIn One (contents_of opened) → Restores G state pool services live
      → MayNotMove opened.journal fault → UnsettledFor G registered pool services opened fault
  may_not_move faults.GenerationSpent state live with_it is_state in_one restored last = record {
    state = state;
    registered_is = with_it;
    is_state = is_state;
    in_one = in_one;
    live = live;
    restored = restored;
    last = last;
  }
  may_not_move (faults.Open opening.NoMemory) state live with_it is_state in_one restored may = tt
  may_not_move _ state live with_it is_state in_one restored may = absurd may

  -- in version 2, and it is kept
  pub settles_two : (state : HostState) (engine : EngineState B) (result : Result (Found D B) (OpenRefused D))
      → state.registered ≡ registered → LivesAgain G state pool services engine
      → (AreInPlace opened → IsStateOf state (contents_of opened) × AreIn Two (contents_of opened))
      → Repairs device engine opened.journal result → Settled device G registered pool services opened result
  settles_two state engine (Ok one) with_it lives reads repairs = record {
    version = Two;
    state = state;
    lives = subst (LivesAgain G state pool services) (sym repairs.0) lives;
    old = one.journal;
    settled = record { registered_is = with_it; reads = reads; settled = repairs.1 };
    keeps = refl;
  }
  settles_two state engine (Err refused) with_it lives reads failed = inl (unsettled refused failed)

  -- in version 1, and it is moved
  pub settles_one : (state : HostState) (engine : EngineState B) (result : Result (Found D B) (OpenRefused D))
      → state.registered ≡ registered → LivesAgain G state pool services engine
      → (AreInPlace opened → IsStateOf state (contents_of opened) × AreIn One (contents_of opened))
      → Moves device state engine opened.journal result → Settled device G registered pool services opened result
  settles_one state engine (Ok one) with_it lives reads moves = record {
    version = One;
    state = state;
    lives = subst (LivesAgain G state pool services) (sym moves.0) lives;
    old = moves.1;
    settled = record { registered_is = with_it; reads = reads; settled = moves.2 };
    keeps = moves.3;
  }
  settles_one state engine (Err refused) with_it lives reads (inl begun) =
      inl (unwritten refused begun.first_same begun.second_same (may_fail opened.journal refused.fault begun.cause)
      (λ placed. let is = reads placed in
      may_not_move refused.fault state lives.live with_it is.0 is.1 lives.restored begun.cause))
  settles_one state engine (Err refused) with_it lives reads (inr (inl failed)) = inl (unsettled refused failed)
  settles_one state engine (Err refused) with_it lives reads (inr (inr left)) = inr (record {
    state = state;
    live = lives.live;
    restored = lives.restored;
    old = left.0;
    settled = record { registered_is = with_it; reads = reads; settled = left.1 };
    left = left.2;
  })

-- what became of an engine in which a state lives again, said of that state
pub moved_by : {D B : Type 0} (device : Device D) (G : Ghosts B) (state : HostState) (pool services : List B)
    (engine : EngineState B) (was : Journal D) (result : Result (Found D B) (OpenRefused D))
    → LivesAgain G state pool services engine
    → ((live : LiveState B) → engine.live ≡ Some live → Moves device live.durable engine was result)
    → Moves device state engine was result
moved_by {D} {B} device G state pool services engine was result lives moves =
    subst (λ (s : HostState). Moves device s engine was result) lives.restored.durable
    (moves lives.live (ap (λ (e : EngineState B). e.live) lives.engine_is))
