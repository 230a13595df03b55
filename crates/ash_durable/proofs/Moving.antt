-- What moving a state to a generation of version 2 comes to.
use Rattle.std.proofs.Common.{◌≡◌, ℕ, ◌+◌, List, [], Err, sym, subst}
use Rattle.ash_disk.specs.Device.{Device}
use Rattle.ash_journal.specs.declared.error.OpenFault.TheVariants as opening
use Rattle.ash_journal.specs.declared.journal.Journal.{Journal}
use Rattle.ash_journal.specs.declared.journal.NextGeneration.{NextGeneration}
use Rattle.ash_journal.specs.Current.{IsContents, HoldsOneOf}
use Rattle.ash_journal.specs.JournalFailures.{CountsFailures}
use Rattle.ash_journal.specs.Installing.{IsNext}
use Rattle.ash_journal.specs.Journal.{first_disk, second_disk, generation, record_bytes, IsReady, Holds, LeavesCurrent}
use Rattle.ash_journal.specs.SettledSince.{HoldsSince}
use Rattle.ash_image.specs.declared.version.Version.TheVariants.{Two}
use Rattle.ash_states.specs.HostStates.{HostState}
use Rattle.ash_states.specs.Images.{IsImageIn}
use Rattle.ash_durable.specs.OpenedStore.{Prepares, NotBegun, MayNotMove, WasMoved, WasNotMoved}
use Rattle.ash_durable.specs.Store.{HandsBack}
use Rattle.ash_durable.specs.declared.fault.OpenRefused.{OpenRefused}
use Rattle.ash_durable.specs.declared.fault.StoreFault.{StoreFault}
use Rattle.ash_durable.specs.declared.fault.StoreFault.TheVariants as faults
use Rattle.ash_durable.proofs.OpenedJournals.{counted_none}

-- a generation that follows a journal's follows it when the journal is settled
pub next_settled : {D : Type 0} (was journal : Journal D) (image : List ℕ) (next : NextGeneration)
    → generation journal ≡ generation was → IsNext was image next → IsNext journal image next
next_settled was journal image next same is = record {
  number_is = rw same is.number_is;
  numbered = rw same is.numbered;
  short = is.short;
  bytes_are = rw same is.bytes_are;
}

-- why no generation is prepared is why the state is not moved
pub not_prepared : {D : Type 0} (state : HostState) (was : Journal D) (fault : StoreFault) (refused : OpenRefused D)
    → refused.fault ≡ fault → refused.a ≡ first_disk was → refused.b ≡ second_disk was
    → Prepares state was (Err fault) → NotBegun was refused
not_prepared state was fault refused fault_is a_is b_is why = record {
  cause = subst (MayNotMove was) (sym fault_is) (may fault why);
  first_same = a_is;
  second_same = b_is;
}
  where
    may : (f : StoreFault) → Prepares state was (Err f) → MayNotMove was f
    may faults.GenerationSpent last = last
    may (faults.Open opening.NoMemory) other = other
    may _ never = absurd never

module _ {D : Type 0} (device : Device D) (state : HostState) (old new : Journal D) (image : List ℕ)
    (is_image : IsImageIn Two image state) where
  -- the next generation is installed
  pub was_moved : (failed : Type 0) → (failed → ⊥) → IsReady new → generation new ≡ generation old + 1
      → record_bytes new ≡ 0 → LeavesCurrent old new
      → ((was : List ℕ) (bodies : List (List ℕ)) → Holds device old was bodies → Holds device new image [])
      → ((was : List ℕ) (bodies : List (List ℕ)) → Holds device old was bodies
      → HoldsSince device (device.clock (first_disk old)) (device.clock (second_disk old)) (first_disk new)
      (second_disk new) (HoldsOneOf (IsContents (image, [])) (IsContents (was, bodies))))
      → CountsFailures failed (device.failures (first_disk old)) (device.failures (second_disk old))
      (device.failures (first_disk new)) (device.failures (second_disk new))
      → device.honest (first_disk new) ≡ device.honest (first_disk old)
      → device.honest (second_disk new) ≡ device.honest (second_disk old) → WasMoved device state old new
  was_moved failed not ready higher emptied untouched installed run counts honesty_first honesty_second = record {
    ready = ready;
    higher = higher;
    emptied = emptied;
    untouched = untouched;
    image = image;
    is_image = is_image;
    holds = λ contents holds. installed contents.0 contents.1 holds;
    moments = λ contents holds. run contents.0 contents.1 holds;
    disks = record {
      failures = counted_none failed (device.failures (first_disk old)) (device.failures (second_disk old))
          (device.failures (first_disk new)) (device.failures (second_disk new)) not counts;
      honesty_first = honesty_first;
      honesty_second = honesty_second;
    };
  }

  -- or a device failed
  pub was_not_moved : (refused : OpenRefused D) (failed : Type 0) → failed
      → refused.fault ≡ faults.Open opening.DeviceFailed → refused.a ≡ first_disk new → refused.b ≡ second_disk new
      → LeavesCurrent old new
      → ((was : List ℕ) (bodies : List (List ℕ)) → Holds device old was bodies
      → HoldsSince device (device.clock (first_disk old)) (device.clock (second_disk old)) (first_disk new)
      (second_disk new) (HoldsOneOf (IsContents (image, [])) (IsContents (was, bodies))))
      → CountsFailures failed (device.failures (first_disk old)) (device.failures (second_disk old))
      (device.failures (first_disk new)) (device.failures (second_disk new))
      → device.honest (first_disk new) ≡ device.honest (first_disk old)
      → device.honest (second_disk new) ≡ device.honest (second_disk old) → WasNotMoved device state old refused
  was_not_moved refused failed has fault_is a_is b_is untouched run counts honesty_first honesty_second = record {
    new = new;
    first_is = a_is;
    second_is = b_is;
    fault_is = fault_is;
    untouched = untouched;
    image = image;
    is_image = is_image;
    moments = λ contents holds. run contents.0 contents.1 holds;
    disks =
        subst (λ (x : D). HandsBack device (Unit {0}) (first_disk old) (second_disk old) x refused.b) (sym a_is)
        (subst (λ (y : D). HandsBack device (Unit {0}) (first_disk old) (second_disk old) (first_disk new) y) (sym b_is)
        (record {
          failures = record {
            first_never_falls = counts.first_never_falls;
            second_never_falls = counts.second_never_falls;
            counted = λ is. counts.counted has;
            none = λ not. absurd (not tt);
          };
          honesty_first = honesty_first;
          honesty_second = honesty_second;
        }));
  }
