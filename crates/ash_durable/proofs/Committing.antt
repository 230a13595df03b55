-- A state in a journal, by what the journal's calls say of bytes.
use Rattle.std.proofs.Common.{◌≡◌, inl, inr, ℕ, ◌+◌, List, [], ◌∷◌, ◌++◌, length, Result, Ok, Err, OnOk}
use Rattle.std.proofs.Common.{refl, sym, subst}
use Rattle.ash_disk.specs.Device.{Device}
use Rattle.ash_journal.specs.declared.journal.Journal.{Journal}
use Rattle.ash_journal.specs.Current.{IsContents, HoldsOneOf}
use Rattle.ash_journal.specs.JournalFailures.{CountsFailures}
use Rattle.ash_journal.specs.Journal.{first_disk, second_disk, generation, record_bytes, HasFailed, IsReady, Holds}
use Rattle.ash_journal.specs.Journal.{LeavesCurrent, LeavesOther}
use Rattle.ash_journal.specs.SettledSince.{HoldsSince, Extends}
use Rattle.ash_states.specs.HostStates.{HostState, IsAdmitted}
use Rattle.ash_requests.specs.declared.refusal.Refusal.TheVariants as the
use Rattle.ash_replay.specs.ReplayFaults.{record_header_size}
use Rattle.ash_durable.specs.Saving.{HostRefusal, AddsRecordWith, AddsRecord, AddsWith, Adds, Installs, IsBefore}
use Rattle.ash_durable.specs.Saving.{last_generation}
use Rattle.ash_image.specs.declared.version.Version.TheVariants.{Two}
use Rattle.ash_states.specs.Images.{IsImageIn}
use Rattle.ash_durable.specs.StoredStates.{HoldsState, ExtendsHistory, BeginsAnew}
use Rattle.ash_durable.proofs.Settling.{record_goes_on, image_begins_anew}
use Rattle.ash_replay.specs.ReplayedStates.{IsBodyBetween}
use Rattle.ash_replay.proofs.Adding.{alone_in, state_of_alone, state_of_push, fits_in}
use Rattle.ash_change_records.proofs.BodiesLead.{bodies_lead}
use Rattle.ash_engine.specs.LiveStates.{LiveState}
use Rattle.ash_engine.specs.RecordedChanges.{IsBodyOfChanges}

-- what is said of the disks, whatever came of a call
pub record Disks {D : Type 0} (device : Device D) (old new : Journal D) (failed : Type 0) : Type 0 where
  pub failures : CountsFailures failed (device.failures (first_disk old)) (device.failures (second_disk old))
      (device.failures (first_disk new)) (device.failures (second_disk new))
  pub honesty_first : device.honest (first_disk new) ≡ device.honest (first_disk old)
  pub honesty_second : device.honest (second_disk new) ≡ device.honest (second_disk old)

module _ {D : Type 0} (device : Device D) (state : HostState) (old new : Journal D) where
  installed_moments : (image : List ℕ) → IsImageIn Two image state
      → ((was : List ℕ) (bodies : List (List ℕ)) → Holds device old was bodies
      → HoldsSince device (device.clock (first_disk old)) (device.clock (second_disk old)) (first_disk new)
      (second_disk new)
      (HoldsOneOf (IsContents (image, [])) (IsContents (was, bodies)))) → HoldsState device state old
      → BeginsAnew device state state old new
  installed_moments image depicts run holds =
      image_begins_anew device state image holds.contents.0 holds.contents.1 old new holds.is_state
      holds.in_two depicts
      (run holds.contents.0 holds.contents.1 holds.holds)

  pub installs : (image : List ℕ) → IsImageIn Two image state
      → ((was : List ℕ) (bodies : List (List ℕ)) → Holds device old was bodies
      → HoldsSince device (device.clock (first_disk old)) (device.clock (second_disk old)) (first_disk new)
      (second_disk new)
      (HoldsOneOf (IsContents (image, [])) (IsContents (was, bodies))))
      → ((was : List ℕ) (bodies : List (List ℕ)) → Holds device old was bodies → Holds device new image [])
      → IsReady new → generation new ≡ generation old + 1 → record_bytes new ≡ 0 → LeavesCurrent old new
      → Disks device old new ⊥
      → Installs device state old (Ok tt) new
  installs image depicts run installed ready higher emptied untouched disks = record {
    outcome = (ready, higher, emptied);
    untouched = untouched;
    holds = λ holds. record {
      contents = (image, []);
      holds = installed holds.contents.0 holds.contents.1 holds.holds;
      is_state = state_of_alone Two state image depicts;
      in_two = alone_in Two state image depicts;
    };
    moments = installed_moments image depicts run;
    failures = disks.failures;
    honesty_first = disks.honesty_first;
    honesty_second = disks.honesty_second;
  }

  pub installs_not : (image : List ℕ) → IsImageIn Two image state
      → ((was : List ℕ) (bodies : List (List ℕ)) → Holds device old was bodies
      → HoldsSince device (device.clock (first_disk old)) (device.clock (second_disk old)) (first_disk new)
      (second_disk new)
      (HoldsOneOf (IsContents (image, [])) (IsContents (was, bodies)))) → (generation old ≡ last_generation → ⊥)
      → HasFailed new → LeavesCurrent old new
      → Disks device old new (Unit {0}) → Installs device state old (Err the.DeviceFailed) new
  installs_not image depicts run more failed untouched disks = record {
    outcome = (more, failed);
    untouched = untouched;
    holds = tt;
    moments = installed_moments image depicts run;
    failures = disks.failures;
    honesty_first = disks.honesty_first;
    honesty_second = disks.honesty_second;
  }

-- ---- a record more

module _ {D : Type 0} (device : Device D) (body : List ℕ) (old new : Journal D)
    (extends : (image : List ℕ) (bodies : List (List ℕ)) → Holds device old image bodies
    → Extends device (first_disk old) (second_disk old) (first_disk new) (second_disk new)
    (IsContents (image, bodies ++ body ∷ []))) (untouched : LeavesOther old new) where
  -- the files go on to the state that the body leads to, whatever came of the call
  record_moments : (before after : HostState) → IsBodyBetween Two body before after → HoldsState device before old
      → ExtendsHistory device before after old new
  record_moments before after leads holds =
      record_goes_on device before after holds.contents.0 body holds.contents.1 old new holds.is_state holds.in_two
      leads (extends holds.contents.0 holds.contents.1 holds.holds)

  -- the record is there
  pub record_added : ((image : List ℕ) (bodies : List (List ℕ)) → Holds device old image bodies
      → Holds device new image (bodies ++ body ∷ [])) → IsReady new → generation new ≡ generation old
      → record_bytes new ≡ record_bytes old + record_header_size + length body
      → Disks device old new ⊥ → AddsRecord device body old (Ok tt) new
  record_added acknowledged ready number longer disks = record {
    outcome = (
      ready,
      record { same = number; body = body; is_body = refl; added = acknowledged; longer = longer },
    );
    untouched = untouched;
    holds = λ before after leads holds. record {
      contents = (holds.contents.0, holds.contents.1 ++ body ∷ []);
      holds = acknowledged holds.contents.0 holds.contents.1 holds.holds;
      is_state = state_of_push Two before after holds.contents.0 holds.contents.1 body holds.is_state holds.in_two
          leads;
      in_two = holds.in_two;
    };
    moments = record_moments;
    failures = disks.failures;
    honesty_first = disks.honesty_first;
    honesty_second = disks.honesty_second;
  }

  -- memory was refused
  pub record_refused : new ≡ old → Disks device old new ⊥ → AddsRecord device body old (Err the.NoMemory) new
  record_refused same disks = record {
    outcome = same;
    untouched = untouched;
    holds = tt;
    moments = record_moments;
    failures = disks.failures;
    honesty_first = disks.honesty_first;
    honesty_second = disks.honesty_second;
  }

  -- it is there or not
  pub record_in_doubt : HasFailed new → Disks device old new (Unit {0})
      → AddsRecord device body old (Err the.DeviceFailed) new
  record_in_doubt failed disks = record {
    outcome = failed;
    untouched = untouched;
    holds = tt;
    moments = record_moments;
    failures = disks.failures;
    honesty_first = disks.honesty_first;
    honesty_second = disks.honesty_second;
  }

-- ---- what a request changed, as a record more

module _ {D B : Type 0} (device : Device D) (live : LiveState B) (admitted : IsAdmitted live.durable)
    (old new : Journal D) (body : List ℕ) (is_body : IsBodyOfChanges live body) where
  -- the delta of what a request changed leads from the state before it
  by_delta : (before : HostState) → IsBefore live before → HoldsState device before old
      → IsBodyBetween Two body before live.durable
  by_delta before is holds = record {
    registered = sym is.registered;
    leads = inr (inl (
      bodies_lead live.changes is.happened before live.durable body holds.is_state.depicts.admitted admitted
          (sym is.registered) is.names (fits_in Two before holds.contents holds.is_state holds.in_two) is_body,
      admitted,
    ));
  }

  outcome_by : (result : Result (Unit {0}) HostRefusal) → AddsRecordWith device body old result new
      → AddsWith device live old result new
  outcome_by (Ok done) outcome = (
    outcome.0,
    record {
      same = outcome.1.same;
      body = outcome.1.body;
      is_body = subst (IsBodyOfChanges live) (sym outcome.1.is_body) is_body;
      added = outcome.1.added;
      longer = outcome.1.longer;
    },
  )
  outcome_by (Err the.NoMemory) outcome = outcome
  outcome_by (Err the.DeviceFailed) outcome = outcome
  outcome_by (Err _) outcome = absurd outcome

  holds_by : (result : Result (Unit {0}) HostRefusal)
      → OnOk result ((before after : HostState) → IsBodyBetween Two body before after → HoldsState device before old
      → HoldsState device after new)
      → OnOk result ((before : HostState) → IsBefore live before → HoldsState device before old
      → HoldsState device live.durable new)
  holds_by (Ok done) holds =
      λ before is held. holds before live.durable (by_delta before is held) held
  holds_by (Err refusal) holds = tt

  -- what came of the record with this body came of the state
  pub adds_by : (result : Result (Unit {0}) HostRefusal) → AddsRecord device body old result new
      → Adds device live old result new
  adds_by result adds = record {
    outcome = outcome_by result adds.outcome;
    untouched = adds.untouched;
    holds = holds_by result adds.holds;
    moments = λ before is held. adds.moments before live.durable (by_delta before is held) held;
    failures = adds.failures;
    honesty_first = adds.honesty_first;
    honesty_second = adds.honesty_second;
  }
