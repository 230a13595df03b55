-- What a record that is to be stored does to a host, by what it does to the journal.
use Rattle.std.proofs.Common.{◌≡◌, ℕ, List, Option, Some, None, Result, Ok, Err, refl, ap, subst}
use Rattle.ash_disk.specs.Device.{Device}
use Rattle.ash_journal.specs.declared.journal.Journal.{Journal}
use Rattle.ash_journal.specs.Journal.{LeavesOther}
use Rattle.ash_registry.specs.AcceptedRegistrations.{Registration}
use Rattle.ash_requests.specs.declared.refusal.Refusal.TheVariants as the
use Rattle.ash_engine.specs.LiveStates.{LiveState, EngineState}
use Rattle.ash_durable.specs.Saving.{HostRefusal, AddsRecordWith, AddsRecord}
use Rattle.ash_durable.specs.Hosting.{Hosted, WasLost}
use Rattle.ash_durable.specs.HostReplies.{refused_by}
use Rattle.ash_durable.specs.HostRequests.{CommitsRecordWith, CommitsRecord}
use Rattle.ash_durable.proofs.HandledRequests.{seen_host, host_in, host_stopped, running_seen}
use Rattle.ash_durable.proofs.Requesting.{at_live, Sees}

module _ {D B : Type 0} (device : Device D) (body : List ℕ) (live : LiveState B) (old new : Journal D) (seq : ℕ) where
  -- the record is there
  record_kept : AddsRecord device body old (Ok tt) new
      → CommitsRecord device seq body (host_in live old) (Ok tt) (host_in live new)
  record_kept adds = record {
    outcome = λ other is.
        at_live live (λ (l : LiveState B). CommitsRecordWith device seq body l (host_in live old) (Ok tt)
        (host_in live new))
        (running_seen live new, refl, adds.outcome.1, adds.untouched) other is;
    holds = adds.holds;
    moments = adds.moments;
    disks = record {
      failures = adds.failures;
      honesty_first = adds.honesty_first;
      honesty_second = adds.honesty_second;
      registered = refl;
    };
  }

  lost_for : (refusal : HostRefusal) → AddsRecordWith device body old (Err refusal) new → LeavesOther old new
      → WasLost old (refused_by refusal) new
  lost_for the.NoMemory outcome untouched = outcome
  lost_for the.DeviceFailed outcome untouched = untouched
  lost_for _ outcome untouched = absurd outcome

  -- it is not, or it is in doubt
  record_lost : (refusal : HostRefusal) → AddsRecord device body old (Err refusal) new
      → CommitsRecord device seq body (host_in live old) (Err refusal)
      (host_stopped B live.durable.registered seq new)
  record_lost refusal adds = record {
    outcome = λ other is.
        at_live live (λ (l : LiveState B). CommitsRecordWith device seq body l (host_in live old) (Err refusal)
        (host_stopped B live.durable.registered seq new))
        (refl, refl, lost_for refusal adds.outcome adds.untouched) other is;
    holds = tt;
    moments = adds.moments;
    disks = record {
      failures = adds.failures;
      honesty_first = adds.honesty_first;
      honesty_second = adds.honesty_second;
      registered = refl;
    };
  }

-- the same of a host as it is seen
module _ {D B : Type 0} (device : Device D) (body : List ℕ) (stopped : Option ℕ) (engine : EngineState B)
    (old new : Journal D) (host : Hosted D B) (seen : Sees stopped engine old host) (seq : ℕ) where
  pub record_kept_seen : AddsRecord device body old (Ok tt) new
      → CommitsRecord device seq body host (Ok tt) (seen_host stopped engine new)
  record_kept_seen adds =
      subst (λ (h : Hosted D B). CommitsRecord device seq body h (Ok tt) (seen_host stopped engine new)) seen.seen
      (subst (λ (h : Hosted D B). CommitsRecord device seq body (host_in seen.live old) (Ok tt) h) (seen.later new)
      (record_kept device body seen.live old new seq adds))

  pub record_lost_seen : (refusal : HostRefusal) → AddsRecord device body old (Err refusal) new
      → CommitsRecord device seq body host (Err refusal) (seen_host (Some seq) engine new)
  record_lost_seen refusal adds =
      subst (λ (h : Hosted D B). CommitsRecord device seq body h (Err refusal) (seen_host (Some seq) engine new))
      seen.seen
      (subst (λ (h : Hosted D B). CommitsRecord device seq body (host_in seen.live old) (Err refusal) h)
      (ap (λ (r : List Registration). host_stopped B r seq new) seen.registered_is)
      (record_lost device body seen.live old new seq refusal adds))
