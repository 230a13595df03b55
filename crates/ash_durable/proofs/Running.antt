-- Calls that a host handled are a run of the definition, up to the first failure.
use Rattle.std.proofs.Common.{◌≡◌, ◌⊎◌, inl, inr, ℕ, List, [], ◌∷◌, append-nil, Option, Some, None, Ok, Err, refl}
use Rattle.std.proofs.Common.{sym, ap, ◌∙◌, subst}
use Rattle.ash_disk.specs.Device.{Device}
use Rattle.ash_host.specs.declared.host_object.HostObject.{Ghosts}
use Rattle.ash_requests.specs.Requests.{Request, Refusal, Reply, Refused, DeviceFailed, NoMemory, GenerationSpent}
use Rattle.ash_sources.specs.SourceFaults.{SourceFault}
use Rattle.ash_states.specs.StateSteps.{task_of}
use Rattle.ash_engine.specs.LiveStates.{LiveState}
use Rattle.ash_durable.specs.Hosting.{Hosted, IsRunning, WantsInstall, InstallRefused, HasStopped}
use Rattle.ash_durable.specs.Hosting.{HostReplies, reply_stopped}
use Rattle.ash_durable.specs.Batches.{BatchRequest, BatchResult, BatchOutcome, BatchNotCommitted}
use Rattle.ash_durable.specs.Batches.{HasBegunToChange, adding_request, HostCall, SingleCall, BatchCall, HostResult}
use Rattle.ash_durable.specs.Batches.{SingleResult, BatchGiven, HandlesCall, HandlesCalls}
use Rattle.ash_durable.specs.RequestRuns.{HostSteps, HostRuns, HadNoNewGeneration, CallSteps}
use Rattle.ash_durable.specs.RequestRuns.{CallChanges, CallWantsInstall, HasFailedDevice, result_stopped}
use Rattle.ash_durable.specs.RequestRuns.{results_until_reopened, LosesAnswer, LosesAnswers, RunsUntilFailure}
use Rattle.ash_durable.specs.RequestRuns.{RunsToFailure}
use Rattle.ash_durable.proofs.BatchOutcomes.{stopped_batch}
use Rattle.ash_durable.proofs.Composing.{room_same}
use Rattle.ash_durable.proofs.RequestOutcomes.{was_lost}
use Rattle.ash_durable.proofs.RunningCode.{runs_changes}

-- What came of a new generation that was wanted before a call: there is none, and nothing has changed; or a device failed
-- while it was installed.
abbrev NotInstalled : {D B : Type 0} → Request → Hosted D B → Reply SourceFault → Hosted D B → Type 0
NotInstalled request old reply new = HadNoNewGeneration request old reply new
    ⊎ (HasStopped old new × (reply ≡ Refused DeviceFailed))

not_installed_for : {D B : Type 0} (request : Request) (old : Hosted D B) (refusal : Refusal SourceFault)
    (new : Hosted D B) → WantsInstall request old → InstallRefused old (Refused refusal) new
    → NotInstalled request old (Refused refusal) new
not_installed_for request old GenerationSpent new wanted refused =
    inl (record { wanted = wanted; cause = refused.0; unchanged = refused.1 })
not_installed_for request old NoMemory new wanted refused =
    inl (record { wanted = wanted; cause = refused.0; unchanged = refused.1 })
not_installed_for request old DeviceFailed new wanted refused = inr (refused.1, refl)
not_installed_for request old _ new wanted refused = absurd refused

not_installed : {D B : Type 0} (request : Request) (old : Hosted D B) (reply : Reply SourceFault) (new : Hosted D B)
    → WantsInstall request old → InstallRefused old reply new → NotInstalled request old reply new
not_installed request old (Refused refusal) new wanted refused =
    not_installed_for request old refusal new wanted refused
not_installed request old _ new wanted refused = absurd refused

-- a refusal is a device's failure if its reply is
device_failed : (refusal : Refusal SourceFault) → Refused refusal ≡ Refused DeviceFailed → refusal ≡ DeviceFailed
device_failed refusal is = cc

module _ {D B : Type 0} (device : Device D) (G : Ghosts B) (budget : ℕ) where
  -- ---- a host that must be reopened

  one_stopped : (call : HostCall) (result : HostResult) (old next : Hosted D B) → old.live ≡ None
      → HandlesCall device G budget call old result next → (result ≡ result_stopped old.seq call) × (next ≡ old)
  one_stopped (SingleCall request) (SingleResult reply) old next none handled =
      let one : (reply ≡ reply_stopped request old.seq) × (next ≡ old) =
      subst (λ (live : Option (LiveState B)). HostReplies device G budget request live old reply next) none
      handled.replies in
      (ap (λ (r : Reply SourceFault). SingleResult r) one.0, one.1)
  one_stopped (BatchCall requests) (BatchGiven result) old next none handled =
      let one = stopped_batch device G budget requests old result next
      (subst (λ (live : Option (LiveState B)). BatchOutcome device G budget requests live old result next) none
      handled.outcome) in
      (ap (λ (r : BatchResult). BatchGiven r) one.0, one.1)
  one_stopped (SingleCall request) (BatchGiven result) old next none handled = absurd handled
  one_stopped (BatchCall requests) (SingleResult reply) old next none handled = absurd handled

  while_stopped : (old : Hosted D B) (calls : List HostCall) (results : List HostResult) (new : Hosted D B)
      → old.live ≡ None → HandlesCalls device G budget old calls results new
      → (results ≡ results_until_reopened calls old.seq) × (new ≡ old)
  while_stopped old [] [] new none all = (refl, all)
  while_stopped old (call ∷ calls) (result ∷ results) new none all =
      let one = one_stopped call result old all.0 none all.1 in
      let more = while_stopped all.0 calls results new
      (ap (λ (host : Hosted D B). host.live) one.1 ∙ none) all.2 in
      let rest : results ≡ results_until_reopened calls old.seq = more.0
      ∙ ap (λ (host : Hosted D B). results_until_reopened calls host.seq) one.1 in (
        ap (λ (first : HostResult). first ∷ results) one.0
            ∙ ap (λ (later : List HostResult). result_stopped old.seq call ∷ later) rest,
        more.1 ∙ one.1,
      )
  while_stopped old [] (result ∷ results) new none all = absurd all
  while_stopped old (call ∷ calls) [] new none all = absurd all

  -- ---- one call of a host that runs

  -- What a call comes to: the host runs on; or it must be reopened, and the call lost answers or the state, or a device
  -- failed while a new generation was installed.
  record CallRunsOn (call : HostCall) (live : LiveState B) (old : Hosted D B) (result : HostResult) (next : Hosted D B)
      : Type 0 where
    after : LiveState B
    is : next.live ≡ Some after
    runs : IsRunning after.durable next
    steps : CallSteps G budget call live old result after next

  record CallFails (call : HostCall) (live : LiveState B) (old : Hosted D B) (result : HostResult) (next : Hosted D B)
      : Type 0 where
    stops : HasStopped old next
    cause : CallChanges G budget call live ⊎ (CallWantsInstall call old × HasFailedDevice result)
    loses : LosesAnswers result

  abbrev ComesTo : HostCall → LiveState B → Hosted D B → HostResult → Hosted D B → Type 0
  ComesTo call live old result next = CallRunsOn call live old result next ⊎ CallFails call live old result next

  still_running : (live : LiveState B) (old next : Hosted D B) → next ≡ old → IsRunning live.durable old
      → IsRunning live.durable next
  still_running live old next same runs = subst (λ (host : Hosted D B). IsRunning live.durable host) (sym same) runs

  -- a request, by what came of it
  single : (request : Request) (live : LiveState B) (old : Hosted D B) (reply : Reply SourceFault) (next : Hosted D B)
      → old.live ≡ Some live → IsRunning live.durable old
      → HostReplies device G budget request (Some live) old reply next
      → ComesTo (SingleCall request) live old (SingleResult reply) next
  single request live old reply next is runs (inl took) = inl (record {
    after = took.after;
    is = took.live_is;
    runs = took.running;
    steps = inl (inl took.stepped);
  })
  single request live old reply next is runs (inr (inl out)) = inl (record {
    after = live;
    is = room_same device request live old next out.room ∙ is;
    runs = out.running;
    steps = inl (inr out.ran_out);
  })
  single request live old reply next is runs (inr (inr (inl lost))) = inr (record {
    stops = lost.stopped;
    cause = inl lost.changes;
    loses = was_lost lost.between.journal reply next.journal lost.lost;
  })
  single request live old reply next is runs (inr (inr (inr (inl lost)))) = inr (record {
    stops = lost.stopped;
    cause = inl (runs_changes (task_of request live.durable) lost.runs);
    loses = subst LosesAnswer (sym lost.reply_is) tt;
  })
  single request live old reply next is runs (inr (inr (inr (inr none)))) =
      elim (not_installed request old reply next none.wanted none.refused) [
        | inl spent ↦ inl (record {
          after = live;
          is = ap (λ (host : Hosted D B). host.live) spent.unchanged ∙ is;
          runs = still_running live old next spent.unchanged runs;
          steps = inr spent;
        })
        | inr failed ↦ inr (record {
          stops = failed.0;
          cause = inr (none.wanted, failed.1);
          loses = subst LosesAnswer (sym failed.1) tt;
        })
      ]

  -- all requests of a batch stepped, and some were answered
  begun : (requests : List BatchRequest) (live : LiveState B) (old : Hosted D B) (refusal : Refusal SourceFault)
      (next : Hosted D B) → BatchNotCommitted device G budget requests live old refusal next
      → HasBegunToChange G budget requests live
  begun requests live old refusal next lost = record {
    done = requests;
    left = [];
    requests_are = sym (append-nil requests);
    replies = lost.replies;
    reached = lost.after;
    steps = lost.steps;
    changes = inl lost.answered;
  }

  -- a batch, by what came of it
  batch : (requests : List BatchRequest) (live : LiveState B) (old : Hosted D B) (result : BatchResult)
      (next : Hosted D B) → old.live ≡ Some live → IsRunning live.durable old
      → BatchOutcome device G budget requests (Some live) old result next
      → ComesTo (BatchCall requests) live old (BatchGiven result) next
  batch requests live old (Ok replies) next is runs took = inl (record {
    after = took.after;
    is = took.live_is;
    runs = took.running;
    steps = took.steps;
  })
  batch requests live old (Err refusal) next is runs (inl out) = inl (record {
    after = live;
    is = room_same device (adding_request requests) live old next out.room ∙ is;
    runs = out.running;
    steps = (refl, inl out.refusal_is);
  })
  batch requests live old (Err refusal) next is runs (inr (inl lost)) = inr (record {
    stops = lost.stopped;
    cause = inl (begun requests live old refusal next lost);
    loses = was_lost lost.between.journal (Refused refusal) next.journal lost.lost;
  })
  batch requests live old (Err refusal) next is runs (inr (inr (inl lost))) = inr (record {
    stops = lost.stopped;
    cause = inl lost.changes;
    loses = subst (λ (r : Refusal SourceFault). LosesAnswer (Refused r)) (sym lost.refusal_is) tt;
  })
  batch requests live old (Err refusal) next is runs (inr (inr (inr none))) =
      elim (not_installed (adding_request requests) old (Refused refusal) next none.wanted none.refused) [
        | inl spent ↦ inl (record {
          after = live;
          is = ap (λ (host : Hosted D B). host.live) spent.unchanged ∙ is;
          runs = still_running live old next spent.unchanged runs;
          steps = (refl, inr spent);
        })
        | inr failed ↦
            let one : Refusal SourceFault → BatchResult = λ r. Err r in
            inr (record {
              stops = failed.0;
              cause = inr (none.wanted, ap one (device_failed refusal failed.1));
              loses = subst LosesAnswer (sym failed.1) tt;
            })
      ]

  one_call : (call : HostCall) (live : LiveState B) (old : Hosted D B) (result : HostResult) (next : Hosted D B)
      → old.live ≡ Some live → IsRunning live.durable old → HandlesCall device G budget call old result next
      → ComesTo call live old result next
  one_call (SingleCall request) live old (SingleResult reply) next is runs handled =
      single request live old reply next is runs
      (subst (λ (l : Option (LiveState B)). HostReplies device G budget request l old reply next) is handled.replies)
  one_call (BatchCall requests) live old (BatchGiven result) next is runs handled =
      batch requests live old result next is runs
      (subst (λ (l : Option (LiveState B)). BatchOutcome device G budget requests l old result next) is handled.outcome)
  one_call (SingleCall request) live old (BatchGiven result) next is runs handled = absurd handled
  one_call (BatchCall requests) live old (SingleResult reply) next is runs handled = absurd handled

  -- ---- calls of a host that runs

  -- what a host that runs did
  abbrev Ran : Hosted D B → List HostCall → List HostResult → Hosted D B → Type 0
  Ran old calls results new = HostRuns device G budget old calls results new
      ⊎ RunsUntilFailure device G budget old calls results new

  one_step : (call : HostCall) (result : HostResult) (old next : Hosted D B) (calls : List HostCall)
      (results : List HostResult) (new : Hosted D B) → HostSteps device G budget call old result next
      → Ran next calls results new → Ran old (call ∷ calls) (result ∷ results) new
  one_step call result old next calls results new step (inl through) = inl (next, step, through)
  one_step call result old next calls results new step (inr until) = inr (record {
    before = call ∷ until.before;
    failed = until.failed;
    later = until.later;
    given = result ∷ until.given;
    failure = until.failure;
    last = until.last;
    live = until.live;
    last_runs = until.last_runs;
    calls_are = ap (λ (more : List HostCall). call ∷ more) until.calls_are;
    results_are = ap (λ (more : List HostResult). result ∷ more) until.results_are;
    run = (next, step, until.run);
    cause = until.cause;
    loses_answers = until.loses_answers;
    stopped = until.stopped;
    seq_is = until.seq_is;
  })

  -- a call after which the host must be reopened
  failed_first : (call : HostCall) (result : HostResult) (live : LiveState B) (old next : Hosted D B)
      (calls : List HostCall) (results : List HostResult) (new : Hosted D B) → old.live ≡ Some live
      → IsRunning live.durable old → CallFails call live old result next → HandlesCalls device G budget next calls results new
      → RunsUntilFailure device G budget old (call ∷ calls) (result ∷ results) new
  failed_first call result live old next calls results new is runs fails all =
      let after = while_stopped next calls results new fails.stops.stopped all in
      let seq : next.seq ≡ live.durable.state.seq = fails.stops.seq_same ∙ runs.seq_is in
      record {
        before = [];
        failed = call;
        later = calls;
        given = [];
        failure = result;
        last = old;
        live = live;
        last_runs = is;
        calls_are = refl;
        results_are = ap (λ (more : List HostResult). result ∷ more)
            (after.0 ∙ ap (λ (n : ℕ). results_until_reopened calls n) seq);
        run = refl;
        cause = fails.cause;
        loses_answers = fails.loses;
        stopped = ap (λ (host : Hosted D B). host.live) after.1 ∙ fails.stops.stopped;
        seq_is = ap (λ (host : Hosted D B). host.seq) after.1 ∙ seq;
      }

  while_running : (live : LiveState B) (old : Hosted D B) (calls : List HostCall) (results : List HostResult)
      (new : Hosted D B) → old.live ≡ Some live → IsRunning live.durable old
      → HandlesCalls device G budget old calls results new → Ran old calls results new
  while_running live old [] [] new is runs all = inl all
  while_running live old (call ∷ calls) (result ∷ results) new is runs all =
      elim (one_call call live old result all.0 is runs all.1) [
        | inl on ↦ one_step call result old all.0 calls results new
            (record {
              handled = all.1;
              before = live;
              after = on.after;
              was = is;
              is = on.is;
              steps = on.steps;
            })
            (while_running on.after all.0 calls results new on.is on.runs all.2)
        | inr fails ↦ inr (failed_first call result live old all.0 calls results new is runs fails all.2)
      ]
  while_running live old [] (result ∷ results) new is runs all = absurd all
  while_running live old (call ∷ calls) [] new is runs all = absurd all

  pub runs_to_failure : (old : Hosted D B) (calls : List HostCall) (results : List HostResult) (new : Hosted D B)
      → HandlesCalls device G budget old calls results new → RunsToFailure device G budget old calls results new
  runs_to_failure old calls results new all = record {
    running = λ live is runs. while_running live old calls results new is runs all;
    stopped = λ none. while_stopped old calls results new none all;
  }
