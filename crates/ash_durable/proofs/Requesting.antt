-- What the parts of a request do to a host, by what they do to its journal.
use Rattle.std.proofs.Common.{◌≡◌, ◌⊎◌, inl, inr, ℕ, Option, Some, None, IsSome, Result, Ok, Err, OnOk, refl, subst}
use Rattle.std.proofs.Common.{List, sym, ◌∙◌, ap, arith}
use Rattle.std.proofs.lemmas.Bool.{cases_lt}
use Rattle.ash_disk.specs.Device.{Device}
use Rattle.ash_journal.specs.declared.journal.Journal.{Journal}
use Rattle.ash_journal.specs.Journal.{record_bytes, IsReady, LeavesOther}
use Rattle.ash_host.specs.declared.host_object.HostObject.{Ghosts}
use Rattle.ash_requests.specs.Requests.{Request, Load, Call, Discard, Get, Object, Seq, Snapshot}
use Rattle.ash_requests.specs.declared.refusal.Refusal.TheVariants as the
use Rattle.ash_registry.specs.AcceptedRegistrations.{Registration}
use Rattle.ash_states.specs.HostStates.{HostState}
use Rattle.ash_engine.specs.LiveStates.{LiveState, EngineState}
use Rattle.ash_durable.specs.StoredStates.{HoldsState, ExtendsHistory}
use Rattle.ash_durable.specs.Saving.{IsBefore, HostRefusal, AddsWith, Adds, InstallsWith, Installs}
use Rattle.ash_durable.specs.Hosting.{Hosted, IsReadyUnless, IsSound, RunsSound, IsRunning, IsHonest, IsFull}
use Rattle.ash_durable.specs.Hosting.{full_record_bytes, MayAdd}
use Rattle.ash_durable.specs.Hosting.{WantsInstall, Settles, WasInstalled, InstallRefused, WasLost}
use Rattle.ash_durable.specs.HostReplies.{refused_by}
use Rattle.ash_durable.specs.HostRequests.{InstallsInto, TriesInstall, MakesRoom, CommitsWith, Commits}
use Rattle.ash_durable.proofs.Composing.{runs_in, honest_before, untouched_disks}
use Rattle.ash_durable.proofs.HandledRequests.{seen_host, host_in, host_stopped, HasRegistered, seen_in, running_seen}

-- at each state in which a host runs, of which there is one
at_each : {D B : Type 0} (live : LiveState B) (journal : Journal D) (P : HostState → Type 0) → P live.durable
    → (other : HostState) → IsRunning other (host_in live journal) → P other
at_each live journal P here other runs = subst P
    (runs_in (host_in live journal) live.durable other (running_seen live journal) runs) here

-- what is said of a live state is said of each that a host has
pub at_live : {B : Type 0} (live : LiveState B) (P : LiveState B → Type 0) → P live
    → (other : LiveState B) → Some live ≡ Some other → P other
at_live {B} live P here other is = let same : live ≡ other = cc in subst P same here

-- ---- a new generation

module _ {D B : Type 0} (device : Device D) (live : LiveState B) (old new : Journal D) where
  installed : Installs device live.durable old (Ok tt) new
      → WasInstalled device live.durable (host_in live old) (host_in live new)
  installed installs = record {
    running = running_seen live new;
    live_same = refl;
    higher = installs.outcome.1;
    emptied = installs.outcome.2;
    untouched = installs.untouched;
    saved = λ was honest other runs.
        let honest_then : IsHonest device (host_in live old) =
        honest_before device (host_in live old) (host_in live new)
        installs.honesty_first installs.honesty_second honest in
        at_each live new (λ (s : HostState). HoldsState device s new)
        (installs.holds (was honest_then live.durable (running_seen live old))) other runs;
    settles = λ honest was. installs.moments (was honest live.durable (running_seen live old));
  }

  pub install_ok : Installs device live.durable old (Ok tt) new
      → TriesInstall device (host_in live old) (Ok tt) (host_in live new)
  install_ok installs = record {
    installs = λ other runs_too.
        at_each live old (λ (s : HostState). WasInstalled device s (host_in live old) (host_in live new)
        × Settles device s s (host_in live old) (host_in live new)) (
          installed installs,
          λ honest was. installs.moments (was honest live.durable (running_seen live old)),
        ) other runs_too;
    disks = record {
      failures = installs.failures;
      honesty_first = installs.honesty_first;
      honesty_second = installs.honesty_second;
      registered = refl;
    };
  }

  -- no device failed, and nothing changed
  refused_for : (refusal : HostRefusal) → (refusal ≡ the.DeviceFailed → ⊥) → InstallsWith old (Err refusal) new
      → InstallRefused (host_in live old) (refused_by refusal) (host_in live new)
  refused_for the.GenerationSpent not outcome = (outcome.0, ap (host_in live) outcome.1)
  refused_for the.NoMemory not outcome = (outcome.0, ap (host_in live) outcome.1)
  refused_for the.DeviceFailed not outcome = absurd (not refl)
  refused_for _ not outcome = absurd outcome

  pub install_refused : (refusal : HostRefusal) → (refusal ≡ the.DeviceFailed → ⊥)
      → Installs device live.durable old (Err refusal) new
      → TriesInstall device (host_in live old) (Err refusal) (host_in live new)
  install_refused refusal not installs = record {
    installs = λ other runs_too.
        at_each live old (λ (s : HostState).
        InstallRefused (host_in live old) (refused_by refusal) (host_in live new)
        × Settles device s s (host_in live old) (host_in live new)) (
          refused_for refusal not installs.outcome,
          λ honest was. installs.moments (was honest live.durable (running_seen live old)),
        ) other runs_too;
    disks = record {
      failures = installs.failures;
      honesty_first = installs.honesty_first;
      honesty_second = installs.honesty_second;
      registered = refl;
    };
  }

  -- a device failed, and the host has to be reopened
  pub install_failed : Installs device live.durable old (Err the.DeviceFailed) new
      → TriesInstall device (host_in live old) (Err the.DeviceFailed)
      (host_stopped B live.durable.registered live.durable.state.seq new)
  install_failed installs = record {
    installs = λ other runs_too.
        at_each live old (λ (s : HostState).
        InstallRefused (host_in live old) (refused_by the.DeviceFailed)
        (host_stopped B live.durable.registered live.durable.state.seq new)
        × Settles device s s (host_in live old) (host_stopped B live.durable.registered live.durable.state.seq new)) (
          (installs.outcome.0, record { stopped = refl; seq_same = refl }, installs.untouched),
          λ honest was. installs.moments (was honest live.durable (running_seen live old)),
        ) other runs_too;
    disks = record {
      failures = installs.failures;
      honesty_first = installs.honesty_first;
      honesty_second = installs.honesty_second;
      registered = refl;
    };
  }

-- ---- a record more

module _ {D B : Type 0} (device : Device D) (live : LiveState B) (old new : Journal D) where
  commits_moments : (done : Result (Unit {0}) HostRefusal) → Adds device live old done new
      → (before : HostState) (other : LiveState B) → Some live ≡ Some other → IsBefore other before
      → HoldsState device before old → ExtendsHistory device before other.durable old new
  commits_moments done adds before other is =
      at_live live (λ (l : LiveState B). IsBefore l before → HoldsState device before old
      → ExtendsHistory device before l.durable old new) (adds.moments before) other is

  -- the record is there
  pub commit_ok : (seq : ℕ) → Adds device live old (Ok tt) new
      → Commits device seq (host_in live old) (Ok tt) (host_in live new)
  commit_ok seq adds = record {
    outcome = λ other is.
        at_live live (λ (l : LiveState B). CommitsWith device seq l (host_in live old) (Ok tt) (host_in live new))
        (running_seen live new, refl, adds.outcome.1, adds.untouched) other is;
    holds = λ before other is.
        at_live live (λ (l : LiveState B). IsBefore l before → HoldsState device before old
        → HoldsState device l.durable new) (adds.holds before) other is;
    moments = λ before other is. commits_moments (Ok tt) adds before other is;
    disks = record {
      failures = adds.failures;
      honesty_first = adds.honesty_first;
      honesty_second = adds.honesty_second;
      registered = refl;
    };
  }

lost_for : {D B : Type 0} (device : Device D) (live : LiveState B) (refusal : HostRefusal) (old new : Journal D)
    → AddsWith device live old (Err refusal) new → LeavesOther old new → WasLost old (refused_by refusal) new
lost_for device live the.NoMemory old new outcome untouched = outcome
lost_for device live the.DeviceFailed old new outcome untouched = untouched
lost_for device live _ old new outcome untouched = absurd outcome

-- it is not, or it is in doubt
pub commit_err : {D B : Type 0} (device : Device D) (live : LiveState B) (old new : Journal D) (seq : ℕ)
    (refusal : HostRefusal) → Adds device live old (Err refusal) new
    → Commits device seq (host_in live old) (Err refusal) (host_stopped B live.durable.registered seq new)
commit_err {D} {B} device live old new seq refusal adds = record {
  outcome = λ other is.
      at_live live (λ (l : LiveState B). CommitsWith device seq l (host_in live old) (Err refusal)
      (host_stopped B live.durable.registered seq new))
      (refl, refl, lost_for device live refusal old new adds.outcome adds.untouched) other is;
  holds = tt;
  moments = λ before other is. commits_moments device live old new (Err refusal) adds before other is;
  disks = record {
    failures = adds.failures;
    honesty_first = adds.honesty_first;
    honesty_second = adds.honesty_second;
    registered = refl;
  };
}

-- ---- room

-- what was installed has no records
empty_room : {D B : Type 0} (device : Device D) (request : Request) (state : HostState) (old : Hosted D B)
    (result : Result (Unit {0}) HostRefusal) (new : Hosted D B) → InstallsInto device state old result new
    → OnOk result (MayAdd request → IsFull new → ⊥)
empty_room device request state old (Ok done) new into = λ adds full. omega (arith, into.emptied, full)
empty_room device request state old (Err refusal) new into = tt

-- a request that may add a record wants a new generation where the records are long enough
pub full_wants : {D B : Type 0} (request : Request) (host : Hosted D B) → MayAdd request → IsFull host
    → WantsInstall request host
full_wants Snapshot host adds full = tt
full_wants request host adds full = (adds, full)

-- a host may want a new generation before a request, or not
full_or_not : {D B : Type 0} (host : Hosted D B) → (Unit {0} × IsFull host → ⊥) ⊎ (Unit {0} × IsFull host)
full_or_not host = elim (cases_lt (record_bytes host.journal) full_record_bytes) [
  | inl small ↦ inl (λ wants. let full = wants.1 in omega (arith, small, full))
  | inr full ↦ inr (tt, full)
]

pub wants_or_not : {D B : Type 0} (request : Request) (host : Hosted D B) → (WantsInstall request host → ⊥)
    ⊎ WantsInstall request host
wants_or_not (Load name source) host = full_or_not host
wants_or_not (Call module_name function arguments) host = full_or_not host
wants_or_not (Discard name) host = full_or_not host
wants_or_not (Get module_name name) host = inl (λ wants. wants.0)
wants_or_not (Object number) host = inl (λ wants. wants.0)
wants_or_not Seq host = inl (λ wants. wants.0)
wants_or_not Snapshot host = inr tt

-- each live state that a host has is of the state in which it runs
abbrev pub RunsInIts : {D B : Type 0} → Hosted D B → Type 0
RunsInIts {D} {B} host = (live : LiveState B) → host.live ≡ Some live → IsRunning live.durable host

-- a host as it is seen does
pub runs_seen : {D B : Type 0} (stopped : Option ℕ) (engine : EngineState B) (journal : Journal D)
    → HasRegistered engine → RunsInIts (seen_host stopped engine journal)
runs_seen {D} {B} None engine journal has live is =
    subst (λ (host : Hosted D B). IsRunning live.durable host) (sym (seen_in engine live journal is has))
    (running_seen live journal)
runs_seen (Some seq) engine journal has live is = let h : None ≡ Some live = is in absurd (cc)

pub sound_seen : {D B : Type 0} (G : Ghosts B) (stopped : Option ℕ) (engine : EngineState B) (journal : Journal D)
    → ((live : LiveState B) → engine.live ≡ Some live → IsSound G live)
    → RunsSound G (seen_host stopped engine journal)
sound_seen G None engine journal sound live is = sound live is
sound_seen G (Some seq) engine journal sound live is = let h : None ≡ Some live = is in absurd (cc)

pub some_live : {B : Type 0} (known : Option (LiveState B)) → IsSome known → (live : LiveState B) × (known ≡ Some live)
some_live None runs = absurd (cc)
some_live (Some live) runs = (live, refl)

-- there is room
pub room_enough : {D B : Type 0} (device : Device D) (request : Request) (host : Hosted D B) → RunsInIts host
    → (WantsInstall request host → ⊥) → MakesRoom device request host (Ok tt) host
room_enough device request host runs not = record {
  runs = runs;
  enough = λ other running none. (refl, refl);
  wanted = λ other running wants. absurd (not wants);
  room = λ adds full. not (full_wants request host adds full);
  disks = untouched_disks device host;
}

-- there is none, and a new generation was to be installed
pub room_wanted : {D B : Type 0} (device : Device D) (request : Request) (host : Hosted D B)
    (result : Result (Unit {0}) HostRefusal) (new : Hosted D B) → IsSome host.live → RunsInIts host
    → WantsInstall request host → TriesInstall device host result new → MakesRoom device request host result new
room_wanted device request host result new has runs wants tries =
    let known = some_live host.live has in
    record {
      runs = runs;
      enough = λ other running none. absurd (none wants);
      wanted = λ other running again. tries;
      room = empty_room device request known.0.durable host result new
          (tries.installs known.0.durable (runs known.0 known.1)).0;
      disks = tries.disks;
    }

-- ---- a host as it is seen

-- A host that is seen so has a live state.
pub record Sees {D B : Type 0} (stopped : Option ℕ) (engine : EngineState B) (journal : Journal D)
    (host : Hosted D B) : Type 0 where
  pub live : LiveState B
  pub runs : stopped ≡ None
  pub live_is : engine.live ≡ Some live
  pub registered_is : live.durable.registered ≡ engine.registered
  pub seen : host_in live journal ≡ host
  pub later : (new : Journal D) → host_in live new ≡ seen_host stopped engine new

pub sees : {D B : Type 0} (stopped : Option ℕ) (engine : EngineState B) (journal : Journal D) (host : Hosted D B)
    → IsSome host.live → seen_host stopped engine journal ≡ host → HasRegistered engine
    → Sees stopped engine journal host
sees {D} {B} (Some seq) engine journal host has is registered =
    let known = some_live host.live has in
    let h : None ≡ Some known.0 = ap (λ (other : Hosted D B). other.live) is ∙ known.1 in
    absurd (cc)
sees {D} {B} None engine journal host has is registered =
    let known = some_live host.live has in
    let live_is : engine.live ≡ Some known.0 = ap (λ (other : Hosted D B). other.live) is ∙ known.1 in
    record {
      live = known.0;
      runs = refl;
      live_is = live_is;
      registered_is = registered known.0 live_is;
      seen = sym (seen_in engine known.0 journal live_is registered) ∙ is;
      later = λ new. sym (seen_in engine known.0 new live_is registered);
    }

module _ {D B : Type 0} (stopped : Option ℕ) (engine : EngineState B) (old new : Journal D) (host : Hosted D B)
    (seen : Sees stopped engine old host) where
  -- it may write on
  pub ready_seen : IsReady new → IsReadyUnless stopped engine.live new
  ready_seen ready =
      subst (λ (s : Option ℕ). IsReadyUnless s engine.live new) (sym seen.runs)
      (subst (λ (l : Option (LiveState B)). IsSome l) (sym seen.live_is) refl, ready)

  -- the host that has to be reopened, as it is seen
  stopped_seen : (seq : ℕ) → host_stopped B seen.live.durable.registered seq new ≡ seen_host (Some seq) engine new
  stopped_seen seq = ap (λ (r : List Registration). host_stopped B r seq new) seen.registered_is

  module _ (device : Device D) where
    pub commit_seen : (seq : ℕ)
        → ((live : LiveState B) → engine.live ≡ Some live → Adds device live old (Ok tt) new)
        → Commits device seq host (Ok tt) (seen_host stopped engine new)
    commit_seen seq adds =
        subst (λ (h : Hosted D B). Commits device seq h (Ok tt) (seen_host stopped engine new)) seen.seen
        (subst (λ (h : Hosted D B). Commits device seq (host_in seen.live old) (Ok tt) h) (seen.later new)
        (commit_ok device seen.live old new seq (adds seen.live seen.live_is)))

    pub commit_lost : (seq : ℕ) (refusal : HostRefusal)
        → ((live : LiveState B) → engine.live ≡ Some live → Adds device live old (Err refusal) new)
        → Commits device seq host (Err refusal) (seen_host (Some seq) engine new)
    commit_lost seq refusal adds =
        subst (λ (h : Hosted D B). Commits device seq h (Err refusal) (seen_host (Some seq) engine new)) seen.seen
        (subst (λ (h : Hosted D B). Commits device seq (host_in seen.live old) (Err refusal) h) (stopped_seen seq)
        (commit_err device seen.live old new seq refusal (adds seen.live seen.live_is)))

    pub install_seen : ((live : LiveState B) → engine.live ≡ Some live → Installs device live.durable old (Ok tt) new)
        → TriesInstall device host (Ok tt) (seen_host stopped engine new)
    install_seen installs =
        subst (λ (h : Hosted D B). TriesInstall device h (Ok tt) (seen_host stopped engine new)) seen.seen
        (subst (λ (h : Hosted D B). TriesInstall device (host_in seen.live old) (Ok tt) h) (seen.later new)
        (install_ok device seen.live old new (installs seen.live seen.live_is)))

    pub install_put_off : (refusal : HostRefusal) → (refusal ≡ the.DeviceFailed → ⊥)
        → ((live : LiveState B) → engine.live ≡ Some live → Installs device live.durable old (Err refusal) new)
        → TriesInstall device host (Err refusal) (seen_host stopped engine new)
    install_put_off refusal not installs =
        subst (λ (h : Hosted D B). TriesInstall device h (Err refusal) (seen_host stopped engine new)) seen.seen
        (subst (λ (h : Hosted D B). TriesInstall device (host_in seen.live old) (Err refusal) h) (seen.later new)
        (install_refused device seen.live old new refusal not (installs seen.live seen.live_is)))

    pub install_lost : (seq : ℕ) → ((live : LiveState B) → engine.live ≡ Some live → seq ≡ live.durable.state.seq)
        → ((live : LiveState B) → engine.live ≡ Some live
        → Installs device live.durable old (Err the.DeviceFailed) new)
        → TriesInstall device host (Err the.DeviceFailed) (seen_host (Some seq) engine new)
    install_lost seq seq_is installs =
        subst (λ (h : Hosted D B). TriesInstall device h (Err the.DeviceFailed) (seen_host (Some seq) engine new))
        seen.seen
        (subst (λ (h : Hosted D B). TriesInstall device (host_in seen.live old) (Err the.DeviceFailed) h)
        (stopped_seen seq)
        (subst (λ (n : ℕ). TriesInstall device (host_in seen.live old) (Err the.DeviceFailed)
        (host_stopped B seen.live.durable.registered n new)) (sym (seq_is seen.live seen.live_is))
        (install_failed device seen.live old new (installs seen.live seen.live_is))))

-- a host that is seen to run has a live state
pub seen_some : {D B : Type 0} (stopped : Option ℕ) (engine : EngineState B) (journal : Journal D) (host : Hosted D B)
    → stopped ≡ None → IsReadyUnless stopped engine.live journal → seen_host stopped engine journal ≡ host
    → (live : LiveState B) × (engine.live ≡ Some live) × (host.live ≡ Some live)
seen_some (Some seq) engine journal host runs ready is = absurd (cc)
seen_some {D} {B} None engine journal host runs ready is =
    let known = some_live engine.live ready.0 in
    (known.0, known.1, sym (ap (λ (h : Hosted D B). h.live) is) ∙ known.1)

-- where no device failed a new generation that was not installed left the journal as it was
pub unchanged_for : {D : Type 0} (refusal : HostRefusal) (old new : Journal D) → (refusal ≡ the.DeviceFailed → ⊥)
    → InstallsWith old (Err refusal) new → new ≡ old
unchanged_for the.GenerationSpent old new not outcome = outcome.1
unchanged_for the.NoMemory old new not outcome = outcome.1
unchanged_for the.DeviceFailed old new not outcome = absurd (not refl)
unchanged_for _ old new not outcome = absurd outcome
