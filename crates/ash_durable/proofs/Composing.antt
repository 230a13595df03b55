-- How what a host's files settle on goes on over the parts of a request: a new generation first, where one is wanted,
-- and then a record more.
use Rattle.std.proofs.Common.{◌≡◌, inl, inr, ℕ, IsSome, Option, Some, None, Ok, refl, sym, ◌∙◌, ap, subst, arith}
use Rattle.std.proofs.Common.{IsTrue}
use Rattle.ash_disk.specs.Device.{Device}
use Rattle.ash_journal.specs.JournalFailures.{CountsFailures}
use Rattle.ash_requests.specs.Requests.{Request}
use Rattle.ash_states.specs.HostStates.{HostState}
use Rattle.ash_engine.specs.LiveStates.{LiveState}
use Rattle.ash_durable.specs.StoredStates.{IsOne, IsEither, SettleSince, HoldsState, ExtendsHistory}
use Rattle.ash_durable.specs.Saving.{FailsBy}
use Rattle.ash_durable.specs.Hosting.{Hosted, first, second, IsRunning, IsHonest, IsSaved, Settles, WantsInstall}
use Rattle.ash_durable.specs.Hosting.{MakesRoomFor, durable_in}
use Rattle.ash_durable.specs.HostRequests.{PreservesDisks, TriesInstall}
use Rattle.ash_durable.proofs.Settling.{settle_on_more, holds_now}

-- ---- states

-- a host runs in one state
pub runs_in : {D B : Type 0} (host : Hosted D B) (a b : HostState) → IsRunning a host → IsRunning b host → a ≡ b
runs_in host a b one other = let h : Some a ≡ Some b = sym one.state_is ∙ other.state_is in cc

-- a host that must be reopened runs in none
pub stopped_runs : {D B : Type 0} (host : Hosted D B) (state : HostState) → host.live ≡ None → IsRunning state host → ⊥
stopped_runs {D} {B} host state none runs =
    let h : None ≡ Some state = sym (ap (λ (l : Option (LiveState B)). durable_in l) none) ∙ runs.state_is in cc

-- a live state of a host that runs is that of the state in which it runs
pub live_runs : {D B : Type 0} (host : Hosted D B) (live : LiveState B) (state : HostState) → host.live ≡ Some live
    → IsRunning state host → live.durable ≡ state
live_runs {D} {B} host live state is runs =
    let h : Some live.durable ≡ Some state =
    sym (ap (λ (l : Option (LiveState B)). durable_in l) is) ∙ runs.state_is in cc

-- what is there
pub some_known : {A : Type 0} (known : Option A) → IsSome known → (x : A) × (known ≡ Some x)
some_known None there = absurd (cc)
some_known (Some x) there = (x, refl)

-- of a state in which a host runs there is a live state
pub live_there : {B : Type 0} (known : Option (LiveState B)) (state : HostState) → durable_in known ≡ Some state
    → (live : LiveState B) × (known ≡ Some live) × (live.durable ≡ state)
live_there None state is = absurd (cc)
live_there (Some live) state is = (live, refl, cc)

-- a host that has room has the live state that it had
pub room_same : {D B : Type 0} (device : Device D) (request : Request) (live : LiveState B) (old between : Hosted D B)
    → MakesRoomFor device request live.durable old between → between.live ≡ old.live
room_same {D} {B} device request live old between (inl none) = ap (λ (host : Hosted D B). host.live) none.1
room_same device request live old between (inr some) = some.1.live_same

-- ---- disks

module _ {D B : Type 0} (device : Device D) where
  pub honest_before : (old new : Hosted D B) → device.honest (first new) ≡ device.honest (first old)
      → device.honest (second new) ≡ device.honest (second old) → IsHonest device new → IsHonest device old
  honest_before old new one two honest = record {
    honest_first = subst IsTrue one honest.honest_first;
    honest_second = subst IsTrue two honest.honest_second;
  }

  pub honest_after : (old new : Hosted D B) → device.honest (first new) ≡ device.honest (first old)
      → device.honest (second new) ≡ device.honest (second old) → IsHonest device old → IsHonest device new
  honest_after old new one two honest = record {
    honest_first = subst IsTrue (sym one) honest.honest_first;
    honest_second = subst IsTrue (sym two) honest.honest_second;
  }

-- the same failures, said otherwise
pub counts_as : (F G : Type 0) (a b c d : ℕ) → (F → G) → (G → F) → CountsFailures F a b c d → CountsFailures G a b c d
counts_as F G a b c d to from counts = record {
  first_never_falls = counts.first_never_falls;
  second_never_falls = counts.second_never_falls;
  counted = λ failed. counts.counted (from failed);
  none = λ not. counts.none (λ failed. not (to failed));
}

-- disks that stay as they are
pub counts_none : (F : Type 0) (a b : ℕ) → (F → ⊥) → CountsFailures F a b a b
counts_none F a b not = record {
  first_never_falls = omega arith;
  second_never_falls = omega arith;
  counted = λ failed. absurd (not failed);
  none = λ _. (refl, refl);
}

-- a call in which no device failed, and then another
pub counts_then : (F G : Type 0) (a b c d e f : ℕ) → (F → ⊥) → CountsFailures F a b c d → CountsFailures G c d e f
    → CountsFailures G a b e f
counts_then F G a b c d e f not one other =
    let same = one.none not in
    subst (λ (n : ℕ). CountsFailures G n b e f) same.0 (subst (λ (n : ℕ). CountsFailures G c n e f) same.1 other)

-- a call that touches no disk
pub untouched_disks : {D B : Type 0} (device : Device D) (host : Hosted D B)
    → PreservesDisks {T = Unit {0}} device host (Ok tt) host
untouched_disks device host = record {
  failures = counts_none (FailsBy {T = Unit {0}} (Ok tt)) (device.failures (first host))
      (device.failures (second host)) (λ failed. failed);
  honesty_first = refl;
  honesty_second = refl;
  registered = refl;
}

-- ---- what files settle on

either_same : (state other : HostState) → IsEither state state other → IsOne state other
either_same state other either = elim either [ inl is ↦ is | inr is ↦ is ]

-- ---- the first part

-- A host that runs has room for a request: since the request began its files settle on its state.
pub record HadRoom {D B : Type 0} (device : Device D) (request : Request) (state : HostState)
    (old between : Hosted D B) : Type 0 where
  pub began : IsRunning state old
  pub room : MakesRoomFor device request state old between
  pub running : IsRunning state between
  pub live_same : between.live ≡ old.live
  pub saved : IsSaved device old → IsSaved device between
  pub settled : IsHonest device old → IsSaved device old
      → SettleSince device (device.clock (first old)) (device.clock (second old)) (first between) (second between)
      (IsOne state)
  pub disks : PreservesDisks {T = Unit {0}} device old (Ok tt) between

module _ {D B : Type 0} (device : Device D) where
  -- no new generation was wanted
  pub room_as_it_is : (request : Request) (state : HostState) (host : Hosted D B) → (WantsInstall request host → ⊥)
      → IsRunning state host → HadRoom device request state host host
  room_as_it_is request state host not runs = record {
    began = runs;
    room = inl (not, refl);
    running = runs;
    live_same = refl;
    saved = λ was. was;
    settled = λ honest was. holds_now device state host.journal (was honest state runs);
    disks = untouched_disks device host;
  }

  -- one was, and was installed
  pub room_installed : (request : Request) (state : HostState) (old between : Hosted D B) → WantsInstall request old
      → IsRunning state old → TriesInstall device old (Ok tt) between → HadRoom device request state old between
  room_installed request state old between wanted runs tries =
      let installs = tries.installs state runs in
      record {
        began = runs;
        room = inr (wanted, installs.0);
        running = installs.0.running;
        live_same = installs.0.live_same;
        saved = installs.0.saved;
        settled = λ honest was. settle_on_more device (device.clock (first old)) (device.clock (second old))
            (first between) (second between) (IsEither state state) (IsOne state) (installs.1 honest was)
            (λ other either. either_same state other either);
        disks = tries.disks;
      }

-- ---- the second part

module _ {D B : Type 0} (device : Device D) (request : Request) (state : HostState) (old between : Hosted D B)
    (room : HadRoom device request state old between) where
  honest_between : IsHonest device old → IsHonest device between
  honest_between honest = honest_after device old between room.disks.honesty_first room.disks.honesty_second honest

  -- the files of a host that has room hold its state
  pub held_between : IsHonest device between → IsSaved device old → HoldsState device state between.journal
  held_between honest was = room.saved was honest state room.running

  -- nothing more was written
  pub settles_as_it_is : Settles device state state old between
  settles_as_it_is = λ honest was.
      settle_on_more device (device.clock (first old)) (device.clock (second old)) (first between) (second between)
      (IsOne state) (IsEither state state) (room.settled honest was) (λ other is. inl is)

  -- One record more was written, or not. Since the request began the files settle on the state before it, and then on
  -- this or the one after it.
  pub settles_added : (after : HostState) (new : Hosted D B)
      → (HoldsState device state between.journal → ExtendsHistory device state after between.journal new.journal)
      → Settles device state after old new
  settles_added after new goes_on = λ honest was.
      goes_on (held_between (honest_between honest) was) (device.clock (first old)) (device.clock (second old))
      (room.settled honest was)
