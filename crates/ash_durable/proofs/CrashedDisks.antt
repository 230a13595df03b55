-- What disks settle on that a crash left, that were only read, or that changed places.
use Rattle.std.proofs.Common.{◌≡◌, ℕ, List, Some, sym, ◌∙◌, subst, arith}
use Rattle.std.specs.Bool.{IsTrue}
use Rattle.ash_disk.specs.Device.{Device}
use Rattle.ash_disk.specs.Moments.{LeftSince}
use Rattle.ash_journal.proofs.SettleLaws.{settle_turned}
use Rattle.ash_states.specs.HostStates.{HostState}
use Rattle.ash_durable.specs.Hosting.{Hosted, first, second, IsRunning, IsSaved, IsHonest}
use Rattle.ash_durable.specs.StoredStates.{AreHonest, SettleSince, SettleNow, IsOne, HaveStateInTwo}
use Rattle.ash_durable.specs.Store.{WereOnlyRead}
use Rattle.ash_durable.specs.Lives.{AreLeft, BeginWith, Crashed}
use Rattle.ash_durable.proofs.Settling.{holds_now}

-- ---- files

pub runs_once : {D B : Type 0} (host : Hosted D B) (state other : HostState) → IsRunning state host
    → IsRunning other host
    → state ≡ other
runs_once host state other one two = let same : Some state ≡ Some other = sym one.state_is ∙ two.state_is in cc

module _ {D : Type 0} (device : Device D) where
  pub same_honesty : (a b a' b' : D) → AreHonest device a b → device.honest a' ≡ device.honest a
      → device.honest b' ≡ device.honest b → AreHonest device a' b'
  same_honesty a b a' b' honest one other = record {
    honest_first = subst IsTrue (sym one) honest.honest_first;
    honest_second = subst IsTrue (sym other) honest.honest_second;
  }

  -- what files settled on since earlier times, the disks settle on that take their place after a crash
  pub settle_crashed : (a b : ℕ) (x y x' y' : D) (P : HostState → Type 0) → SettleSince device a b x y P
      → Crashed device a b x y x' y' → SettleNow device x' y' P
  settle_crashed a b x y x' y' P run crash = record {
    first_began = omega arith;
    second_began = omega arith;
    moments = λ s t u v from_a s_end from_b t_end left_u left_v.
        let now_first : s ≡ device.clock x' = omega (arith, from_a, s_end) in
        let now_second : t ≡ device.clock y' = omega (arith, from_b, t_end) in
        let one = crash.left_first u (subst (λ (n : ℕ). device.leaves x' n u) now_first left_u) in
        let other = crash.left_second v (subst (λ (n : ℕ). device.leaves y' n v) now_second left_v) in
        run.moments one.0 other.0 u v one.1 one.2 other.1 other.2 one.3 other.3;
  }

  pub power_failure : (a b : ℕ) (x y x' y' : D) (u v : List ℕ) → AreLeft device a b x y u v → BeginWith device x' y' u v
      → Crashed device a b x y x' y'
  power_failure a b x y x' y' u v left begins = record {
    honest = begins.honest;
    left_first = λ image now. subst (LeftSince (device.clock x) (device.leaves x) a) (sym (begins.only_first image now))
        left.left_first;
    left_second = λ image now. subst (LeftSince (device.clock y) (device.leaves y) b)
        (sym (begins.only_second image now)) left.left_second;
  }

  pub process_end : (x y : D) → AreHonest device x y → Crashed device (device.clock x) (device.clock y) x y x y
  process_end x y honest = record {
    honest = honest;
    left_first = λ image now. (device.clock x, omega arith, omega arith, now);
    left_second = λ image now. (device.clock y, omega arith, omega arith, now);
  }

  -- disks that are only read settle on what they did
  pub settle_read : (x y x' y' : D) (P : HostState → Type 0) → AreHonest device x y → WereOnlyRead device x y x' y'
      → SettleNow device x y P → SettleSince device (device.clock x) (device.clock y) x' y' P
  settle_read x y x' y' P honest read run =
      let one = read.read_first.moments honest.honest_first in
      let other = read.read_second.moments honest.honest_second in
      record {
        first_began = one.later;
        second_began = other.later;
        moments = λ s t u v from_a s_end from_b t_end left_u left_v.
            run.moments (device.clock x) (device.clock y) u v (omega arith) (omega arith) (omega arith) (omega arith)
            (one.each s u from_a s_end left_u) (other.each t v from_b t_end left_v);
      }

  -- nor does it matter which disk is the first
  pub settle_swapped : (x y : D) (P : HostState → Type 0) → SettleNow device x y P → SettleNow device y x P
  settle_swapped x y P run = record {
    first_began = run.second_began;
    second_began = run.first_began;
    moments = λ s t u v from_a s_end from_b t_end left_u left_v. settle_turned (HaveStateInTwo P) v u
        (run.moments t s v u from_b t_end from_a s_end left_v left_u);
  }

  -- the files of a host that runs settle on its state alone
  pub held : {B : Type 0} (host : Hosted D B) (state : HostState) → IsHonest device host → IsSaved device host
      → IsRunning state host
      → SettleNow device (first host) (second host) (IsOne state)
  held host state honest saved running = holds_now device state host.journal (saved honest state running)
