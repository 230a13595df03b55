-- These definitions say what two disks settled on since two earlier times.
use Rattle.std.specs.Prelude.{ℕ, ◌≤◌, List, min}
use Rattle.ash_disk.specs.Device.{Device, EveryMomentSince}
use Rattle.ash_journal.specs.Current.{Contents, SettleOn, SettleFurther}

-- At every pair of moments, one of the first disk from time a on and one of the second from time b on, up to now, the
-- images that a crash may have left settle on contents of which P holds.
pub record HoldsSince {D : Type 0} (device : Device D) (a b : ℕ) (first second : D) (P : Contents → Type 0)
    : Type 0 where
  pub first_began : a ≤ device.clock first
  pub second_began : b ≤ device.clock second
  pub moments : EveryMomentSince device a b first second (SettleOn P)

-- A crash might have left these two images of two disks by two times: at these times, or now where that is earlier.
pub record LeftEarlier {D : Type 0} (device : Device D) (first second : D) (s t : ℕ) (x y : List ℕ) : Type 0 where
  pub first_left : device.leaves first (min s (device.clock first)) x
  pub second_left : device.leaves second (min t (device.clock second)) y

-- Calls took two disks from old to new. At every pair of moments up to their return, what a crash leaves settles on new
-- contents, or on what it might have settled on at the same moments, or at the last before the calls. So whatever a run
-- says of contents up to the calls, it says up to their return of these and the new ones.
pub record Extends {D : Type 0} (device : Device D) (first second first_after second_after : D)
    (IsNew : Contents → Type 0) : Type 0 where
  pub first_later : device.clock first ≤ device.clock first_after
  pub second_later : device.clock second ≤ device.clock second_after
  pub moments : (s t : ℕ) (x y : List ℕ) → s ≤ device.clock first_after → t ≤ device.clock second_after
      → device.leaves first_after s x → device.leaves second_after t y
      → (u : List ℕ) × (v : List ℕ) × LeftEarlier device first second s t u v × SettleFurther IsNew u v x y

-- No contents are new.
abbrev pub NoContents : Contents → Type 0
NoContents contents = ⊥
