-- These definitions say how two devices count their failures.
use Rattle.std.specs.Prelude.{◌≡◌, ◌⊎◌, ℕ, ◌≤◌}
use Rattle.ash_disk.specs.Device.{Device}
use Rattle.ash_disk.specs.Failures.{Rose}

-- No count falls. Where the answer is that a device failed, one of them rose, and where it is another, none did.
pub record CountsFailures (failed : Type 0) (first second first_after second_after : ℕ) : Type 0 where
  pub first_never_falls : first ≤ first_after
  pub second_never_falls : second ≤ second_after
  pub counted : failed → Rose first first_after ⊎ Rose second second_after
  pub none : (failed → ⊥) → (first_after ≡ first) × (second_after ≡ second)

-- The counts of two disks say the same of calls that took these disks to others.
abbrev pub CountsFailuresOf : {D : Type 0} → Device D → Type 0 → D → D → D → D → Type 0
CountsFailuresOf device failed first second first_after second_after =
    CountsFailures failed (device.failures first) (device.failures second) (device.failures first_after)
    (device.failures second_after)
