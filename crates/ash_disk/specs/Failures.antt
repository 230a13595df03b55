-- These definitions say how a device counts its failures, and by which code a failure is reported.
use Rattle.std.specs.Prelude.{◌≡◌, ℕ, List, ◌+◌, ◌-◌, ◌^◌, ◌≤◌, min, Result, OnOk, OnErr, codes}
use Rattle.ash_disk.specs.declared.failure.DeviceFailed.{DeviceFailed}

-- `code_of failure` is its number and its name.
abbrev pub code_of : DeviceFailed → List ℕ
code_of _ = codes "507 DeviceFailed"

-- The count rose, unless it is the greatest that 64 bits hold.
abbrev pub Rose : ℕ → ℕ → Type 0
Rose old new = min (old + 1) (2 ^ 64 - 1) ≤ new

-- A call that fails is one more failure, and a call that does not fail is none.
pub record CountsFailure {T E : Type 0} (result : Result T E) (old new : ℕ) : Type 0 where
  pub never_falls : old ≤ new
  pub counted : OnErr result (Rose old new)
  pub none : OnOk result (new ≡ old)
