-- These definitions say what a disk shows that fails from a chosen call on.
use Rattle.std.specs.Prelude.{◌≡◌, ℕ, ◌+◌, ◌-◌, ◌<◌, Result, IsErr}
use Rattle.ash_disk.specs.Failures.{CountsFailure}
use Rattle.ash_disk.specs.declared.fuse.FuseDisk.{FuseDisk}

-- `inner f` is the disk that calls are passed on to.
abbrev pub inner : {D : Type 0} → FuseDisk D → D
inner f = f.disk

-- `calls_left f` is how many more calls are passed on.
abbrev pub calls_left : {D : Type 0} → FuseDisk D → ℕ
calls_left f = f.calls_left

-- `all_failures failures f` are the failures of the disk, and the calls that were not passed on.
abbrev pub all_failures : {D : Type 0} → (D → ℕ) → FuseDisk D → ℕ
all_failures failures f = failures f.disk + f.stopped

-- One call was made of a failing disk. With no call left it fails and does not reach the disk in it. With some left
-- there is one less, and a failure is that of the disk in it.
pub record CountsCall {D T E : Type 0} (failures : D → ℕ) (result : Result T E) (old new : FuseDisk D) : Type 0 where
  pub one_less : calls_left new ≡ calls_left old - 1
  pub none_left : calls_left old ≡ 0 → IsErr result × (inner new ≡ inner old)
  pub passed : 0 < calls_left old → CountsFailure result (failures (inner old)) (failures (inner new))
