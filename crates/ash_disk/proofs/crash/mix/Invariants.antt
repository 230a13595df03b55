use Rattle.std.proofs.Common.{◌≡◌, ℕ, ◌<◌, length, get_or}
use Rattle.ash_disk.specs.DiskImage.{IsOutside}
use Rattle.ash_disk.proofs.crash.mix.Given as goal

-- what is outside the range is as it was
abbrev pub invariant-loop-i : goal.invariant-loop-i
invariant-loop-i l =
    (place : ℕ) → place < length l.initial.image → IsOutside l.at (length l.bytes) place
    → get_or l.image place 0 ≡ get_or l.initial.image place 0
