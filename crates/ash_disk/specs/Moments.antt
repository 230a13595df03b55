-- These definitions say what a crash at each time of a disk leaves, and at each pair of times of two disks.
use Rattle.std.specs.Prelude.{ℕ, ◌≤◌, List}

-- Calls took a disk from one time to another. A crash at any moment of them, from the start to the return, leaves only
-- images with P. What a crash at an earlier time might have left is what it was before, no more and no less, so no call
-- can make a past image undone.
pub record HoldsDuring (start end : ℕ) (before after : ℕ → List ℕ → Type 0) (P : List ℕ → Type 0) : Type 0 where
  pub later : start ≤ end
  pub kept : (time : ℕ) (image : List ℕ) → time ≤ start → before time image → after time image
  pub no_more : (time : ℕ) (image : List ℕ) → time ≤ start → after time image → before time image
  pub each : (time : ℕ) (image : List ℕ) → start ≤ time → time ≤ end → after time image → P image

-- A crash at some moment from a time on, up to now, may have left the image.
abbrev pub LeftSince : ℕ → (ℕ → List ℕ → Type 0) → ℕ → List ℕ → Type 0
LeftSince now leaves since image = (time : ℕ) × (since ≤ time) × (time ≤ now) × leaves time image

-- At every moment of two disks, one time of each, the first from a to a' and the second from b to b', R holds of every
-- two images that these times may leave. The times need not have come together, as a crash may come early in a call of
-- one disk and late in one of the other.
abbrev pub EveryMoment : ℕ → ℕ → (ℕ → List ℕ → Type 0) → ℕ → ℕ → (ℕ → List ℕ → Type 0)
    → (List ℕ → List ℕ → Type 0) → Type 0
EveryMoment a a' first b b' second R =
    (s t : ℕ) (x y : List ℕ) → a ≤ s → s ≤ a' → b ≤ t → t ≤ b' → first s x → second t y → R x y
