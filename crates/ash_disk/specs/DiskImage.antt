-- These definitions say what a write does to a file, and what a crash may do to it before the next sync.
use Rattle.std.specs.Prelude.{◌≡◌, ◌⊎◌, ℕ, ◌+◌, ◌<◌, ◌≤◌, max, List, ◌++◌, length, take, drop, slice_index, refl}
use Rattle.std.proofs.Common.{⊎_elim, get_or, arith, length-append, length-take, length-drop}
use Rattle.std.proofs.lemmas.List.{places}

-- `bytes_at file at n` are n bytes of the file, from an offset on.
abbrev pub bytes_at : List ℕ → ℕ → ℕ → List ℕ
bytes_at file at n = take n (drop at file)

-- `after_write file at bytes` is the file with these bytes at an offset, over what was there and past the end.
abbrev pub after_write : List ℕ → ℕ → List ℕ → List ℕ
after_write file at bytes = take at file ++ bytes ++ drop (at + length bytes) file

-- The place is before or after a range of n bytes.
abbrev pub IsOutside : ℕ → ℕ → ℕ → Type 0
IsOutside at n place = (place < at) ⊎ (at + n ≤ place)

-- A write of n bytes that a crash cuts short may leave this: any bytes in its range and past the old end, the old ones
-- elsewhere, and any length between the old one and that after the whole write.
pub record Torn (at n : ℕ) (old new : List ℕ) : Type 0 where
  pub outside : (place : ℕ) → place < length old → IsOutside at n place
      → slice_index new place ≡ slice_index old place
  pub no_shorter : length old ≤ length new
  pub no_longer : length new ≤ max (length old) (at + n)

-- A torn write may make the image of one of these images.
abbrev pub TornFrom : ℕ → ℕ → (List ℕ → Type 0) → List ℕ → Type 0
TornFrom at n images image = (old : List ℕ) × images old × Torn at n old image

-- The images are this file and nothing else.
abbrev pub LeavesOnly : List ℕ → (List ℕ → Type 0) → Type 0
LeavesOnly file images = (image : List ℕ) → images image → image ≡ file

-- A torn write may leave everything as it was.
pub torn_not : (at n : ℕ) (old : List ℕ) → Torn at n old old
torn_not at n old =
    record { outside = λ place within away. refl; no_shorter = omega arith; no_longer = omega arith }

-- What the whole write leaves is one of those that it may leave when it is torn.
pub torn_whole : (at : ℕ) (old bytes : List ℕ) → Torn at (length bytes) old (after_write old at bytes)
torn_whole at old bytes = record {
  outside = λ place within away. ⊎_elim (before place within) (after place within) away;
  no_shorter = omega (arith, long, length-take at old, length-drop (at + length bytes) old);
  no_longer = omega (arith, long, length-take at old, length-drop (at + length bytes) old);
}
  where
    long : length (after_write old at bytes)
        ≡ length (take at old) + length bytes + length (drop (at + length bytes) old)
    long = omega (
      arith,
      length-append (take at old ++ bytes) (drop (at + length bytes) old),
      length-append (take at old) bytes,
    )

    before : (place : ℕ) → place < length old → place < at
        → get_or (after_write old at bytes) place 0 ≡ get_or old place 0
    before place within near = search (arith, places)

    after : (place : ℕ) → place < length old → at + length bytes ≤ place
        → get_or (after_write old at bytes) place 0 ≡ get_or old place 0
    after place within far = search (arith, places)
