-- These definitions say how far each place is from one that paths lead to: how many places are between them.
use Rattle.std.specs.Prelude.{◌≡◌, ℕ, ◌+◌, ◌<◌, ◌≤◌, ◌⊎◌, List, [], length, map, Option, Some, None}
use Rattle.std.specs.List.{Contains, slice_index_or, count_by}
use Rattle.std.specs.Option.{is_none}
use Rattle.std.specs.declared.vec.Vec.{Vec}
use Rattle.std.specs.declared.alloc.Global.{Global}
use Rattle.ash_class_cycles.specs.Paths.{IsPath}

-- `rows_of table` has for each place those that go to it.
abbrev pub rows_of : List (Vec ℕ Global) → List (List ℕ)
rows_of table = map (λ row. row.items) table

-- The row of the second place has the first.
abbrev pub Goes : List (List ℕ) → ℕ → ℕ → Type 0
Goes rows from to = Contains (slice_index_or rows to []) from

-- Each place in a row has a row.
abbrev pub AreWithin : List (List ℕ) → Type 0
AreWithin rows = (from to : ℕ) → Goes rows from to → from < length rows

-- The place is marked with this distance.
abbrev pub IsAt : List (Option ℕ) → ℕ → ℕ → Type 0
IsAt distances place distance = slice_index_or distances place None ≡ Some distance

-- The place is marked with this distance at most.
abbrev pub IsNear : List (Option ℕ) → ℕ → ℕ → Type 0
IsNear distances place most = (distance : ℕ) × IsAt distances place distance × (distance ≤ most)

-- One goes from the place to one of these.
abbrev pub GoesToOne : (ℕ → ℕ → Type 0) → List ℕ → ℕ → Type 0
GoesToOne Goes these from = (to : ℕ) × Contains these to × Goes from to

-- This is the first place at a distance that one goes to, or there is none.
abbrev pub IsNearest : (ℕ → ℕ → Type 0) → List (Option ℕ) → ℕ → ℕ → Option ℕ → Type 0
IsNearest Goes distances from distance None = (place : ℕ) → Goes from place → IsAt distances place distance → ⊥
IsNearest Goes distances from distance (Some place) =
    Goes from place × IsAt distances place distance
    × ((other : ℕ) → Goes from other → IsAt distances other distance → place ≤ other)

-- `unmarked distances` is how many places are not marked.
abbrev pub unmarked : List (Option ℕ) → ℕ
unmarked distances = count_by is_none distances

-- These places are marked with a distance where they had none, and are found thereby.
pub record Marks (These : ℕ → Type 0) (distance : ℕ) (old new : List (Option ℕ)) (before found : List ℕ) : Type 0 where
  pub long : length new ≡ length old
  pub unchanged : (place at : ℕ) → IsAt old place at → IsAt new place at
  pub marked : (place : ℕ) → These place → (at : ℕ) × IsAt new place at
  pub added : (place at : ℕ) → IsAt new place at
      → IsAt old place at ⊎ ((at ≡ distance) × These place × Contains found place)
  pub known : (place : ℕ) → Contains before place → Contains found place
  pub listed : (place : ℕ) → Contains found place → Contains before place ⊎ IsAt new place distance
  pub counted : unmarked new + length found ≡ unmarked old + length before

-- These are the fewest places between each place and one that it leads to, and none where no path leads there.
pub record AreDistances (Goes : ℕ → ℕ → Type 0) (places to : ℕ) (distances : List (Option ℕ)) : Type 0 where
  pub long : length distances ≡ places
  pub reached : (from distance : ℕ) → IsAt distances from distance
      → (between : List ℕ) × (length between ≡ distance) × IsPath Goes from between to
  pub least : (from : ℕ) (between : List ℕ) → IsPath Goes from between to → IsNear distances from (length between)
