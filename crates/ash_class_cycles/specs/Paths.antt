-- These definitions speak of paths from place to place by a relation between them, of ranks of the places, and of the
-- cycle that is reported.
use Rattle.std.specs.Prelude.{◌≡◌, ℕ, ◌<◌, ◌≤◌, ◌⊎◌, List, [], ◌∷◌, length, slice_index, All}

-- A path leads from the first place to the last by those in between.
abbrev pub IsPath : (ℕ → ℕ → Type 0) → ℕ → List ℕ → ℕ → Type 0
IsPath Goes from [] to = Goes from to
IsPath Goes from (next ∷ between) to = Goes from next × IsPath Goes next between to

-- A path leads from one place to another in one or more steps.
abbrev pub Reaches : (ℕ → ℕ → Type 0) → ℕ → ℕ → Type 0
Reaches Goes from to = (between : List ℕ) × IsPath Goes from between to

-- Where the lists first differ, the number of the first is less, or the first ends no later than the second.
abbrev pub IsNoLater : List ℕ → List ℕ → Type 0
IsNoLater [] other = Unit {0}
IsNoLater (x ∷ xs) [] = ⊥
IsNoLater (x ∷ xs) (y ∷ ys) = (x < y) ⊎ ((x ≡ y) × IsNoLater xs ys)

-- The path is a shortest one, and among the shortest the one whose places come first.
pub record IsForemost (Goes : ℕ → ℕ → Type 0) (from : ℕ) (between : List ℕ) (to : ℕ) : Type 0 where
  pub path : IsPath Goes from between to
  pub shortest : (other : List ℕ) → IsPath Goes from other to → length between ≤ length other
  pub foremost : (other : List ℕ) → IsPath Goes from other to → length other ≡ length between → IsNoLater between other

-- The cycle that is reported goes from the first place that reaches itself by the foremost of its shortest paths back.
pub record IsReportedCycle (Goes : ℕ → ℕ → Type 0) (first : ℕ) (others : List ℕ) : Type 0 where
  pub cycle : IsForemost Goes first others first
  pub earliest : (other : ℕ) → Reaches Goes other other → first ≤ other

-- Each place has a rank below the number of places, which is greater than that of each place that one goes to from
-- there.
pub record AreRanksAlong (Goes : ℕ → ℕ → Type 0) (places : ℕ) (ranks : List ℕ) : Type 0 where
  pub count : length ranks ≡ places
  pub within : All (λ rank. rank < places) ranks
  pub greater : (from to : ℕ) → Goes from to → slice_index ranks to < slice_index ranks from
