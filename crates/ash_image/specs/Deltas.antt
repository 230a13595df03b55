-- What several requests changed, byte for byte: deltas in version 2, each of which leads on from where the one before it
-- leads.
use Rattle.std.specs.Prelude.{◌≡◌, ℕ, ◌≤◌, ◌==◌, ◌&&◌, nat_le, Bool, not, List, [], ◌∷◌, ◌++◌, length, map, Option}
use Rattle.std.specs.List.{flat_map, AllByRecursion}
use Rattle.ash_host.specs.Limits.{max_objects}
use Rattle.ash_image.specs.declared.version.Version.TheVariants.{Two}
use Rattle.ash_image.specs.declared.stored_delta.StoredDelta.{StoredDelta}
use Rattle.ash_image.specs.Fields.{checked_at, number_at, items_at}
use Rattle.ash_image.specs.Delta.{Delta, delta, FitsDelta}
use Rattle.ash_image.specs.DeltaReading.{delta_at}
use Rattle.ash_image.specs.DeltaViews.{delta_of}

-- the tag of a body that has several deltas
abbrev pub deltas_tag : ℕ
deltas_tag = 3

-- how many deltas a body has at most
abbrev pub max_deltas : ℕ
max_deltas = 16

-- how many deltas there are, in one byte, and each of them
abbrev pub deltas : List Delta → List ℕ
deltas ds = length ds ∷ flat_map delta ds

-- Deltas have a spelling: they are few, at least one, and each has a spelling in version 2.
pub record FitDeltas (ds : List Delta) : Type 0 where
  pub some : 1 ≤ length ds
  pub few : length ds ≤ max_deltas
  pub each : AllByRecursion (FitsDelta Two) ds

-- The bytes are the one spelling of these deltas.
abbrev pub IsDeltas : List ℕ → List Delta → Type 0
IsDeltas bytes ds = FitDeltas ds × (bytes ≡ deltas ds)

-- The bytes are the body of a record that leads on by these deltas: a tag, and the deltas.
abbrev pub IsDeltasBody : List ℕ → List Delta → Type 0
IsDeltasBody bytes ds = FitDeltas ds × (bytes ≡ deltas_tag ∷ deltas ds)

-- Of each delta no more objects are gone than live at most.
abbrev pub HaveFewGone : List Delta → Type 0
HaveFewGone ds = AllByRecursion (λ (d : Delta). length d.gone ≤ max_objects) ds

-- reading

-- a count that deltas may have
abbrev pub is_count : ℕ → Bool
is_count n = not (n == 0) && nat_le n max_deltas

-- a count that deltas may have, and so many deltas
unfoldable pub deltas_at : List ℕ → Option (List Delta × List ℕ)
deltas_at = items_at (checked_at is_count (number_at 1)) (delta_at Two)

-- what was read
abbrev pub deltas_of : List StoredDelta → List Delta
deltas_of ds = map delta_of ds
