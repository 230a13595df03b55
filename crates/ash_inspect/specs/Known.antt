-- A state that is known of a generation.
use Rattle.std.specs.Prelude.{◌≡◌, ℕ, ◌≤◌, List, Option, Some, length, take}
use Rattle.ash_image.specs.declared.version.Version.{Version}
use Rattle.ash_image.specs.Snapshots.{Snapshot}
use Rattle.ash_image.specs.SnapshotViews.{snapshot_of}
use Rattle.ash_replay.specs.Replay.{IsStateIn}
use Rattle.ash_inspect.specs.declared.known.KnownState.{KnownState}

-- The state is the one to which the first records after the image lead.
pub record IsKnown (known : KnownState) (image : List ℕ) (bodies : List (List ℕ)) : Type 0 where
  pub within : known.records ≤ length bodies
  pub leads : IsStateIn known.stored.version (image, take known.records bodies) (snapshot_of known.stored.state)

-- the state of so many records is known
abbrev pub IsKnownOf : ℕ → Option KnownState → Type 0
IsKnownOf count found = (known : KnownState) × (found ≡ Some known) × (known.records ≡ count)

-- an image and these records lead to no state
abbrev pub LeadToNone : List ℕ → List (List ℕ) → Type 0
LeadToNone image bodies = (version : Version) (s : Snapshot) → IsStateIn version (image, bodies) s → ⊥
