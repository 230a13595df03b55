-- Where an image and the records after it lead.
use Rattle.std.specs.Prelude.{◌≡◌, ◌⊎◌, ℕ, List, [], ◌∷◌}
use Rattle.ash_journal.specs.Current.{Contents}
use Rattle.ash_image.specs.declared.version.Version.{Version}
use Rattle.ash_image.specs.declared.version.Version.TheVariants.{Two}
use Rattle.ash_image.specs.Snapshots.{Snapshot}
use Rattle.ash_image.specs.Image.{FitsVersion}
use Rattle.ash_image.specs.Rules.{KeepsRules, IsImage, IsImageBody}
use Rattle.ash_image.specs.Delta.{Delta, IsDelta, delta_tag}
use Rattle.ash_image.specs.Deltas.{IsDeltas, deltas_tag}
use Rattle.ash_image.specs.Leading.{NamedSnapshot, named, Leads, IsOrdered}

-- The body of a record has an image: it leads to the state of that image, if the text of what was registered is the
-- same.
pub record LeadsByImage (version : Version) (body : List ℕ) (before after : NamedSnapshot) : Type 0 where
  pub state : Snapshot
  pub is_body : IsImageBody body version state
  pub registered : state.registered ≡ before.registered
  pub after_is : after ≡ named state

-- The bytes are a delta, which leads from the state to one whose modules ascend by name and whose objects ascend by
-- number.
pub record LeadsByDelta (version : Version) (bytes : List ℕ) (before after : NamedSnapshot) : Type 0 where
  pub changes : Delta
  pub is_delta : IsDelta bytes version changes
  pub leads : Leads changes before after
  pub ordered : IsOrdered after

-- Deltas lead from a state to another, one after the other, each to one whose modules ascend by name and whose objects
-- ascend by number.
abbrev pub LeadOneByOne : List Delta → NamedSnapshot → NamedSnapshot → Type 0
LeadOneByOne [] before after = after ≡ before
LeadOneByOne (d ∷ ds) before after =
    (next : NamedSnapshot) × Leads d before next × IsOrdered next × LeadOneByOne ds next after

-- The bytes are several deltas, which version 2 alone has, and they lead from the state to the other.
pub record LeadsByDeltas (version : Version) (bytes : List ℕ) (before after : NamedSnapshot) : Type 0 where
  pub in_two : version ≡ Two
  pub changes : List Delta
  pub are_deltas : IsDeltas bytes changes
  pub lead : LeadOneByOne changes before after

-- The body of a record leads from a state to the next, whatever the rules of a state are: by an image, by a tag and a
-- delta, or by another tag and several deltas.
abbrev pub IsRecordBetween : Version → List ℕ → NamedSnapshot → NamedSnapshot → Type 0
IsRecordBetween version body before after =
    LeadsByImage version body before after
    ⊎ (((bytes : List ℕ) × (body ≡ delta_tag ∷ bytes) × LeadsByDelta version bytes before after)
    ⊎ ((bytes : List ℕ) × (body ≡ deltas_tag ∷ bytes) × LeadsByDeltas version bytes before after))

-- records lead from a state to another, one after the other
abbrev pub LeadThrough : Version → List (List ℕ) → NamedSnapshot → NamedSnapshot → Type 0
LeadThrough version [] before after = after ≡ before
LeadThrough version (body ∷ bodies) before after =
    (next : NamedSnapshot) × IsRecordBetween version body before next × LeadThrough version bodies next after

-- An image is that of a state, and the records after it, which have its version, lead from there.
pub record LeadTo (version : Version) (contents : Contents) (last : NamedSnapshot) : Type 0 where
  pub first : Snapshot
  pub image : IsImage contents.0 version first
  pub records : LeadThrough version contents.1 (named first) last

-- An image and the records after it lead to this state, which keeps the rules of a state and has an image in their
-- version. The states between may break the rules.
pub record IsStateIn (version : Version) (contents : Contents) (state : Snapshot) : Type 0 where
  pub led : LeadTo version contents (named state)
  pub fits : FitsVersion version state
  pub rules : KeepsRules state

-- An image and records lead to one state, in one version.
abbrev pub ContentsLeadToOne : Type 0
ContentsLeadToOne = (v w : Version) (contents : Contents) (s t : Snapshot) → IsStateIn v contents s
    → IsStateIn w contents t → (v ≡ w) × (s ≡ t)
