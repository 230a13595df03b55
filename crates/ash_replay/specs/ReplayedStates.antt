-- Which state of a host an image and the records after it are read as, and what is wrong with those that are read as
-- none.
use Rattle.std.specs.Prelude.{◌≡◌, ◌⊎◌, ℕ, List, [], ◌∷◌, ◌++◌}
use Rattle.ash_journal.specs.Current.{Contents}
use Rattle.ash_registry.specs.AcceptedRegistrations.{Registration}
use Rattle.ash_registry.specs.RegistryText.{text_of}
use Rattle.ash_image.specs.declared.version.Version.{Version}
use Rattle.ash_image.specs.declared.version.Version.TheVariants.{Two}
use Rattle.ash_image.specs.Snapshots.{Snapshot}
use Rattle.ash_image.specs.Image.{FitsVersion}
use Rattle.ash_image.specs.Rules.{IsImage}
use Rattle.ash_image.specs.Delta.{Delta}
use Rattle.ash_image.specs.Deltas.{IsDeltasBody}
use Rattle.ash_image.specs.Leading.{LeadsTo, IsDeltaBetween}
use Rattle.ash_states.specs.HostStates.{HostState, IsAdmitted}
use Rattle.ash_states.specs.Images.{IsDepicted, IsImageIn, IsBodyIn}
use Rattle.ash_states.specs.Indexes.{snapshot_for}
use Rattle.ash_replay.specs.Replay.{IsStateIn}
use Rattle.ash_replay.specs.ReplayFaults.{last_gate, IsMisshapen}
use Rattle.ash_replay.specs.declared.state.StateRead.{StateRead}
use Rattle.ash_replay.specs.declared.fault.ReplayFault.{ReplayFault}
use Rattle.ash_replay.specs.declared.fault.ReplayFault.TheVariants as faults

-- An image and the records after it are in a version.
abbrev pub AreIn : Version → Contents → Type 0
AreIn version contents = (s : Snapshot) × IsImage contents.0 version s

-- An image and the records after it lead to this state, which a host may be in.
pub record IsStateOf (state : HostState) (contents : Contents) : Type 0 where
  pub version : Version
  pub snapshot : Snapshot
  pub led : IsStateIn version contents snapshot
  pub depicts : IsDepicted snapshot state

-- a delta leads from the state of a host to one that a host may be in
abbrev pub IsDeltaTo : Version → List ℕ → HostState → HostState → Type 0
IsDeltaTo version body before after =
    IsDeltaBetween body version (snapshot_for before) (snapshot_for after) × IsAdmitted after

-- A delta leads from the state of a host to another with the same registered, which a host may be in.
pub record LeadsHost (version : Version) (d : Delta) (before after : HostState) : Type 0 where
  pub registered : after.registered ≡ before.registered
  pub leads : LeadsTo version d (snapshot_for before) (snapshot_for after)
  pub admitted : IsAdmitted after

-- Deltas lead from the state of a host to another, one after the other, each to one that a host may be in.
abbrev pub LeadHosts : Version → List Delta → HostState → HostState → Type 0
LeadHosts version [] before after = after ≡ before
LeadHosts version (d ∷ ds) before after =
    (next : HostState) × LeadsHost version d before next × LeadHosts version ds next after

-- The body of a record in version 2 has deltas that lead from the state of a host to another.
pub record IsDeltasTo (version : Version) (body : List ℕ) (before after : HostState) : Type 0 where
  pub in_two : version ≡ Two
  pub changes : List Delta
  pub is_body : IsDeltasBody body changes
  pub lead : LeadHosts version changes before after

-- The body of a record leads from the state of a host to another with the same registered: it has an image of that, it
-- is a delta that leads there, or it has several deltas that lead there.
pub record IsBodyBetween (version : Version) (body : List ℕ) (before after : HostState) : Type 0 where
  pub registered : after.registered ≡ before.registered
  pub leads : IsBodyIn version body after
      ⊎ (IsDeltaTo version body before after ⊎ IsDeltasTo version body before after)

-- An image and the records after it lead to a state with another text of what was registered.
abbrev pub AreOfOthers : List Registration → Contents → Type 0
AreOfOthers registered contents =
    (version : Version) × (s : Snapshot) × IsStateIn version contents s × (s.registered ≡ text_of registered → ⊥)

-- no host with this registered may be in the state
abbrev pub IsOfNone : List Registration → Snapshot → Type 0
IsOfNone registered s = (state : HostState) → state.registered ≡ registered → IsDepicted s state → ⊥

-- An image and the records after it lead to a state with this text of what was registered, and no host with this
-- registered may be in it. The offset is that of the gate before the last record, or 0 if there is none.
abbrev pub IsNotAdmitted : List Registration → Contents → ℕ → Type 0
IsNotAdmitted registered contents at =
    (version : Version) × (s : Snapshot) × IsStateIn version contents s × (s.registered ≡ text_of registered)
    × IsOfNone registered s × (at ≡ last_gate contents)

-- What is wrong with the contents, with this registered: all shapes come before the text of what was registered, and
-- this before sources and values.
abbrev pub IsReadFault : List Registration → Contents → ReplayFault → Type 0
IsReadFault registered contents (faults.Damaged at) =
    IsMisshapen contents at ⊎ IsNotAdmitted registered contents at
IsReadFault registered contents faults.OtherInterface = AreOfOthers registered contents
IsReadFault registered contents faults.NoMemory = Unit {0}

-- The state is that of the contents, in their version, with this registered.
pub record IsRead (registered : List Registration) (contents : Contents) (read : StateRead) : Type 0 where
  pub registered_is : (read.state).registered ≡ registered
  pub is_state : IsStateOf read.state contents
  pub in_version : AreIn read.version contents

-- Contents are of one state with the same registered.
abbrev pub ContentsHaveOneState : Type 0
ContentsHaveOneState = (s t : HostState) (contents : Contents) → s.registered ≡ t.registered → IsStateOf s contents
    → IsStateOf t contents → s ≡ t

-- An image without records is of its state.
abbrev pub ImagesHaveTheirState : Type 0
ImagesHaveTheirState = (version : Version) (state : HostState) (image : List ℕ) → IsImageIn version image state
    → IsStateOf state (image, [])

-- Contents of a state are of the next with a record more that leads there, in their version.
abbrev pub RecordsLeadOn : Type 0
RecordsLeadOn = (version : Version) (before after : HostState) (image : List ℕ) (bodies : List (List ℕ))
    (body : List ℕ) → IsStateOf before (image, bodies) → AreIn version (image, bodies)
    → IsBodyBetween version body before after → IsStateOf after (image, bodies ++ body ∷ [])

-- The state of contents has an image in their version.
abbrev pub StatesFit : Type 0
StatesFit = (version : Version) (state : HostState) (contents : Contents) → IsStateOf state contents
    → AreIn version contents → FitsVersion version (snapshot_for state)

-- If contents are of a state of a host with this registered, out of memory is the one fault that they are read as.
abbrev pub StatesHaveNoFault : Type 0
StatesHaveNoFault = (registered : List Registration) (contents : Contents) (state : HostState) (fault : ReplayFault)
    → state.registered ≡ registered → IsStateOf state contents → IsReadFault registered contents fault
    → fault ≡ faults.NoMemory
