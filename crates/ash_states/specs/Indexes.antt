-- The snapshot that is written of a state: each module by its index.
use Rattle.std.specs.Prelude.{ℕ, ◌<◌, ◌^◌, List, map, zip, position, unwrap_or}
use Rattle.std.specs.List.{AllByRecursion}
use Rattle.ash_host.specs.Objects.{Elements, Bools, Ints, Uints, Int64s, Uint64s}
use Rattle.ash_host.specs.Objects.{Handles, Hosts, Plain, Script, Array, Host}
use Rattle.ash_registry.specs.RegistryText.{text_of}
use Rattle.ash_requests.specs.States.{LoadedModule, has_name}
use Rattle.ash_image.specs.Snapshots.{Loaded, Snapshot}
use Rattle.ash_image.specs.declared.version.Version.TheVariants.{Two}
use Rattle.ash_image.specs.Image.{FitsText}
use Rattle.ash_states.specs.HostStates.{HostState, IsAdmitted, service_kinds}
use Rattle.ash_states.specs.Images.{IsImageIn}

-- the index of the module of a name; 0 where no module has it
abbrev pub index_in : List LoadedModule → List ℕ → ℕ
index_in ms name = unwrap_or (position (has_name name) ms) 0

-- what the elements of an array are, each module by its index
abbrev pub element_indexed : (List ℕ → ℕ) → Elements (List ℕ) → Elements ℕ
element_indexed index Bools = Bools
element_indexed index Ints = Ints
element_indexed index Uints = Uints
element_indexed index Int64s = Int64s
element_indexed index Uint64s = Uint64s
element_indexed index (Handles owner place) = Handles (index owner) place
element_indexed index (Hosts kind) = Hosts kind

-- what an object is, each module by its index
abbrev pub plain_indexed : (List ℕ → ℕ) → Plain (List ℕ) → Plain ℕ
plain_indexed index (Script owner place fields) = Script (index owner) place fields
plain_indexed index (Array of elements) = Array (element_indexed index of) elements
plain_indexed index (Host kind state) = Host kind state

-- an object with its number
abbrev pub entry_indexed : (List ℕ → ℕ) → ℕ × Plain (List ℕ) → ℕ × Plain ℕ
entry_indexed index entry = (entry.0, plain_indexed index entry.1)

abbrev pub stored_of : LoadedModule → Loaded
stored_of m = record { name = m.name; source = m.source; globals = m.globals }

abbrev pub stored_modules_of : List LoadedModule → List Loaded
stored_modules_of ms = map stored_of ms

-- the snapshot of a state
abbrev pub snapshot_for : HostState → Snapshot
snapshot_for s = record {
  registered = text_of s.registered;
  seq = (s.state).seq;
  last = (s.state).last;
  services = zip (service_kinds s.registered) (s.state).services;
  modules = stored_modules_of (s.state).modules;
  objects = map (entry_indexed (index_in (s.state).modules)) (s.state).objects;
}

-- what a spelling has room for

-- the index of a module in one byte, and the place of a class in two
pub record IsIndexed (ms : List LoadedModule) (owner : List ℕ) (place : ℕ) : Type 0 where
  pub index_fits : index_in ms owner < 2 ^ 8
  pub place_fits : place < 2 ^ 16

abbrev pub IsElementIndexed : List LoadedModule → Elements (List ℕ) → Type 0
IsElementIndexed ms (Handles owner place) = IsIndexed ms owner place
IsElementIndexed ms _ = Unit {0}

abbrev pub IsPlainIndexed : List LoadedModule → Plain (List ℕ) → Type 0
IsPlainIndexed ms (Script owner place fields) = IsIndexed ms owner place
IsPlainIndexed ms (Array of elements) = IsElementIndexed ms of
IsPlainIndexed ms (Host kind state) = Unit {0}

-- the kind of host objects in two bytes
abbrev pub HasElementKind : {M : Type 0} → Elements M → Type 0
HasElementKind (Hosts kind) = kind < 2 ^ 16
HasElementKind _ = Unit {0}

abbrev pub HasKind : {M : Type 0} → Plain M → Type 0
HasKind (Script owner place fields) = Unit {0}
HasKind (Array of elements) = HasElementKind of
HasKind (Host kind state) = kind < 2 ^ 16

abbrev pub HaveKinds : {M : Type 0} → List (ℕ × Plain M) → Type 0
HaveKinds {M} objects = AllByRecursion (λ (e : ℕ × Plain M). HasKind e.1) objects

-- the kinds of services in two bytes
abbrev pub HaveServiceKinds : List ℕ → Type 0
HaveServiceKinds kinds = AllByRecursion (λ kind. kind < 2 ^ 16) kinds

-- Each state that a host may be in has an image in version 2, where the text of what is registered has a spelling, and
-- so have the kinds of services and those that objects name.
abbrev pub HaveImages : Type 0
HaveImages = (s : HostState) → IsAdmitted s → FitsText (text_of s.registered)
    → HaveServiceKinds (service_kinds s.registered) → HaveKinds (s.state).objects
    → (bytes : List ℕ) × IsImageIn Two bytes s
