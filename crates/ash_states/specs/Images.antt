-- The image of the state of a host. In an image each object knows its module by the module's index, in a state by name.
use Rattle.std.specs.Prelude.{◌≡◌, ℕ, List, [], ◌∷◌, map, slice_get, Option, Some, None}
use Rattle.std.specs.Option.{option_map_or}
use Rattle.ash_host.specs.Objects.{Elements, Bools, Ints, Uints, Int64s, Uint64s}
use Rattle.ash_host.specs.Objects.{Handles, Hosts, Plain, Script, Array, Host}
use Rattle.ash_registry.specs.AcceptedRegistrations.{Registration}
use Rattle.ash_registry.specs.RegistryText.{text_of}
use Rattle.ash_requests.specs.States.{LoadedModule, State}
use Rattle.ash_image.specs.declared.version.Version.{Version}
use Rattle.ash_image.specs.Snapshots.{Loaded, Snapshot}
use Rattle.ash_image.specs.Rules.{IsImage}
use Rattle.ash_states.specs.HostStates.{HostState, IsAdmitted, service_kinds}

-- The state that a snapshot is of, whatever is registered.

-- the name of the module at an index; none is named where there is no module
abbrev pub name_at : List LoadedModule → ℕ → List ℕ
name_at ms index = option_map_or (λ (m : LoadedModule). m.name) (slice_get ms index) []

-- what the elements of an array are, each module by its name
abbrev pub element_named : (ℕ → List ℕ) → Elements ℕ → Elements (List ℕ)
element_named name Bools = Bools
element_named name Ints = Ints
element_named name Uints = Uints
element_named name Int64s = Int64s
element_named name Uint64s = Uint64s
element_named name (Handles owner place) = Handles (name owner) place
element_named name (Hosts kind) = Hosts kind

-- what an object is, each module by its name
abbrev pub plain_named : (ℕ → List ℕ) → Plain ℕ → Plain (List ℕ)
plain_named name (Script owner place fields) = Script (name owner) place fields
plain_named name (Array of elements) = Array (element_named name of) elements
plain_named name (Host kind state) = Host kind state

-- an object with its number
abbrev pub entry_named : (ℕ → List ℕ) → ℕ × Plain ℕ → ℕ × Plain (List ℕ)
entry_named name entry = (entry.0, plain_named name entry.1)

abbrev pub loaded_of : Loaded → LoadedModule
loaded_of m = record { name = m.name; source = m.source; globals = m.globals }

abbrev pub loaded_modules_of : List Loaded → List LoadedModule
loaded_modules_of ms = map loaded_of ms

abbrev pub state_of : Snapshot → State
state_of s = record {
  modules = loaded_modules_of s.modules;
  objects = map (entry_named (name_at (loaded_modules_of s.modules))) s.objects;
  services = map (λ (service : ℕ × List ℕ). service.1) s.services;
  last = s.last;
  seq = s.seq;
}

-- the kinds of services
abbrev pub kinds_in : List (ℕ × List ℕ) → List ℕ
kinds_in services = map (λ (service : ℕ × List ℕ). service.0) services

-- The services of a snapshot are of the kinds that are registered, in order.
abbrev pub HasServices : List Registration → Snapshot → Type 0
HasServices registered snapshot = kinds_in snapshot.services ≡ service_kinds registered

-- The snapshot is of a state that a host may be in, with the text of what is registered, and each service has its kind.
pub record IsDepicted (snapshot : Snapshot) (s : HostState) : Type 0 where
  pub text_is : snapshot.registered ≡ text_of s.registered
  pub services_are : HasServices s.registered snapshot
  pub state_is : state_of snapshot ≡ s.state
  pub admitted : IsAdmitted s

-- The bytes are the image of the state in a version.
abbrev pub IsImageIn : Version → List ℕ → HostState → Type 0
IsImageIn version bytes s = (snapshot : Snapshot) × IsImage bytes version snapshot × IsDepicted snapshot s

-- The bytes are the image of the state in some version.
abbrev pub IsImageOf : List ℕ → HostState → Type 0
IsImageOf bytes s = (version : Version) × IsImageIn version bytes s

-- The bytes are the body of a record that has an image of the state in a version.
abbrev pub IsBodyIn : Version → List ℕ → HostState → Type 0
IsBodyIn version body s = (image : List ℕ) × (body ≡ 1 ∷ image) × IsImageIn version image s

-- No host with these registrations may be in the state of the snapshot.
abbrev pub IsImageRefused : List Registration → Snapshot → Type 0
IsImageRefused registered snapshot =
    (s : HostState) → s.registered ≡ registered → state_of snapshot ≡ s.state → HasServices registered snapshot
    → IsAdmitted s → ⊥

-- What is restored of a snapshot with these registrations: the one state that it is of, where a host may be in it.
abbrev pub IsImageRestored : List Registration → Snapshot → Option HostState → Type 0
IsImageRestored registered snapshot (Some s) =
    (s.registered ≡ registered) × (state_of snapshot ≡ s.state) × HasServices registered snapshot × IsAdmitted s
IsImageRestored registered snapshot None = IsImageRefused registered snapshot

-- Bytes are the image of one state where these are the registrations, whoever reads them.
abbrev pub IsImageOfOneState : Type 0
IsImageOfOneState = (bytes : List ℕ) (s t : HostState) → IsImageOf bytes s → IsImageOf bytes t
    → s.registered ≡ t.registered → s ≡ t
