-- Whether a state has an image in a version: tests of its counts, its lengths, its names and their order. That its
-- numbers are in the ranges of their fields, the types of the code say.
use Rattle.std.specs.Prelude.{ℕ, ◌<◌, ◌^◌, ◌&&◌, nat_le, Bool, List, length}
use Rattle.std.specs.List.{list_all, AllByRecursion}
use Rattle.ash_host.specs.Limits.{max_objects, max_elements, max_state_bytes}
use Rattle.ash_host.specs.Objects.{Plain, Script, Array, Host, numbers}
use Rattle.ash_image.specs.declared.version.Version.{Version}
use Rattle.ash_image.specs.ImageWords.{FitsWord}
use Rattle.ash_image.specs.ObjectBytes.{max_class_members, FitsElement}
use Rattle.ash_image.specs.Snapshots.{Loaded, Snapshot}
use Rattle.ash_image.specs.Image.{is_module_name, are_ascending, names_of, do_rise, has_version}
use Rattle.ash_image.specs.Image.{max_registered_text_bytes, max_source_bytes, max_globals, max_modules, max_services}

-- tests

abbrev pub has_short_state : ℕ × List ℕ → Bool
has_short_state s = nat_le (length s.1) max_state_bytes

abbrev pub are_services : List (ℕ × List ℕ) → Bool
are_services services = nat_le (length services) max_services && list_all has_short_state services

abbrev pub is_loadable : Loaded → Bool
is_loadable m =
    is_module_name m.name && (nat_le (length m.source) max_source_bytes && nat_le (length m.globals) max_globals)

abbrev pub are_loadable : List Loaded → Bool
are_loadable ms = nat_le (length ms) max_modules && (list_all is_loadable ms && are_ascending (names_of ms))

-- an object has no more than an image has room for
abbrev pub is_short : Plain ℕ → Bool
is_short (Script owner class fields) = nat_le (length fields) max_class_members
is_short (Host kind state) = nat_le (length state) max_state_bytes
is_short (Array of elements) = nat_le (length elements) max_elements

abbrev pub is_storable : Version → ℕ × Plain ℕ → Bool
is_storable version e = has_version version e.1 && is_short e.1

abbrev pub are_storable : Version → List (ℕ × Plain ℕ) → Bool
are_storable version objects =
    nat_le (length objects) max_objects && (list_all (is_storable version) objects && do_rise (numbers objects))

abbrev pub is_within : Version → Snapshot → Bool
is_within version s =
    nat_le (length s.registered) max_registered_text_bytes
    && (are_services s.services && (are_loadable s.modules && are_storable version s.objects))

-- ranges

-- the numbers of an object are in the ranges of their fields
abbrev pub IsRanged : Plain ℕ → Type 0
IsRanged (Script owner class fields) = (owner < 2 ^ 8) × (class < 2 ^ 16) × AllByRecursion FitsWord fields
IsRanged (Host kind state) = kind < 2 ^ 16
IsRanged (Array of elements) = FitsElement of × AllByRecursion FitsWord elements

-- and so is its own
pub record IsRangedEntry (e : ℕ × Plain ℕ) : Type 0 where
  pub number : e.0 < 2 ^ 64
  pub object : IsRanged e.1

pub record AreRanged (s : Snapshot) : Type 0 where
  pub seq : s.seq < 2 ^ 64
  pub last : s.last < 2 ^ 64
  pub services : AllByRecursion (λ (s : ℕ × List ℕ). s.0 < 2 ^ 16) s.services
  pub modules : AllByRecursion (λ (m : Loaded). AllByRecursion FitsWord m.globals) s.modules
  pub objects : AllByRecursion IsRangedEntry s.objects
