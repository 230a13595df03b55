-- The image of a state, byte for byte, in both versions, and which snapshots have one.
use Rattle.std.specs.Prelude.{◌≡◌, ℕ, ◌<◌, ◌≤◌, ◌^◌, ◌==◌, ◌&&◌, ◌||◌, nat_le, nat_lt}
use Rattle.std.specs.Prelude.{Bool, true, false, List, [], ◌∷◌, ◌++◌, length, map}
use Rattle.std.specs.declared.cmp.Ordering.{Ordering}
use Rattle.std.specs.Bool.{IsTrue}
use Rattle.std.specs.Cmp.Lexicographic.{slice_cmp}
use Rattle.std.specs.List.{list_all, AllByRecursion}
use Rattle.std.specs.Ordering.{is_lt, nat_cmp}
use Rattle.std.specs.Str.{IsUtf8}
use Rattle.ash_host.specs.Limits.{max_objects}
use Rattle.ash_host.specs.Objects.{Plain, Array, numbers}
use Rattle.ash_image.specs.declared.version.Version.{Version}
use Rattle.ash_image.specs.declared.version.Version.TheVariants as versions
use Rattle.ash_image.specs.Fields.{number, text, items}
use Rattle.ash_image.specs.ImageWords.{word, FitsWord}
use Rattle.ash_image.specs.ObjectBytes.{plain, host, FitsPlain, FitsHost}
use Rattle.ash_image.specs.Snapshots.{Loaded, Snapshot}

-- the spelling

-- a module: its name, its source and what its globals hold
abbrev pub loaded_module : Loaded → List ℕ
loaded_module m = text 1 m.name ++ (text 4 m.source ++ items 2 word m.globals)

-- a service: its kind and its state
abbrev pub service : ℕ × List ℕ → List ℕ
service s = host s.0 s.1

-- an object: its number, and what it is
abbrev pub object : ℕ × Plain ℕ → List ℕ
object e = number 8 e.0 ++ plain e.1

-- what follows the version
abbrev pub state_bytes : Snapshot → List ℕ
state_bytes s = text 4 s.registered ++ (number 8 s.seq ++ (number 8 s.last
    ++ (items 2 service s.services ++ (items 1 loaded_module s.modules ++ items 4 object s.objects))))

abbrev pub version_number : Version → ℕ
version_number versions.One = 1
version_number versions.Two = 2

-- the version, and the state
abbrev pub image : Version → Snapshot → List ℕ
image version s = number 2 (version_number version) ++ state_bytes s

-- the image that is written
abbrev pub image_of : Snapshot → List ℕ
image_of = image versions.Two

-- an image as it was written before there were arrays
abbrev pub image_v1_of : Snapshot → List ℕ
image_v1_of = image versions.One

-- names of modules: a letter or `_`, then letters, digits and `_`, at most 64 bytes

abbrev pub is_between : ℕ → ℕ → ℕ → Bool
is_between low high code = nat_le low code && nat_le code high

-- A to Z, a to z, and _
abbrev pub is_name_start : ℕ → Bool
is_name_start code = is_between 65 90 code || is_between 97 122 code || (code == 95)

-- or 0 to 9
abbrev pub is_name_part : ℕ → Bool
is_name_part code = is_name_start code || is_between 48 57 code

abbrev pub is_name : List ℕ → Bool
is_name [] = false
is_name (code ∷ more) = is_name_start code && list_all is_name_part more

-- the most bytes of a name
abbrev pub max_module_name_bytes : ℕ
max_module_name_bytes = 64

abbrev pub is_module_name : List ℕ → Bool
is_module_name name = is_name name && nat_le (length name) max_module_name_bytes

-- order

abbrev pub compare_names : List ℕ → List ℕ → Ordering
compare_names = slice_cmp nat_cmp

-- each name comes before the next, byte by byte
abbrev pub are_ascending : List (List ℕ) → Bool
are_ascending [] = true
are_ascending (name ∷ []) = true
are_ascending (name ∷ next ∷ more) = is_lt (compare_names name next) && are_ascending (next ∷ more)

abbrev pub names_of : List Loaded → List (List ℕ)
names_of modules = map (λ (m : Loaded). m.name) modules

-- each number is below the next
abbrev pub do_rise : List ℕ → Bool
do_rise [] = true
do_rise (n ∷ []) = true
do_rise (n ∷ next ∷ more) = nat_lt n next && do_rise (next ∷ more)

-- limits of what an image has, where no crate below names them

-- the most bytes of the text of what is registered
abbrev pub max_registered_text_bytes : ℕ
max_registered_text_bytes = 1048576

-- the most bytes of a source
abbrev pub max_source_bytes : ℕ
max_source_bytes = 65536

-- the most globals of a module
abbrev pub max_globals : ℕ
max_globals = 256

-- the most modules
abbrev pub max_modules : ℕ
max_modules = 16

-- the most services
abbrev pub max_services : ℕ
max_services = 16

-- what has a spelling

-- a text of what is registered that is text, and within its limit
pub record FitsText (registered : List ℕ) : Type 0 where
  pub utf8 : IsUtf8 registered
  pub short : length registered ≤ max_registered_text_bytes

-- a module whose name is one, within its limits
pub record FitsModule (m : Loaded) : Type 0 where
  pub name_fits : IsTrue (is_module_name m.name)
  pub source_short : length m.source ≤ max_source_bytes
  pub few : length m.globals ≤ max_globals
  pub words : AllByRecursion FitsWord m.globals

-- version 1 has no arrays
abbrev pub has_version : Version → Plain ℕ → Bool
has_version versions.One (Array of elements) = false
has_version _ _ = true

-- an object that a version has
pub record FitsObject (version : Version) (e : ℕ × Plain ℕ) : Type 0 where
  pub number_fits : e.0 < 2 ^ 64
  pub fits : FitsPlain e.1
  pub is_there : IsTrue (has_version version e.1)

-- services that are few, each with a kind and a state
pub record FitServices (services : List (ℕ × List ℕ)) : Type 0 where
  pub few : length services ≤ max_services
  pub each : AllByRecursion (λ (s : ℕ × List ℕ). FitsHost s.0 s.1) services

-- modules that are few, by ascending name: the same modules in another order have no image
pub record FitModules (modules : List Loaded) : Type 0 where
  pub few : length modules ≤ max_modules
  pub each : AllByRecursion FitsModule modules
  pub order : IsTrue (are_ascending (names_of modules))

-- objects that are few, by ascending number
pub record FitObjects (version : Version) (objects : List (ℕ × Plain ℕ)) : Type 0 where
  pub few : length objects ≤ max_objects
  pub each : AllByRecursion (FitsObject version) objects
  pub order : IsTrue (do_rise (numbers objects))

-- a snapshot that has a spelling in a version
pub record FitsVersion (version : Version) (s : Snapshot) : Type 0 where
  pub text : FitsText s.registered
  pub seq : s.seq < 2 ^ 64
  pub last : s.last < 2 ^ 64
  pub services : FitServices s.services
  pub modules : FitModules s.modules
  pub objects : FitObjects version s.objects

-- The bytes are the one spelling of a snapshot in a version.
abbrev pub IsSpelling : List ℕ → Version → Snapshot → Type 0
IsSpelling bytes version s = FitsVersion version s × (bytes ≡ image version s)
