-- Reading an image, from its first byte.
use Rattle.std.specs.Prelude.{ℕ, ◌==◌, ◌&&◌, nat_le, Bool, if◌then◌else◌, List, length, Option, Some, None}
use Rattle.std.specs.Str.{is_utf8}
use Rattle.ash_host.specs.declared.word.Word.{Word}
use Rattle.ash_host.specs.Objects.{Plain, numbers}
use Rattle.ash_host.specs.Limits.{max_objects}
use Rattle.ash_image.specs.declared.version.Version.{Version}
use Rattle.ash_image.specs.declared.version.Version.TheVariants as versions
use Rattle.ash_image.specs.Fields.{◌>>=◌, as_at, checked_at, pair_at, then_at, number_at, text_at, items_at}
use Rattle.ash_image.specs.ImageWords.{word_at}
use Rattle.ash_image.specs.ObjectBytes.{kind_and_state_at, plain_at}
use Rattle.ash_image.specs.Snapshots.{Loaded, Snapshot}
use Rattle.ash_image.specs.Image.{is_module_name, are_ascending, names_of, do_rise}
use Rattle.ash_image.specs.Image.{has_version, max_registered_text_bytes}
use Rattle.ash_image.specs.Image.{max_source_bytes, max_globals, max_modules, max_services}

-- modules

-- a text that is a module's name
unfoldable pub name_at : List ℕ → Option (List ℕ × List ℕ)
name_at = checked_at is_module_name (text_at 1)

-- a source, within its limit
unfoldable pub source_at : List ℕ → Option (List ℕ × List ℕ)
source_at = checked_at (λ source. nat_le (length source) max_source_bytes) (text_at 4)

-- what globals hold
unfoldable pub globals_at : List ℕ → Option (List Word × List ℕ)
globals_at = items_at (checked_at (λ n. nat_le n max_globals) (number_at 2)) word_at

-- a module: its name, its source and its globals
unfoldable pub module_at : List ℕ → Option (Loaded × List ℕ)
module_at = as_at (λ (x : List ℕ × (List ℕ × List Word)). record { name = x.0; source = x.1.0; globals = x.1.1 })
    (pair_at name_at (pair_at source_at globals_at))

-- a count, and that many modules, by ascending name
unfoldable pub modules_at : List ℕ → Option (List Loaded × List ℕ)
modules_at = checked_at (λ modules. are_ascending (names_of modules))
    (items_at (checked_at (λ n. nat_le n max_modules) (number_at 1)) module_at)

-- services

unfoldable pub services_at : List ℕ → Option (List (ℕ × List ℕ) × List ℕ)
services_at = items_at (checked_at (λ n. nat_le n max_services) (number_at 2)) kind_and_state_at

-- objects

-- an object that the version has
unfoldable pub body_at : Version → List ℕ → Option (Plain ℕ × List ℕ)
body_at version = checked_at (has_version version) plain_at

unfoldable pub object_at : Version → List ℕ → Option ((ℕ × Plain ℕ) × List ℕ)
object_at version = pair_at (number_at 8) (body_at version)

-- a count, and that many objects, by ascending number
unfoldable pub objects_at : Version → List ℕ → Option (List (ℕ × Plain ℕ) × List ℕ)
objects_at version = checked_at (λ objects. do_rise (numbers objects))
    (items_at (checked_at (λ n. nat_le n max_objects) (number_at 4)) (object_at version))

-- states

-- the bytes are a text, and within the limit of what is registered
abbrev pub is_text : List ℕ → Bool
is_text bytes = nat_le (length bytes) max_registered_text_bytes && is_utf8 bytes

-- the text of what is registered
unfoldable pub registered_at : List ℕ → Option (List ℕ × List ℕ)
registered_at = checked_at is_text (text_at 4)

-- what follows the version
unfoldable pub snapshot_at : Version → List ℕ → Option (Snapshot × List ℕ)
snapshot_at version = as_at (λ (x : List ℕ × (ℕ × (ℕ × (List (ℕ × List ℕ) × (List Loaded × List (ℕ × Plain ℕ)))))).
    record {
      registered = x.0;
      seq = x.1.0;
      last = x.1.1.0;
      services = x.1.1.1.0;
      modules = x.1.1.1.1.0;
      objects = x.1.1.1.1.1;
    })
    (pair_at registered_at (pair_at (number_at 8) (pair_at (number_at 8)
    (pair_at services_at (pair_at modules_at (objects_at version))))))

-- the version, which is 1 or 2
unfoldable pub version_at : List ℕ → Option (Version × List ℕ)
version_at bytes = number_at 2 bytes >>= λ n.
    if n.0 == 1 then Some (versions.One, n.1) else if n.0 == 2 then Some (versions.Two, n.1) else None

-- the version, and then the snapshot
unfoldable pub image_at : List ℕ → Option ((Version × Snapshot) × List ℕ)
image_at = then_at version_at snapshot_at
