-- What a request changed, as data and byte for byte, and which deltas have a spelling.
use Rattle.std.specs.Prelude.{◌≡◌, ℕ, zero, suc, ◌<◌, ◌≤◌, ◌^◌, ◌+◌, ◌==◌, ◌&&◌, Bool, true, List, [], ◌∷◌, ◌++◌, length, not}
use Rattle.std.specs.Bool.{IsTrue, ⊤}
use Rattle.std.specs.List.{list_all, AllByRecursion}
use Rattle.ash_host.specs.declared.word.Word.{Word}
use Rattle.ash_host.specs.Objects.{LiveObjects, numbers}
use Rattle.ash_host.specs.Reach.{is_among}
use Rattle.ash_image.specs.declared.version.Version.{Version}
use Rattle.ash_image.specs.Fields.{number, text, items}
use Rattle.ash_image.specs.ImageWords.{word, FitsWord}
use Rattle.ash_image.specs.ObjectBytes.{FitsHost}
use Rattle.ash_image.specs.Snapshots.{Loaded}
use Rattle.ash_image.specs.Image.{service, object, is_module_name, do_rise, max_globals, max_services}
use Rattle.ash_image.specs.Image.{FitsModule, FitObjects}

-- what a delta is

-- What became of the modules: nothing; one was added, in place of one of its name if that was there; one was removed,
-- if it was there; or globals of one changed, each by its index in source order.
pub data ModuleChange : Type 0 where
  Unchanged : ModuleChange
  Added : (m : Loaded) → ModuleChange
  Removed : (name : List ℕ) → ModuleChange
  Globals : (name : List ℕ) (globals : List (ℕ × Word)) → ModuleChange

-- How many requests had been answered, and the last number that was given to an object, both after the request; the new
-- states of services, by their indexes in order of registration; what became of the modules; the numbers of objects that
-- are gone; and the objects that are new, or that changed. An object knows its module by the module's index after the
-- request.
pub record Delta : Type 0 where
  pub seq : ℕ
  pub last : ℕ
  pub services : List (ℕ × List ℕ)
  pub change : ModuleChange
  pub gone : List ℕ
  pub put : LiveObjects ℕ

-- the spelling

-- a word with its index
abbrev pub indexed_word : ℕ × Word → List ℕ
indexed_word e = number 2 e.0 ++ word e.1

-- words with their indexes, from a first one
unfoldable pub indexed_from : ℕ → List Word → List (ℕ × Word)
indexed_from index [] = []
indexed_from index (w ∷ ws) = (index, w) ∷ indexed_from (suc index) ws

-- a count, and each of the words with its index
abbrev pub all_globals : List Word → List ℕ
all_globals globals = items 2 indexed_word (indexed_from 0 globals)

-- a module after its tag
abbrev pub added : Loaded → List ℕ
added m = text 1 m.name ++ (text 4 m.source ++ all_globals m.globals)

-- a tag, and what became of the modules
abbrev pub module_change : ModuleChange → List ℕ
module_change Unchanged = number 1 0
module_change (Added m) = number 1 1 ++ added m
module_change (Removed name) = number 1 2 ++ text 1 name
module_change (Globals name globals) = number 1 3 ++ (text 1 name ++ items 2 indexed_word globals)

-- the delta: a service's state is spelled after its index as an image spells it after its kind
abbrev pub delta : Delta → List ℕ
delta d = number 8 d.seq ++ (number 8 d.last ++ (items 2 service d.services ++ (module_change d.change
    ++ (items 4 (number 8) d.gone ++ items 4 object d.put))))

-- what has a spelling

-- states that are few, by ascending index
pub record FitServiceStates (services : List (ℕ × List ℕ)) : Type 0 where
  pub few : length services ≤ max_services
  pub each : AllByRecursion (λ (s : ℕ × List ℕ). FitsHost s.0 s.1) services
  pub order : IsTrue (do_rise (numbers services))

-- a word that has a spelling, and its index
pub record FitsIndexed (e : ℕ × Word) : Type 0 where
  pub index_fits : e.0 < 2 ^ 16
  pub word_fits : FitsWord e.1

-- globals that are few, by ascending index, of a module whose name is one
pub record FitGlobals (name : List ℕ) (globals : List (ℕ × Word)) : Type 0 where
  pub name_fits : IsTrue (is_module_name name)
  pub few : length globals ≤ max_globals
  pub each : AllByRecursion FitsIndexed globals
  pub order : IsTrue (do_rise (numbers globals))

abbrev pub FitsChange : ModuleChange → Type 0
FitsChange Unchanged = ⊤
FitsChange (Added m) = FitsModule m
FitsChange (Removed name) = IsTrue (is_module_name name)
FitsChange (Globals name globals) = FitGlobals name globals

-- Numbers that objects can have, by ascending number, as many as a count has room for: no object has the number 0.
pub record FitNumbers (gone : List ℕ) : Type 0 where
  pub few : length gone < 2 ^ 32
  pub each : AllByRecursion (λ n. n < 2 ^ 64) gone
  pub order : IsTrue (do_rise (0 ∷ gone))

-- no number is both gone and put
abbrev pub are_apart : List ℕ → List ℕ → Bool
are_apart gone put = list_all (λ n. not (is_among put n)) gone

-- a delta that has a spelling in a version
pub record FitsDelta (version : Version) (d : Delta) : Type 0 where
  pub seq : d.seq < 2 ^ 64
  pub last : d.last < 2 ^ 64
  pub services : FitServiceStates d.services
  pub change : FitsChange d.change
  pub gone : FitNumbers d.gone
  pub put : FitObjects version d.put
  pub apart : IsTrue (are_apart d.gone (numbers d.put))

-- The bytes are the one spelling of a delta in a version.
abbrev pub IsDelta : List ℕ → Version → Delta → Type 0
IsDelta bytes version d = FitsDelta version d × (bytes ≡ delta d)

-- the tag of a body that is a delta
abbrev pub delta_tag : ℕ
delta_tag = 2

-- The bytes are the body of a record that leads from a state to the next by a delta: a tag, and the delta.
abbrev pub IsDeltaBody : List ℕ → Version → Delta → Type 0
IsDeltaBody bytes version d = FitsDelta version d × (bytes ≡ delta_tag ∷ delta d)
