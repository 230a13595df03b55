-- What holds of a state over more than one field, whatever the sources and the registrations are.
use Rattle.std.specs.Prelude.{◌≡◌, ℕ, ◌<◌, ◌&&◌, nat_le, nat_lt, Bool, true, false, List, ◌∷◌, length, Contains, ⊤}
use Rattle.std.specs.Bool.{IsTrue}
use Rattle.std.specs.List.{flat_map, list_all, AllByRecursion}
use Rattle.ash_host.specs.declared.word.Word.{Word}
use Rattle.ash_host.specs.declared.word.Word.TheVariants as words
use Rattle.ash_host.specs.Objects.{Elements, Bools, Ints, Uints, Int64s, Uint64s, Handles, Hosts, Plain, Script, Array}
use Rattle.ash_host.specs.Objects.{numbers, handles, fields_of, Lives, AreNumbered}
use Rattle.ash_host.specs.Reach.{NoneDangles, ReachableIn, is_among}
use Rattle.ash_image.specs.declared.version.Version.{Version}
use Rattle.ash_image.specs.Snapshots.{Loaded, Snapshot}
use Rattle.ash_image.specs.Image.{FitsVersion, IsSpelling}

-- the numbers of the objects that globals are handles to
abbrev pub held_by : List Loaded → List ℕ
held_by modules = handles (flat_map (λ (m : Loaded). m.globals) modules)

-- an object is of a class of a module that is there, and so are the elements of an array
abbrev pub IsPlaced : ℕ → Plain ℕ → Type 0
IsPlaced count (Script owner class fields) = owner < count
IsPlaced count (Array (Handles owner class) elements) = owner < count
IsPlaced count _ = ⊤

-- A word that an array of such elements may hold, as far as the array says it. Of handles it does not say it: that an
-- object is of a class, or of a kind, is asked with the sources and with what is registered.
abbrev pub is_element : Elements ℕ → Word → Bool
is_element Bools (words.Bool value) = true
is_element Ints (words.Int value) = true
is_element Uints (words.Uint value) = true
is_element Int64s (words.Int64 value) = true
is_element Uint64s (words.Uint64 value) = true
is_element (Handles owner class) word = true
is_element (Hosts kind) word = true
is_element _ _ = false

-- the elements of an array are of its type
abbrev pub are_elements : Plain ℕ → Bool
are_elements (Array of elements) = list_all (is_element of) elements
are_elements _ = true

-- Numbers are above 0 and at most the last that was given, classes are of modules that are there, the elements of an
-- array are of its type, and no handle is to an object that does not live.
pub record IsWholeSnapshot (s : Snapshot) : Type 0 where
  pub numbered : AreNumbered s.last s.objects
  pub placed : AllByRecursion (λ (e : ℕ × Plain ℕ). IsPlaced (length s.modules) e.1) s.objects
  pub typed : AllByRecursion (λ (e : ℕ × Plain ℕ). IsTrue (are_elements e.1)) s.objects
  pub none_dangle : NoneDangles (Contains (held_by s.modules)) s.objects

-- every object can be reached from the globals
abbrev pub AreReached : Snapshot → Type 0
AreReached s = (number : ℕ) → Lives s.objects number → ReachableIn (Contains (held_by s.modules)) s.objects number

-- and every object can be reached
pub record KeepsRules (s : Snapshot) : Type 0 where
  pub whole : IsWholeSnapshot s
  pub reached : AreReached s

-- A snapshot has an image in some version: whatever the sources and the registrations are, nothing is wrong with it.
abbrev pub IsShaped : Snapshot → Type 0
IsShaped s = (version : Version) × FitsVersion version s × KeepsRules s

-- The bytes are the image of a snapshot that keeps the rules: they spell it, each byte of them.
abbrev pub IsImage : List ℕ → Version → Snapshot → Type 0
IsImage bytes version s = IsSpelling bytes version s × KeepsRules s

-- the tag of a body that is an image
abbrev pub image_tag : ℕ
image_tag = 1

-- The bytes are the body of a record that leads from every state to that of an image: a tag, and the image.
abbrev pub IsImageBody : List ℕ → Version → Snapshot → Type 0
IsImageBody bytes version s = (image : List ℕ) × (bytes ≡ image_tag ∷ image) × IsImage image version s

-- the tests

abbrev pub is_given : ℕ → ℕ × Plain ℕ → Bool
is_given last e = nat_lt 0 e.0 && nat_le e.0 last

abbrev pub is_placed_element : ℕ → Elements ℕ → Bool
is_placed_element count (Handles owner class) = nat_lt owner count
is_placed_element count _ = true

abbrev pub is_placed : ℕ → Plain ℕ → Bool
is_placed count (Script owner class fields) = nat_lt owner count
is_placed count (Array of elements) = is_placed_element count of
is_placed count _ = true

-- the handles among words are to objects of these numbers
abbrev pub all_live : List ℕ → List Word → Bool
all_live alive words = list_all (is_among alive) (handles words)

abbrev pub module_lives : List ℕ → Loaded → Bool
module_lives alive m = all_live alive m.globals

abbrev pub object_lives : List ℕ → ℕ × Plain ℕ → Bool
object_lives alive e = all_live alive (fields_of e.1)

-- numbers, modules and handles are right
abbrev pub is_linked : Snapshot → Bool
is_linked s =
    list_all (is_given s.last) s.objects
    && (list_all (λ (e : ℕ × Plain ℕ). is_placed (length s.modules) e.1) s.objects
    && (list_all (module_lives (numbers s.objects)) s.modules
    && list_all (object_lives (numbers s.objects)) s.objects))

abbrev pub is_whole : Snapshot → Bool
is_whole s = list_all (λ (e : ℕ × Plain ℕ). are_elements e.1) s.objects && is_linked s
