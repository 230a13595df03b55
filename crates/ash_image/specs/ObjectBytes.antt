-- Objects in an image: how each is spelled, which have a spelling, and how one is read. An object knows its module by
-- the module's index in the list of modules.
use Rattle.std.specs.Prelude.{ℕ, zero, suc, ◌<◌, ◌≤◌, ◌^◌, nat_le, List, ◌++◌, length, Option, Some, None, ⊤}
use Rattle.std.specs.List.{AllByRecursion}
use Rattle.ash_host.specs.declared.word.Word.{Word}
use Rattle.ash_host.specs.Limits.{max_elements, max_state_bytes}
use Rattle.ash_host.specs.Objects.{Elements, Bools, Ints, Uints, Int64s, Uint64s}
use Rattle.ash_host.specs.Objects.{Handles, Hosts, Plain, Script, Array, Host}
use Rattle.ash_image.specs.Fields.{number, text, items, as_at, checked_at, pair_at}
use Rattle.ash_image.specs.Fields.{number_at, text_at, items_at, tagged_at}
use Rattle.ash_image.specs.ImageWords.{word, FitsWord, word_at}

-- the most fields of an object, as a class has at most so many members
abbrev pub max_class_members : ℕ
max_class_members = 32

-- the spelling

-- what the elements of an array are: a tag, and what the class or the kind is
abbrev pub element : Elements ℕ → List ℕ
element Bools = number 1 0
element Ints = number 1 1
element Uints = number 1 2
element Int64s = number 1 3
element Uint64s = number 1 4
element (Handles owner class) = number 1 5 ++ (number 1 owner ++ number 2 class)
element (Hosts kind) = number 1 6 ++ number 2 kind

-- a script object after its tag: its module, its class and its fields
abbrev pub script : ℕ → ℕ → List Word → List ℕ
script owner class fields = number 1 owner ++ (number 2 class ++ items 1 word fields)

-- a host object after its tag: its kind and its state
abbrev pub host : ℕ → List ℕ → List ℕ
host kind state = number 2 kind ++ text 2 state

-- an array after its tag: what its elements are, and the elements
abbrev pub array : Elements ℕ → List Word → List ℕ
array of elements = element of ++ items 2 word elements

-- a tag, and the object
abbrev pub plain : Plain ℕ → List ℕ
plain (Script owner class fields) = number 1 1 ++ script owner class fields
plain (Host kind state) = number 1 2 ++ host kind state
plain (Array of elements) = number 1 3 ++ array of elements

-- what has a spelling

abbrev pub FitsElement : Elements ℕ → Type 0
FitsElement (Handles owner class) = (owner < 2 ^ 8) × (class < 2 ^ 16)
FitsElement (Hosts kind) = kind < 2 ^ 16
FitsElement _ = ⊤

pub record FitsScript (owner class : ℕ) (fields : List Word) : Type 0 where
  pub owner_fits : owner < 2 ^ 8
  pub class_fits : class < 2 ^ 16
  pub few : length fields ≤ max_class_members
  pub words : AllByRecursion FitsWord fields

pub record FitsHost (kind : ℕ) (state : List ℕ) : Type 0 where
  pub kind_fits : kind < 2 ^ 16
  pub short : length state ≤ max_state_bytes

pub record FitsArray (of : Elements ℕ) (elements : List Word) : Type 0 where
  pub element_fits : FitsElement of
  pub few : length elements ≤ max_elements
  pub words : AllByRecursion FitsWord elements

-- an object whose numbers are in the ranges of their fields, and whose words are within their limits
abbrev pub FitsPlain : Plain ℕ → Type 0
FitsPlain (Script owner class fields) = FitsScript owner class fields
FitsPlain (Host kind state) = FitsHost kind state
FitsPlain (Array of elements) = FitsArray of elements

-- reading

-- what the elements with this tag are
unfoldable pub element_case : ℕ → List ℕ → Option (Elements ℕ × List ℕ)
element_case zero = λ rest. Some (Bools, rest)
element_case (suc zero) = λ rest. Some (Ints, rest)
element_case (suc (suc zero)) = λ rest. Some (Uints, rest)
element_case (suc (suc (suc zero))) = λ rest. Some (Int64s, rest)
element_case (suc (suc (suc (suc zero)))) = λ rest. Some (Uint64s, rest)
element_case (suc (suc (suc (suc (suc zero))))) = as_at (λ x. Handles x.0 x.1) (pair_at (number_at 1) (number_at 2))
element_case (suc (suc (suc (suc (suc (suc zero)))))) = as_at (λ n. Hosts n) (number_at 2)
element_case (suc (suc (suc (suc (suc (suc (suc more))))))) = λ rest. None

unfoldable pub element_at : List ℕ → Option (Elements ℕ × List ℕ)
element_at = tagged_at element_case

-- a count that fields may have, and so many words
unfoldable pub fields_at : List ℕ → Option (List Word × List ℕ)
fields_at = items_at (checked_at (λ n. nat_le n max_class_members) (number_at 1)) word_at

-- a count that elements may have, and so many words
unfoldable pub elements_at : List ℕ → Option (List Word × List ℕ)
elements_at = items_at (checked_at (λ n. nat_le n max_elements) (number_at 2)) word_at

-- a state that a host object may have
unfoldable pub state_at : List ℕ → Option (List ℕ × List ℕ)
state_at = checked_at (λ state. nat_le (length state) max_state_bytes) (text_at 2)

-- a kind, and a state
unfoldable pub kind_and_state_at : List ℕ → Option ((ℕ × List ℕ) × List ℕ)
kind_and_state_at = pair_at (number_at 2) state_at

unfoldable pub script_at : List ℕ → Option (Plain ℕ × List ℕ)
script_at = as_at (λ (x : ℕ × (ℕ × List Word)). Script x.0 x.1.0 x.1.1)
    (pair_at (number_at 1) (pair_at (number_at 2) fields_at))

unfoldable pub array_at : List ℕ → Option (Plain ℕ × List ℕ)
array_at = as_at (λ (x : Elements ℕ × List Word). Array x.0 x.1) (pair_at element_at elements_at)

-- an object with this tag
unfoldable pub plain_case : ℕ → List ℕ → Option (Plain ℕ × List ℕ)
plain_case zero = λ rest. None
plain_case (suc zero) = script_at
plain_case (suc (suc zero)) = as_at (λ (x : ℕ × List ℕ). Host x.0 x.1) kind_and_state_at
plain_case (suc (suc (suc zero))) = array_at
plain_case (suc (suc (suc (suc more)))) = λ rest. None

-- a tag, and the object with it
unfoldable pub plain_at : List ℕ → Option (Plain ℕ × List ℕ)
plain_at = tagged_at plain_case
