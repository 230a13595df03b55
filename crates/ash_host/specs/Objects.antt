-- Objects as plain data: what lives by which number, what refers to what, and how many handles there are.
use Rattle.std.specs.Prelude.{ℕ, ◌+◌, ◌<◌, ◌≤◌, ◌==◌, Bool, true, false, List}
use Rattle.std.specs.Prelude.{[], Option, None, Some, IsSome, Contains, nat_eq, count_by, sum_by}
use Rattle.std.specs.List.{filter_map}
use Rattle.std.specs.List.Sorted.{IsStrictlyIncreasing}
use Rattle.std.specs.Option.{option_map_or}
use Rattle.std.specs.BTreeMap.{insert_entry}
use Rattle.std.specs.Ordering.{nat_cmp}
use Rattle.std.specs.Map.{lookup, keys_of, values_of}
use Rattle.ash_host.specs.declared.word.Word.{Word}
use Rattle.ash_host.specs.declared.word.Word.TheVariants.{Object}

-- M is what a module is known by, its name or the slot of a table.

-- What the elements of an array are of. Handles of objects of a class or an interface have the module and the place of
-- the class or the interface in its source; handles of host objects have the kind.
pub data Elements (M : Type 0) : Type 0 where
  Bools : Elements M
  Ints : Elements M
  Uints : Elements M
  Int64s : Elements M
  Uint64s : Elements M
  Handles : (owner : M) (place : ℕ) → Elements M
  Hosts : (kind : ℕ) → Elements M

-- An object. A script object has the module and the place of its class in the module's source, and its fields in
-- order of declaration; an array has what its elements are of, and the elements; a host object has its kind and its
-- state.
pub data Plain (M : Type 0) : Type 0 where
  Script : (owner : M) (place : ℕ) (fields : List Word) → Plain M
  Array : (of : Elements M) (elements : List Word) → Plain M
  Host : (kind : ℕ) (state : List ℕ) → Plain M

-- the live objects by their numbers, each number below the next
abbrev pub LiveObjects : Type 0 → Type 0
LiveObjects M = List (ℕ × Plain M)

-- what lives at a number, if anything does
abbrev pub object_at : {A : Type 0} → ℕ → List (ℕ × A) → Option A
object_at number entries = lookup (nat_eq number) entries

-- the numbers, in order
abbrev pub numbers : {A : Type 0} → List (ℕ × A) → List ℕ
numbers entries = keys_of entries

-- an object lives by this number
abbrev pub Lives : {A : Type 0} → List (ℕ × A) → ℕ → Type 0
Lives entries number = IsSome (object_at number entries)

-- each number is below the next
abbrev pub IsInOrder : {A : Type 0} → List (ℕ × A) → Type 0
IsInOrder entries = IsStrictlyIncreasing (numbers entries)

-- the entries with another value at a number, a new number at its place in the order
abbrev pub with_at : {A : Type 0} → ℕ → A → List (ℕ × A) → List (ℕ × A)
with_at number value entries = insert_entry nat_cmp entries number value

-- the object that a word is a handle to
abbrev pub handle : Word → Option ℕ
handle (Object number) = Some number
handle _ = None

-- the objects that words are handles to
abbrev pub handles : List Word → List ℕ
handles words = filter_map handle words

-- the words of an object: its fields, or its elements; a host object has none
abbrev pub fields_of : {M : Type 0} → Plain M → List Word
fields_of (Script _ _ fields) = fields
fields_of (Array _ elements) = elements
fields_of (Host _ _) = []

-- whether an object is a host object
abbrev pub is_host : {M : Type 0} → Plain M → Bool
is_host (Script _ _ _) = false
is_host (Array _ _) = false
is_host (Host _ _) = true

-- what the object of a number refers to by its words; nothing where none lives
abbrev pub references : {M : Type 0} → LiveObjects M → ℕ → List ℕ
references objects number = option_map_or (λ object. handles (fields_of object)) (object_at number objects) []

-- a field or an element of the object of one number is a handle to the other
abbrev pub Refers : {M : Type 0} → LiveObjects M → ℕ → ℕ → Type 0
Refers objects one other = Contains (references objects one) other

-- whether a word is a handle to an object
abbrev pub is_handle_to : ℕ → Word → Bool
is_handle_to number (Object other) = number == other
is_handle_to _ _ = false

-- how many of these words are handles to an object
abbrev pub handles_to : ℕ → List Word → ℕ
handles_to number words = count_by (is_handle_to number) words

-- how many fields and elements are handles to an object
abbrev pub fields_to : {M : Type 0} → ℕ → LiveObjects M → ℕ
fields_to number objects = sum_by (λ object. handles_to number (fields_of object)) (values_of objects)

-- the count of an object: the globals, the fields and the elements that are handles to it
abbrev pub count_of : {M : Type 0} → ℕ → List Word → LiveObjects M → ℕ
count_of number globals objects = handles_to number globals + fields_to number objects

-- numbers begin at 1, rise, and none is above the last that was given
pub record AreNumbered {A : Type 0} (last : ℕ) (entries : List (ℕ × A)) : Type 0 where
  pub in_order : IsInOrder entries
  pub given : (number : ℕ) → Lives entries number → (0 < number) × (number ≤ last)
