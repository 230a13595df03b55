-- How the table counts: what it stores of each object, and what a contract sees of it.
use Rattle.std.specs.Prelude.{◌≡◌, ℕ, ◌+◌, ◌-◌, ◌<◌, ◌≤◌, ◌^◌, true, List, [], ◌∷◌, length, All, Option, IfSome, sum_by}
use Rattle.std.specs.Option.{option_map, option_map_or}
use Rattle.std.specs.Map.{values_of}
use Rattle.ash_host.specs.declared.word.Word.{Word}
use Rattle.ash_host.specs.Objects.{object_at, Lives, IsInOrder, handle, handles_to}
use Rattle.ash_slots.specs.Bodies.{words_of}
use Rattle.ash_slots.specs.Store.{SlotEntry}
use Rattle.ash_slots.specs.SlotCounting.{counted, change_handle, incremented, decremented}
use Rattle.ash_objects.specs.Table.{Living}
use Rattle.ash_host.specs.Limits.{max_objects, max_elements}

module _ {B : Type 0} where
  -- how many handles to an object another one holds
  abbrev pub holding : ℕ → SlotEntry B → ℕ
  holding number object = handles_to number (words_of (object.item).body)

  -- how many handles to an object these hold
  abbrev pub fields_in : ℕ → List (ℕ × SlotEntry B) → ℕ
  fields_in number objects = sum_by (holding number) (values_of objects)

  -- what a contract sees of an object to which there are so many handles in fields
  abbrev pub living : ℕ → SlotEntry B → Living B
  living handles object = record {
    slot = object.slot;
    holds = (object.item).count - handles;
    touched = (object.item).touched;
    body = (object.item).body;
  }

  -- what a contract sees of an object but its holds
  abbrev pub face : SlotEntry B → Living B
  face object = record { slot = object.slot; holds = 0; touched = (object.item).touched; body = (object.item).body }

  abbrev pub face_at : ℕ → List (ℕ × SlotEntry B) → Option (Living B)
  face_at number objects = option_map face (object_at number objects)

  -- the same of some objects among all
  abbrev pub living_among : List (ℕ × SlotEntry B) → List (ℕ × SlotEntry B) → List (ℕ × Living B)
  living_among all [] = []
  living_among all (e ∷ objects) = (e.0, living (fields_in e.0 all) e.1) ∷ living_among all objects

  -- the same of all
  abbrev pub living_in : List (ℕ × SlotEntry B) → List (ℕ × Living B)
  living_in objects = living_among objects objects

  -- Counts cover the handles in fields, with at most 2^127 holds beside them; what has none waits for the sweep; no
  -- object is longer than an array may be, and there are no more than may live.
  pub record AreCounted (objects : List (ℕ × SlotEntry B)) : Type 0 where
    pub covered : (number : ℕ) → fields_in number objects ≤ counted number objects
    pub bounded : (number : ℕ) → counted number objects ≤ fields_in number objects + 2 ^ 127
    pub waiting : (number : ℕ)
        → IfSome (object_at number objects) (λ object. (object.item).count ≡ 0 → object.waiting ≡ true)
    pub short : (number : ℕ)
        → IfSome (object_at number objects) (λ object. length (words_of (object.item).body) ≤ max_elements)
    pub few : length objects ≤ max_objects

  -- every number was given: none is 0 or above the last
  abbrev pub AreGiven : ℕ → List (ℕ × SlotEntry B) → Type 0
  AreGiven last objects = (number : ℕ) → Lives objects number → (0 < number) × (number ≤ last)

  -- the words of an object; none where none lives
  abbrev pub words_at : ℕ → List (ℕ × SlotEntry B) → List Word
  words_at number objects = option_map_or (λ object. words_of (object.item).body) (object_at number objects) []

  -- each object that these words are handles to lives
  abbrev pub AllLive : List (ℕ × SlotEntry B) → List Word → Type 0
  AllLive objects words = All (λ word. IfSome (handle word) (Lives objects)) words

  -- the objects, each counted once more for each of these words that is a handle to it
  abbrev pub refer_all : List Word → List (ℕ × SlotEntry B) → List (ℕ × SlotEntry B)
  refer_all [] objects = objects
  refer_all (word ∷ words) objects = refer_all words (change_handle incremented (handle word) objects)

  -- the objects, each counted once less for each of these words that is a handle to it
  abbrev pub release_all : List Word → List (ℕ × SlotEntry B) → List (ℕ × SlotEntry B)
  release_all [] objects = objects
  release_all (word ∷ words) objects = release_all words (change_handle decremented (handle word) objects)

  -- what holds of the objects of a table
  pub record IsTable (objects : List (ℕ × SlotEntry B)) (last settled : ℕ) : Type 0 where
    pub in_order : IsInOrder objects
    pub counted : AreCounted objects
    pub given : AreGiven last objects
    pub cleared : settled ≤ last
