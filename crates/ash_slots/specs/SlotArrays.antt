-- The elements of the array in a slot.
use Rattle.std.specs.Prelude.{ℕ, ◌-◌, ◌++◌, true, List, length, replicate, Option, None, Some, IsSome}
use Rattle.std.specs.Option.{option_and_then}
use Rattle.ash_host.specs.declared.word.Word.{Word}
use Rattle.ash_host.specs.Objects.{object_at}
use Rattle.ash_slots.specs.declared.body.Array as arrays
use Rattle.ash_slots.specs.declared.body.Body.{Body}
use Rattle.ash_slots.specs.declared.body.Body.TheVariants.{Script, Array, Host}
use Rattle.ash_host.specs.ElementTags.{initial_of}
use Rattle.ash_slots.specs.Store.{SlotEntry, IsIn, with_item}

module _ {B : Type 0} where
  -- the array that an object is; what is none has none
  abbrev pub array_of : Body B → Option arrays.Array
  array_of (Script _) = None
  array_of (Array array) = Some array
  array_of (Host _) = None

  -- the array of a number
  abbrev pub stored_array : ℕ → List (ℕ × SlotEntry B) → Option arrays.Array
  stored_array number objects = option_and_then (λ object. array_of (object.item).body) (object_at number objects)

  -- The object in a slot is an array.
  abbrev pub IsArrayIn : ℕ → List (ℕ × SlotEntry B) → Type 0
  IsArrayIn slot objects = (number : ℕ) × IsIn number slot objects × IsSome (stored_array number objects)

  -- an array with other elements
  abbrev pub with_words : List Word → Body B → Body B
  with_words words (Script script) = Script script
  with_words words (Array array) = Array (record array { elements = words })
  with_words words (Host box) = Host box

  -- an array with other elements, which touches it
  abbrev pub refilled : List Word → SlotEntry B → SlotEntry B
  refilled words object =
      with_item
      (record { count = (object.item).count; touched = true; body = with_words words (object.item).body }) object

-- the elements of an array, and then as many initial values of their type as make it so long
abbrev pub lengthened : ℕ → arrays.Array → List Word
lengthened many array = array.elements ++ replicate (many - length array.elements) (initial_of array.element)
