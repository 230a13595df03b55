-- Arrays.
use Rattle.std.specs.Prelude.{◌≡◌, ℕ, true, List, Option, None, Some, IsSome}
use Rattle.std.specs.Option.{option_and_then}
use Rattle.ash_host.specs.declared.word.Word.{Word}
use Rattle.ash_slots.specs.declared.body.Array as arrays
use Rattle.ash_slots.specs.declared.body.Body.{Body}
use Rattle.ash_slots.specs.declared.body.Body.TheVariants.{Script, Array, Host}
use Rattle.ash_slots.specs.SlotArrays.{array_of, with_words}
use Rattle.ash_objects.specs.Table.{Living, Table, slot_of, body_of}

module _ {B : Type 0} where
  -- the elements of an array; what is none has none
  abbrev pub elements_of : Body B → Option (List Word)
  elements_of (Script _) = None
  elements_of (Array array) = Some array.elements
  elements_of (Host _) = None

  -- the elements of the array of a number
  abbrev pub elements_at : ℕ → Table B → Option (List Word)
  elements_at number table = option_and_then elements_of (body_of number table)

  -- the array of a number
  abbrev pub array_at : ℕ → Table B → Option arrays.Array
  array_at number table = option_and_then array_of (body_of number table)

  -- The object in a slot is an array, which has elements.
  abbrev pub HasElementsIn : ℕ → Table B → Type 0
  HasElementsIn slot table = (number : ℕ) × (slot_of number table ≡ Some slot) × IsSome (elements_at number table)

  -- The object in a slot is an array.
  abbrev pub IsArrayOfTable : ℕ → Table B → Type 0
  IsArrayOfTable slot table = (number : ℕ) × (slot_of number table ≡ Some slot) × IsSome (array_at number table)

  -- an array with other elements, which touches it
  abbrev pub with_elements : List Word → Living B → Living B
  with_elements words object = record object { touched = true; body = with_words words object.body }
