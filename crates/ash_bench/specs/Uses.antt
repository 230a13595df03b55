-- What calls of a table by slot need of the object in the slot.
use Rattle.std.specs.Prelude.{◌≡◌, ◌<◌, ◌^◌, ℕ, Some, IsSome}
use Rattle.ash_objects.specs.Table.{Table, slot_of, field_of, holds_of}

module _ {B : Type 0} where
  -- the object in a slot has a first field
  abbrev pub HasField : Table B → ℕ → Type 0
  HasField table slot = (number : ℕ) × (slot_of number table ≡ Some slot) × IsSome (field_of number 0 table)

  -- the object in a slot may be held once more
  abbrev pub MayBeHeld : Table B → ℕ → Type 0
  MayBeHeld table slot = (number : ℕ) × (slot_of number table ≡ Some slot) × (holds_of number table < 2 ^ 127)
