-- The table: objects by their numbers, and what else a host has of objects.
use Rattle.std.specs.Prelude.{◌≡◌, ℕ, ◌+◌, ◌-◌, Bool, true, List, Option, Some, IsSome, IfSome, sum_by, slice_get}
use Rattle.std.specs.Option.{option_map, option_map_or, option_and_then}
use Rattle.std.specs.Map.{values_of}
use Rattle.ash_host.specs.declared.word.Word.{Word}
use Rattle.ash_host.specs.Objects.{object_at, Lives, handle, handles_to}
use Rattle.ash_slots.specs.declared.body.Body.{Body}
use Rattle.ash_slots.specs.Bodies.{words_of, with_word}
use Rattle.ash_slots.specs.Store.{change_at}

-- An object: the slot that it is in, how many holds of it were not undone, whether it was made or changed since the
-- marks were cleared, and what it is.
pub record Living (B : Type 0) : Type 0 where
  pub slot : ℕ
  pub holds : ℕ
  pub touched : Bool
  pub body : Body B

-- The objects by ascending number, the free boxes and the services in order, the last number given, the last number
-- given when the marks were cleared, and the numbers that went since then.
pub record Table (B : Type 0) : Type 0 where
  pub objects : List (ℕ × Living B)
  pub pool : List B
  pub services : List B
  pub last : ℕ
  pub settled : ℕ
  pub gone : List ℕ

module _ {B : Type 0} where
  -- how many fields of these objects hold an object
  abbrev pub fields_holding : ℕ → List (ℕ × Living B) → ℕ
  fields_holding number objects = sum_by (λ object. handles_to number (words_of object.body)) (values_of objects)

  -- how many holds of an object were not undone; none where none lives
  abbrev pub holds_of : ℕ → Table B → ℕ
  holds_of number table = option_map_or (λ object. object.holds) (object_at number table.objects) 0

  -- the count of an object: the fields that hold it, and one for each hold that was not undone
  abbrev pub count_of : ℕ → Table B → ℕ
  count_of number table = holds_of number table + fields_holding number table.objects

  -- the slot of an object
  abbrev pub slot_of : ℕ → Table B → Option ℕ
  slot_of number table = option_map (λ object. object.slot) (object_at number table.objects)

  -- what an object is
  abbrev pub body_of : ℕ → Table B → Option (Body B)
  body_of number table = option_map (λ object. object.body) (object_at number table.objects)

  -- an object lives in a slot
  abbrev pub IsInUse : ℕ → Table B → Type 0
  IsInUse slot table = (number : ℕ) × (slot_of number table ≡ Some slot)

  -- the word at a place of an object
  abbrev pub field_of : ℕ → ℕ → Table B → Option Word
  field_of number place table = option_and_then (λ object. slice_get (words_of object.body) place)
      (object_at number table.objects)

  -- The object in a slot has a word at a place.
  abbrev pub HasFieldIn : ℕ → ℕ → Table B → Type 0
  HasFieldIn slot place table = (number : ℕ) × (slot_of number table ≡ Some slot) × IsSome (field_of number place table)

  -- the object that a word is a handle to lives, if it is one
  abbrev pub IsAlive : Word → Table B → Type 0
  IsAlive word table = IfSome (handle word) (Lives table.objects)

  -- the table with an object changed
  abbrev pub with_object : ℕ → (Living B → Living B) → Table B → Table B
  with_object number change table = record table { objects = change_at number change table.objects }

  -- an object that is held once more, or once less
  abbrev pub held : Living B → Living B
  held object = record object { holds = object.holds + 1 }

  abbrev pub unheld : Living B → Living B
  unheld object = record object { holds = object.holds - 1 }

  -- an object with a word at a place, which touches it
  abbrev pub with_field : ℕ → Word → Living B → Living B
  with_field place word object = record object { touched = true; body = with_word place word object.body }
