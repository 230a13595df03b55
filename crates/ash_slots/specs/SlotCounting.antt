-- The count of an object, and what the code changes of an object in its slot.
use Rattle.std.specs.Prelude.{ℕ, ◌+◌, ◌-◌, ◌<◌, ◌==◌, true, List, length, Option, None, Some, IsSomeAnd, if◌then◌else◌}
use Rattle.std.specs.Option.{option_map_or}
use Rattle.ash_host.specs.declared.word.Word.{Word}
use Rattle.ash_host.specs.Objects.{object_at}
use Rattle.ash_slots.specs.declared.entry.Occupant.{Occupant}
use Rattle.ash_slots.specs.Bodies.{words_of, with_word}
use Rattle.ash_slots.specs.Store.{SlotEntry, IsIn, with_item, change_at}

module _ {B : Type 0} where
  -- the count that the store has of an object; 0 where none lives
  abbrev pub counted : ℕ → List (ℕ × SlotEntry B) → ℕ
  counted number objects = option_map_or (λ object. (object.item).count) (object_at number objects) 0

  -- an object with another count
  abbrev pub with_count : ℕ → Occupant B → Occupant B
  with_count count item = record item { count = count }

  -- an object that is counted once more
  abbrev pub incremented : SlotEntry B → SlotEntry B
  incremented object = with_item (with_count ((object.item).count + 1) object.item) object

  -- an object that is counted once less; where nothing is left it waits for the sweep
  abbrev pub decremented : SlotEntry B → SlotEntry B
  decremented object = record {
    slot = object.slot;
    waiting = if (object.item).count == 1 then true else object.waiting;
    item = with_count ((object.item).count - 1) object.item;
  }

  -- the objects, with the one that a word is a handle to changed, if it is one
  abbrev pub change_handle : (SlotEntry B → SlotEntry B) → Option ℕ → List (ℕ × SlotEntry B) → List (ℕ × SlotEntry B)
  change_handle change None objects = objects
  change_handle change (Some number) objects = change_at number change objects

  -- The object in a slot has a word at a place.
  abbrev pub HasWordIn : ℕ → ℕ → List (ℕ × SlotEntry B) → Type 0
  HasWordIn slot place objects =
      (number : ℕ) × IsIn number slot objects
      × IsSomeAnd (object_at number objects) (λ object. place < length (words_of (object.item).body))

  -- an object with a word at a place, which touches it
  abbrev pub written : ℕ → Word → SlotEntry B → SlotEntry B
  written place word object =
      with_item
      (record { count = (object.item).count; touched = true; body = with_word place word (object.item).body }) object
