-- The list of the slots of objects that were made or changed.
use Rattle.std.specs.Prelude.{◌≡◌, ℕ, ◌+◌, ◌<◌, ◌≤◌, Bool, true, false}
use Rattle.std.specs.Prelude.{not, List, length, IfSome, Contains, slice_index_or, count_by}
use Rattle.ash_host.specs.Objects.{object_at}
use Rattle.ash_slots.specs.Store.{SlotEntry}
use Rattle.ash_objects.specs.Counting.{IsTable}

-- the slots that are listed, and how many there can be: each below that number can be listed
pub record Marks : Type 0 where
  pub slots : List ℕ
  pub room : ℕ

-- Each slot whose flag is set is listed, and each that is listed has a flag. No more are listed than flags are set, so
-- none is twice, nor one whose flag is not set. There is room for as many as there are flags.
pub record AreFlagged (flags : List Bool) (slots : List ℕ) (room : ℕ) : Type 0 where
  pub listed : (slot : ℕ) → slice_index_or flags slot false ≡ true → Contains slots slot
  pub within : (slot : ℕ) → Contains slots slot → slot < length flags
  pub once : count_by not flags + length slots ≤ length flags
  pub fits : length flags ≤ room

-- What was listed is listed still, and what could be can be still.
pub record Covers (old new : Marks) : Type 0 where
  pub room : old.room ≤ new.room
  pub slots : (slot : ℕ) → Contains old.slots slot → Contains new.slots slot

module _ {B : Type 0} where
  -- each object is in a slot that can be listed, and in one that is where it was made or changed
  abbrev pub AreListed : List (ℕ × SlotEntry B) → Marks → Type 0
  AreListed objects marks = (number : ℕ) → IfSome (object_at number objects) (λ object. (object.slot < marks.room)
      × ((object.item).touched ≡ true → Contains marks.slots object.slot))

  -- what holds of the objects of a table and of the list of slots beside them
  pub record IsInListing (objects : List (ℕ × SlotEntry B)) (last settled : ℕ) (marks : Marks) : Type 0 where
    pub table : IsTable objects last settled
    pub listed : AreListed objects marks
