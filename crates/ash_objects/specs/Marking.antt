-- The marks of objects that were made or changed.
use Rattle.std.specs.Prelude.{◌≡◌, ℕ, false, List, [], ◌∷◌, IfSome, filter, map}
use Rattle.std.specs.Map.{keys_of}
use Rattle.ash_host.specs.Objects.{object_at}
use Rattle.ash_slots.specs.Store.{SlotEntry, change_at}
use Rattle.ash_objects.specs.Table.{Living, Table}

module _ {B : Type 0} where
  -- the objects that were made or changed since the marks were cleared, by ascending number
  abbrev pub marked_of : Table B → List ℕ
  marked_of table = keys_of (filter (λ e. (e.1).touched) table.objects)

  -- an object without its mark
  abbrev pub settled_object : Living B → Living B
  settled_object object = record object { touched = false }

  -- the table once the marks were cleared
  abbrev pub without_marks : Table B → Table B
  without_marks table = record table {
    objects = map (λ e. (e.0, settled_object e.1)) table.objects;
    settled = table.last;
    gone = [];
  }

  -- the table once the numbers that went were taken, whatever is marked
  abbrev pub without_gone : Table B → Table B
  without_gone table = record table { settled = table.last; gone = [] }

  -- the numbers of those that have a mark, by ascending number
  abbrev pub marked_in : List (ℕ × SlotEntry B) → List ℕ
  marked_in objects = keys_of (filter (λ e. (e.1.item).touched) objects)

  -- no object has a mark
  abbrev pub NoneMarked : List (ℕ × SlotEntry B) → Type 0
  NoneMarked objects = (number : ℕ) → IfSome (object_at number objects) (λ object. (object.item).touched ≡ false)

  -- an object in its slot without its mark
  abbrev pub unmarked : SlotEntry B → SlotEntry B
  unmarked object = record object { item = record object.item { touched = false } }

  -- the objects, these without their marks
  abbrev pub unmark_all : List ℕ → List (ℕ × SlotEntry B) → List (ℕ × SlotEntry B)
  unmark_all [] objects = objects
  unmark_all (number ∷ numbers) objects = unmark_all numbers (change_at number unmarked objects)
