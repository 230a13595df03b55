-- Objects in their slots, as a list by ascending number.
use Rattle.std.specs.Prelude.{◌≡◌, ℕ, ◌+◌, ◌≤◌, Bool, true, false}
use Rattle.std.specs.Prelude.{not, List, [], ◌∷◌, length, Option, None}
use Rattle.std.specs.Prelude.{Some, IfSome, IsSomeAnd, Contains, nat_eq, count_by, if◌then◌else◌}
use Rattle.slab.specs.Slab.{Slab, get}
use Rattle.ash_host.specs.Objects.{object_at, IsInOrder}
use Rattle.ash_slots.specs.declared.entry.Occupant.{Occupant}
use Rattle.ash_slots.specs.declared.entry.Entry.{Entry}

-- an object with the slot that it is in, and whether the next sweep looks at it
pub record SlotEntry (B : Type 0) : Type 0 where
  pub slot : ℕ
  pub waiting : Bool
  pub item : Occupant B

-- the objects by ascending number, how many slots wait for the sweep, how many can, and the slot that the next object
-- is put into
pub record Store (B : Type 0) : Type 0 where
  pub objects : List (ℕ × SlotEntry B)
  pub pending : ℕ
  pub room : ℕ
  pub vacant : ℕ

module _ {B : Type 0} where
  -- an entry in a slot
  abbrev pub placed : ℕ → Entry B → SlotEntry B
  placed slot entry = record { slot = slot; waiting = entry.waiting; item = entry.item }

  -- the object of a number in a slot before the others; nothing where the slot is empty
  abbrev pub with_entry : ℕ → ℕ → Option (Entry B) → List (ℕ × SlotEntry B) → List (ℕ × SlotEntry B)
  with_entry number slot None rest = rest
  with_entry number slot (Some entry) rest = (number, placed slot entry) ∷ rest

  -- the objects that are in these slots, each slot with its object's number
  abbrev pub placed_in : Slab (Entry B) → List (ℕ × ℕ) → List (ℕ × SlotEntry B)
  placed_in entries [] = []
  placed_in entries (e ∷ index) = with_entry e.0 e.1 (get entries e.1) (placed_in entries index)

  -- each number's slot has an entry of that number
  abbrev pub ArePlaced : Slab (Entry B) → List (ℕ × ℕ) → Type 0
  ArePlaced entries [] = Unit {0}
  ArePlaced entries (e ∷ index) = IsSomeAnd (get entries e.1) (λ entry. entry.number ≡ e.0) × ArePlaced entries index

  -- whether a slot has an object that doesn't wait for the sweep
  abbrev pub is_unlisted : Option (Entry B) → Bool
  is_unlisted None = false
  is_unlisted (Some entry) = not entry.waiting

  -- The index leads from each number to its entry and to every entry, each waiting entry is listed, and the list has
  -- room for all others.
  pub record IsStored (entries : Slab (Entry B)) (index : List (ℕ × ℕ)) (idle : List ℕ) (room : ℕ) : Type 0 where
    pub in_order : IsInOrder index
    pub placed : ArePlaced entries index
    pub whole : (slot : ℕ) → IfSome (get entries slot) (λ entry. object_at entry.number index ≡ Some slot)
    pub listed : (slot : ℕ) → IfSome (get entries slot) (λ entry. entry.waiting ≡ true → Contains idle slot)
    pub fits : count_by is_unlisted entries.slots + length idle ≤ room

  -- the object of a number is in a slot
  abbrev pub IsIn : ℕ → ℕ → List (ℕ × SlotEntry B) → Type 0
  IsIn number slot objects = IsSomeAnd (object_at number objects) (λ object. object.slot ≡ slot)

  -- an object lives in a slot
  abbrev pub IsOccupied : ℕ → List (ℕ × SlotEntry B) → Type 0
  IsOccupied slot objects = (number : ℕ) × IsIn number slot objects

  -- each number is below the next, and each slot has one object at the most
  pub record AreStored (objects : List (ℕ × SlotEntry B)) : Type 0 where
    pub in_order : IsInOrder objects
    pub apart : (slot one other : ℕ) → IsIn one slot objects → IsIn other slot objects → one ≡ other

  -- the object in a slot is counted nowhere
  abbrev pub IsIdle : ℕ → List (ℕ × SlotEntry B) → Type 0
  IsIdle slot objects = (number : ℕ) × IsSomeAnd (object_at number objects) (λ object. (object.slot ≡ slot)
      × ((object.item).count ≡ 0))

  -- no object waits for the sweep
  abbrev pub NoneWaits : List (ℕ × SlotEntry B) → Type 0
  NoneWaits objects = (number : ℕ) → IfSome (object_at number objects) (λ object. object.waiting ≡ false)

  -- the objects, with the one in a slot changed
  abbrev pub change_in : ℕ → (SlotEntry B → SlotEntry B) → List (ℕ × SlotEntry B) → List (ℕ × SlotEntry B)
  change_in slot change [] = []
  change_in slot change (e ∷ objects) = (e.0, if nat_eq slot (e.1).slot then change e.1 else e.1)
      ∷ change_in slot change objects

  -- an object with another item
  abbrev pub with_item : Occupant B → SlotEntry B → SlotEntry B
  with_item item object = record object { item = item }

  -- an object that waits for the sweep, or doesn't
  abbrev pub with_waiting : Bool → SlotEntry B → SlotEntry B
  with_waiting waiting object = record object { waiting = waiting }

-- the entries, with the value at a number changed
abbrev pub change_at : {A : Type 0} → ℕ → (A → A) → List (ℕ × A) → List (ℕ × A)
change_at number change [] = []
change_at number change (e ∷ entries) = (e.0, if nat_eq number e.0 then change e.1 else e.1)
    ∷ change_at number change entries
