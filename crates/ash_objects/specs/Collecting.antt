-- What the code does to collect what nothing counts.
use Rattle.std.specs.Prelude.{◌≡◌, ◌+◌, ◌≤◌, ℕ, Bool, true, List, length, None, IfSome, filter, map, nat_le, sum_by}
use Rattle.std.specs.Map.{keys_of}
use Rattle.ash_host.specs.declared.event.Event.{Event}
use Rattle.ash_host.specs.declared.event.Event.TheVariants.{Dropped}
use Rattle.ash_host.specs.Objects.{object_at, Lives, IsInOrder}
use Rattle.ash_slots.specs.declared.entry.Entry.{Entry}
use Rattle.ash_slots.specs.Bodies.{is_boxed}
use Rattle.ash_slots.specs.Store.{SlotEntry}
use Rattle.ash_objects.specs.Counting.{fields_in, face_at}
use Rattle.ash_slots.specs.SlotCounting.{counted}

module _ {B : Type 0} where
  -- the number of an object, and whether it is a host object
  abbrev pub mark_of : ℕ × SlotEntry B → ℕ × Bool
  mark_of e = (e.0, is_boxed (e.1.item).body)

  abbrev pub entry_mark : Entry B → ℕ × Bool
  entry_mark entry = (entry.number, is_boxed (entry.item).body)

  -- Objects that went were counted nowhere, and the counts follow the words of those that are left. Whatever is summed
  -- over what was taken out and what is left is what it was over all.
  pub record HaveGone (old now : List (ℕ × SlotEntry B)) (taken : List (Entry B)) : Type 0 where
    pub in_order : IsInOrder now
    pub covered : (number : ℕ) → fields_in number now ≤ counted number now
    pub balance : (number : ℕ) → Lives now number → counted number now + fields_in number old
        ≡ counted number old + fields_in number now
    pub waiting : (number : ℕ)
        → IfSome (object_at number now) (λ object. (object.item).count ≡ 0 → object.waiting ≡ true)
    pub stay : (number : ℕ) → Lives now number → face_at number now ≡ face_at number old
    pub go : (number : ℕ) → object_at number now ≡ None → counted number old ≤ fields_in number old
    pub whole : (measure : ℕ × Bool → ℕ)
        → sum_by (λ entry. measure (entry_mark entry)) taken + sum_by (λ e. measure (mark_of e)) now
        ≡ sum_by (λ e. measure (mark_of e)) old
    pub many : length taken + length now ≡ length old

-- the numbers among these that had been given when the marks were cleared
abbrev pub marked_since : ℕ → List (ℕ × Bool) → List ℕ
marked_since settled went = filter (λ number. nat_le number settled) (keys_of went)

-- the events of the host objects among these
abbrev pub marked_drops : List (ℕ × Bool) → List Event
marked_drops went = map (λ number. Dropped number) (keys_of (filter (λ e. e.1) went))

-- these, by ascending number
pub record AreInOrder {B : Type 0} (taken : List (Entry B)) (went : List (ℕ × Bool)) : Type 0 where
  pub in_order : IsInOrder went
  pub same : (measure : ℕ × Bool → ℕ) → sum_by (λ entry. measure (entry_mark entry)) taken ≡ sum_by measure went
