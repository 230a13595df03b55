-- What holds of every table.
use Rattle.std.specs.Prelude.{◌≡◌, ℕ, ◌<◌, ◌≤◌, ◌^◌, Some, IfSome, length}
use Rattle.ash_host.specs.Limits.{max_objects, max_elements}
use Rattle.ash_host.specs.Objects.{AreNumbered, Lives}
use Rattle.ash_slots.specs.Bodies.{words_of}
use Rattle.ash_objects.specs.Table.{Table, slot_of, body_of, holds_of, fields_holding}
use Rattle.ash_objects.specs.Sweeping.{RefersTo}

-- The objects are in order, and their numbers were given; there are no more than may live, none has more words than it
-- may, and each has a slot of its own. A word is a handle only to an object that lives. Holds stay far below what can be
-- counted, and so do the fields that hold an object.
pub record IsSoundTable {B : Type 0} (table : Table B) : Type 0 where
  pub numbered : AreNumbered table.last table.objects
  pub cleared : table.settled ≤ table.last
  pub given : table.last < 2 ^ 64
  pub few : length table.objects ≤ max_objects
  pub short : (number : ℕ) → IfSome (body_of number table) (λ body. length (words_of body) ≤ max_elements)
  pub apart : (slot one other : ℕ) → slot_of one table ≡ Some slot → slot_of other table ≡ Some slot → one ≡ other
  pub alive : (one other : ℕ) → RefersTo table.objects one other → Lives table.objects other
  pub small : (number : ℕ) → fields_holding number table.objects ≤ 2 ^ 24
  pub held : (number : ℕ) → holds_of number table ≤ 2 ^ 127
