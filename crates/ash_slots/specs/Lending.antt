-- What a store ends as where a `&mut` to an item is returned.
use Rattle.std.specs.Prelude.{ℕ}
use Rattle.std.specs.Borrow.{Lends, Fml, RattleType, MutBor}
use Rattle.ash_slots.specs.Store.{Store, change_in, with_item}
use Rattle.ash_slots.specs.declared.entry.Occupant.{Occupant}
use Rattle.ash_slots.specs.contracts.store.Store as store
use Rattle.ash_slots.specs.contracts.entry.Occupant as item

-- the object in the slot ends with what was last written
abbrev pub lends_item : (B : RattleType) → MutBor (Store B.Denot) → ℕ → MutBor (Occupant B.Denot) → Fml
lends_item B s slot r = Lends (store.the_row B) (item.the_row B) s r
    (λ written. record s.now { objects = change_in slot (with_item written) (s.now).objects })
