-- The sweep: what no hold and no object that stays leads to goes.
use Rattle.std.specs.Prelude.{◌≡◌, ◌↔◌, ◌<◌, ℕ, List, ◌++◌, None, IsSomeAnd, Contains, filter, map, nat_le}
use Rattle.std.specs.Option.{is_none}
use Rattle.std.specs.Map.{keys_of}
use Rattle.ash_host.specs.declared.event.Event.{Event}
use Rattle.ash_host.specs.declared.event.Event.TheVariants.{Dropped}
use Rattle.ash_host.specs.Objects.{object_at, Lives, handles}
use Rattle.ash_host.specs.Reach.{Reachable}
use Rattle.ash_slots.specs.Bodies.{words_of, is_boxed}
use Rattle.ash_objects.specs.Table.{Living, Table, holds_of, count_of}

module _ {B : Type 0} where
  -- a word of one object is a handle to another
  abbrev pub RefersTo : List (ℕ × Living B) → ℕ → ℕ → Type 0
  RefersTo objects one other = IsSomeAnd (object_at one objects)
      (λ object. Contains (handles (words_of object.body)) other)

  -- an object is held, or an object that is reachable refers to it
  abbrev pub IsReachable : Table B → ℕ → Type 0
  IsReachable table number = Reachable (λ root. 0 < holds_of root table) (RefersTo table.objects) number

  -- the objects that lived and live no longer, by ascending number
  abbrev pub gone_from : List (ℕ × Living B) → List (ℕ × Living B) → List (ℕ × Living B)
  gone_from old new = filter (λ e. is_none (object_at e.0 new)) old

  -- those numbers of them that had been given when the marks were cleared
  abbrev pub gone_since : ℕ → List (ℕ × Living B) → List ℕ
  gone_since settled gone = filter (λ number. nat_le number settled) (keys_of gone)

  -- the events of those that were host objects
  abbrev pub drops : List (ℕ × Living B) → List Event
  drops gone = map (λ number. Dropped number) (keys_of (filter (λ e. is_boxed e.1.body) gone))

  -- What a sweep does: what is left is counted and is as it was; what goes is not held, and nothing that is left refers
  -- to it; the table keeps the numbers that went, and all else is as it was.
  pub record Collects (old new : Table B) : Type 0 where
    pub counted : (number : ℕ) → Lives new.objects number → 0 < count_of number new
    pub unchanged : (number : ℕ) → Lives new.objects number → object_at number new.objects
        ≡ object_at number old.objects
    pub not_held : (number : ℕ) → object_at number new.objects ≡ None → holds_of number old ≡ 0
    pub not_referred : (one other : ℕ) → object_at other new.objects ≡ None → Lives new.objects one
        → ¬ RefersTo old.objects one other
    pub others : new ≡ record old {
      objects = new.objects;
      gone = old.gone ++ gone_since old.settled (gone_from old.objects new.objects);
    }

  -- ranks below a bound that fall from each object to those that it refers to
  pub record RanksFall (rank : ℕ → ℕ) (top : ℕ) (table : Table B) : Type 0 where
    pub below : (number : ℕ) → Lives table.objects number → rank number < top
    pub falls : (one other : ℕ) → RefersTo table.objects one other → rank other < rank one

  -- exactly what was reachable is left
  abbrev pub LeavesReachable : Table B → Table B → Type 0
  LeavesReachable old new = (number : ℕ) → Lives new.objects number ↔ IsReachable old number
