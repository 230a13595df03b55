-- Objects that are made.
use Rattle.std.specs.Prelude.{ℕ, ◌+◌, ◌≤◌, ◌^◌, ◌-◌, true, length, Option, nat_eq}
use Rattle.std.specs.List.{position}
use Rattle.ash_host.specs.declared.host_object.HostObject.{Ghosts}
use Rattle.ash_host.specs.Objects.{with_at}
use Rattle.ash_slots.specs.declared.body.Body.{Body}
use Rattle.ash_objects.specs.Table.{Living, Table}
use Rattle.ash_host.specs.Limits.{max_objects}

module _ {B : Type 0} where
  -- a new object, which nothing holds
  abbrev pub new_object : ℕ → Body B → Living B
  new_object slot body = record { slot = slot; holds = 0; touched = true; body = body }

  -- the table with a new object in a slot, which takes the next number
  abbrev pub with_new_object : ℕ → Body B → Table B → Table B
  with_new_object slot body table =
      record table { objects = with_at (table.last + 1) (new_object slot body) table.objects; last = table.last + 1 }

  -- as many objects live as may
  abbrev pub IsFull : Table B → Type 0
  IsFull table = max_objects ≤ length table.objects

  -- every number was given
  abbrev pub IsSpent : Table B → Type 0
  IsSpent table = 2 ^ 64 - 1 ≤ table.last

  -- the place of the first free box of a kind
  abbrev pub first_of_kind : Ghosts B → ℕ → Table B → Option ℕ
  first_of_kind G kind table = position (λ box. nat_eq (G.kind_of box) kind) table.pool
