-- Which boxes answered, and what they are afterwards.
use Rattle.std.specs.Prelude.{◌≡◌, ℕ, List, ◌++◌, filter_map, slice_get, Option, Some, None}
use Rattle.std.specs.List.{AllByRecursion}
use Rattle.std.specs.Option.{option_map}
use Rattle.ash_host.specs.declared.event.Event.{Event}
use Rattle.ash_host.specs.declared.event.Event.TheVariants as events
use Rattle.ash_host.specs.declared.event.Target.{Target}
use Rattle.ash_host.specs.declared.event.Target.TheVariants as targets
use Rattle.ash_host.specs.declared.host_object.HostObject.{Ghosts}
use Rattle.ash_host.specs.Calls.{SameRelation}
use Rattle.ash_host.specs.Objects.{object_at, numbers}
use Rattle.ash_host.specs.Records.{HostRecord, IsValidRecord}
use Rattle.ash_slots.specs.SlotResponses.{box_of}
use Rattle.ash_objects.specs.Table.{Living, Table}
use Rattle.ash_run_steps.specs.Drawing.{Enough, draw_all, kinds_of}

-- The host objects themselves: those that live by their numbers, those that are free, and the services, in order.
pub record Boxes (B : Type 0) : Type 0 where
  pub objects : List (ℕ × B)
  pub pool : List B
  pub services : List B

-- the number of an object that was taken from the pool
abbrev pub number_drawn : Event → Option ℕ
number_drawn (events.Drew number) = Some number
number_drawn _ = None

-- the numbers of the objects that were taken from the pool, in order
abbrev pub drawn_in : List Event → List ℕ
drawn_in happened = filter_map number_drawn happened

module _ {B : Type 0} where
  -- an object's box by its number; what is no host object has none
  abbrev pub boxed_entry : ℕ × Living B → Option (ℕ × B)
  boxed_entry e = option_map (λ box. (e.0, box)) (box_of (e.1).body)

  -- the boxes of a table
  abbrev pub boxes_of : Table B → Boxes B
  boxes_of table = record {
    objects = filter_map boxed_entry table.objects;
    pool = table.pool;
    services = table.services;
  }

  -- The box that a call goes to: that of a service, of an object that lived, or of one that was drawn since.
  abbrev pub box_at : Boxes B → List (ℕ × B) → Target → Option B
  box_at old drawn (targets.Object number) = object_at number (old.objects ++ drawn)
  box_at old drawn (targets.Service place) = slice_get old.services place

  -- a record is valid for the very box that its call went to
  abbrev pub IsValidOf : Ghosts B → Option B → HostRecord → Type 0
  IsValidOf G None r = ⊥
  IsValidOf G (Some box) r = IsValidRecord G box r

  -- a box is what it was: its kind and its relation are as before, whatever it has answered
  abbrev pub IsStill : Ghosts B → Option B → B → Type 0
  IsStill G None after = ⊥
  IsStill G (Some before) after = (G.kind_of after ≡ G.kind_of before) × SameRelation (G.allows before) (G.allows after)

  -- The boxes gave these answers: each object that was drawn got the first free box of its kind, each record is valid
  -- for the very box that its call went to, and each box is afterwards what it was.
  pub record Answered (G : Ghosts B) (old : Boxes B) (happened : List Event) (answers : List HostRecord)
      (new : Boxes B) : Type 0 where
    pub drawn : List (ℕ × B)
    pub in_turn : numbers drawn ≡ drawn_in happened
    pub first_free : draw_all G (kinds_of G drawn) old.pool ≡ Enough drawn new.pool
    pub valid : AllByRecursion (λ (r : HostRecord). IsValidOf G (box_at old drawn r.target) r) answers
    pub objects : (number : ℕ) (box : B) → object_at number new.objects ≡ Some box
        → IsStill G (box_at old drawn (targets.Object number)) box
    pub services : (place : ℕ) (box : B) → slice_get new.services place ≡ Some box
        → IsStill G (box_at old drawn (targets.Service place)) box
