-- What events say of the number of a host object: how often it was drawn and dropped, and when.
use Rattle.std.specs.Prelude.{◌≡◌, ◌≤◌, ◌<◌, ◌+◌, ◌++◌, ◌==◌, ℕ, Bool, false, if◌then◌else◌, List, count_by}
use Rattle.std.specs.Option.{option_map_or}
use Rattle.ash_host.specs.declared.event.Event.{Event}
use Rattle.ash_host.specs.declared.event.Event.TheVariants.{Drew, Dropped}
use Rattle.ash_host.specs.Objects.{Plain, LiveObjects, object_at, is_host, AreNumbered}
use Rattle.ash_meaning.specs.Activity.{World}

-- whether an event says that the object of this number was drawn, or dropped

abbrev pub is_draw_of : ℕ → Event → Bool
is_draw_of number (Drew other) = other == number
is_draw_of number _ = false

abbrev pub is_drop_of : ℕ → Event → Bool
is_drop_of number (Dropped other) = other == number
is_drop_of number _ = false

-- how often

abbrev pub draws_of : ℕ → List Event → ℕ
draws_of number events = count_by (is_draw_of number) events

abbrev pub drops_of : ℕ → List Event → ℕ
drops_of number events = count_by (is_drop_of number) events

-- the objects by their numbers, and the last number that was given
pub record Numbering : Type 0 where
  pub last : ℕ
  pub objects : LiveObjects (List ℕ)

abbrev pub numbering_of : World → Numbering
numbering_of world = record { last = world.last; objects = world.objects }

-- how many host objects have this number: one or none
abbrev pub one_if_host : Plain (List ℕ) → ℕ
one_if_host object = if is_host object then 1 else 0

abbrev pub hosts_at : ℕ → Numbering → ℕ
hosts_at number numbering = option_map_or one_if_host (object_at number numbering.objects) 0

-- What events say of a number from one moment to another. It is drawn at most once, and only where no object had it
-- before. It is dropped at most once, and only while a host object has it: at every moment it was dropped no more often
-- than it was there or drawn before. And a host object has it at the end exactly where one had it before or was drawn,
-- and none was dropped.
pub record NumberLife (number : ℕ) (old : Numbering) (events : List Event) (new : Numbering) : Type 0 where
  pub drawn_once : draws_of number events ≤ 1
  pub drawn_anew : 0 < draws_of number events → (old.last < number) × (number ≤ new.last)
  pub dropped_once : drops_of number events ≤ 1
  pub dropped_after : (before after : List Event) → events ≡ before ++ after
      → drops_of number before ≤ hosts_at number old + draws_of number before
  pub balance : hosts_at number new + drops_of number events ≡ hosts_at number old + draws_of number events

-- The numbers that were given stay given, and each number has its life.
pub record NumberLives (old : Numbering) (events : List Event) (new : Numbering) : Type 0 where
  pub numbered : AreNumbered new.last new.objects
  pub rises : old.last ≤ new.last
  pub lives : (number : ℕ) → NumberLife number old events new
