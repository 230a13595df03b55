-- What host objects do at calls.
use Rattle.std.specs.Prelude.{◌≡◌, ℕ, true, List, [], ◌∷◌, Option, Some, IsSome, slice_get, slice_set}
use Rattle.std.specs.Option.{option_and_then}
use Rattle.ash_host.specs.declared.answer.HostAnswer.{HostAnswer}
use Rattle.ash_host.specs.declared.answer.HostAnswer.TheVariants.{NoMemory}
use Rattle.ash_host.specs.declared.event.Event.{Event}
use Rattle.ash_host.specs.declared.event.Event.TheVariants.{Called}
use Rattle.ash_host.specs.declared.event.Target.{Target}
use Rattle.ash_host.specs.declared.host_object.HostObject.{Ghosts}
use Rattle.ash_host.specs.Calls.{HostCall}
use Rattle.ash_host.specs.Objects.{object_at}
use Rattle.ash_slots.specs.declared.body.Body.TheVariants.{Host}
use Rattle.ash_slots.specs.SlotResponses.{Responds, box_of}
use Rattle.ash_objects.specs.Table.{Living, Table, slot_of, with_object}

module _ {B : Type 0} where
  -- the box of the host object of a number
  abbrev pub box_at : ℕ → Table B → Option B
  box_at number table = option_and_then (λ object. box_of object.body) (object_at number table.objects)

  -- The object in a slot is a host object.
  abbrev pub IsHostOfTable : ℕ → Table B → Type 0
  IsHostOfTable slot table = (number : ℕ) × (slot_of number table ≡ Some slot) × IsSome (box_at number table)

  -- an object with another box, which touches it
  abbrev pub with_box : B → Living B → Living B
  with_box box object = record object { touched = true; body = Host box }

  -- The host object of a number answers a call, and nothing else changes.
  pub record Answers (G : Ghosts B) (number : ℕ) (call : HostCall) (answer : HostAnswer)
      (old new : Table B) : Type 0 where
    pub before : B
    pub after : B
    pub was : box_at number old ≡ Some before
    pub responds : Responds G before call answer after
    pub becomes : new ≡ with_object number (with_box after) old

  -- The service at a place answers a call, and nothing else changes.
  pub record ServiceAnswers (G : Ghosts B) (place : ℕ) (call : HostCall) (answer : HostAnswer)
      (old new : Table B) : Type 0 where
    pub before : B
    pub after : B
    pub was : slice_get old.services place ≡ Some before
    pub responds : Responds G before call answer after
    pub becomes : new ≡ record old { services = slice_set old.services place after }

-- the event of a call, unless the object ran out of memory
abbrev pub called : Target → ℕ → HostAnswer → List Event
called target method NoMemory = []
called target method _ = Called target method ∷ []
