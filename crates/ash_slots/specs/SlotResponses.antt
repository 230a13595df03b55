-- What the host object in a slot does at a call.
use Rattle.std.specs.Prelude.{◌≡◌, ℕ, ◌≤◌, true, List, length, Option, Some, None, IsSome}
use Rattle.std.specs.Option.{option_and_then}
use Rattle.ash_host.specs.declared.answer.HostAnswer.{HostAnswer}
use Rattle.ash_host.specs.declared.host_object.HostObject.{Ghosts}
use Rattle.ash_host.specs.Calls.{HostCall, SameRelation}
use Rattle.ash_host.specs.Limits.{max_state_bytes}
use Rattle.ash_host.specs.Objects.{object_at}
use Rattle.ash_slots.specs.declared.body.Body.{Body}
use Rattle.ash_slots.specs.declared.body.Body.TheVariants.{Script, Array, Host}
use Rattle.ash_slots.specs.Store.{SlotEntry, IsIn, with_item, change_at}

-- the box of a host object
abbrev pub box_of : {B : Type 0} → Body B → Option B
box_of (Script _) = None
box_of (Array _) = None
box_of (Host box) = Some box

-- A host object answers a call within its relation, at its state before and after. Its kind and its relation are as
-- before, and its state is no longer than a state may be.
pub record Responds {B : Type 0} (G : Ghosts B) (before : B) (call : HostCall) (answer : HostAnswer)
    (after : B) : Type 0 where
  pub allowed : G.allows before call (G.state before) answer (G.state after)
  pub same_kind : G.kind_of after ≡ G.kind_of before
  pub same_relation : SameRelation (G.allows before) (G.allows after)
  pub bounded : length (G.state after) ≤ max_state_bytes

module _ {B : Type 0} where
  -- the box of the host object of a number
  abbrev pub stored_box : ℕ → List (ℕ × SlotEntry B) → Option B
  stored_box number objects = option_and_then (λ object. box_of (object.item).body) (object_at number objects)

  -- The object in a slot is a host object.
  abbrev pub IsHostIn : ℕ → List (ℕ × SlotEntry B) → Type 0
  IsHostIn slot objects = (number : ℕ) × IsIn number slot objects × IsSome (stored_box number objects)

  -- an object with another box, which touches it
  abbrev pub boxed : B → SlotEntry B → SlotEntry B
  boxed box object = with_item (record { count = (object.item).count; touched = true; body = Host box }) object

  -- The host object of a number answers a call, and nothing else changes.
  pub record AnswersIn (G : Ghosts B) (number : ℕ) (call : HostCall) (answer : HostAnswer)
      (old new : List (ℕ × SlotEntry B)) : Type 0 where
    pub before : B
    pub after : B
    pub was : stored_box number old ≡ Some before
    pub responds : Responds G before call answer after
    pub becomes : new ≡ change_at number (boxed after) old
