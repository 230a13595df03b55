-- What may be relied on of hosts: each answer is allowed by the object that gave it, and no state is longer than it may
-- be.
use Rattle.std.specs.Prelude.{◌≡◌, ◌≤◌, ℕ, List, length, Some}
use Rattle.std.specs.List.{AllByRecursion}
use Rattle.ash_host.specs.declared.event.Target.{Target}
use Rattle.ash_host.specs.declared.host_object.HostObject.{Ghosts}
use Rattle.ash_host.specs.Limits.{max_state_bytes}
use Rattle.ash_host.specs.Objects.{Plain, Script, Array, Host, object_at}
use Rattle.ash_host.specs.Records.{HostRecord, IsValidRecord}
use Rattle.ash_meaning.specs.Activity.{FreeBox, World}

-- Who answers: the object of each number, and the service of each place. No call changes what an object allows, so that
-- one is enough for all its life.
abbrev pub Answerers : Type 0 → Type 0
Answerers B = Target → B

-- each record is valid for the object that it is of
abbrev pub AreValid : {B : Type 0} → Ghosts B → Answerers B → List HostRecord → Type 0
AreValid host answerers records = AllByRecursion (λ (r : HostRecord). IsValidRecord host (answerers r.target) r) records

abbrev pub StateFits : List ℕ → Type 0
StateFits state = length state ≤ max_state_bytes

-- only host objects have a state
abbrev pub ObjectFits : Plain (List ℕ) → Type 0
ObjectFits (Script owner place fields) = Unit {0}
ObjectFits (Array of elements) = Unit {0}
ObjectFits (Host kind state) = StateFits state

-- What hosts answer is valid, and the states of host objects, of services and of free boxes are no longer than they may
-- be.
pub record HostsFit {B : Type 0} (host : Ghosts B) (answerers : Answerers B) (world : World) : Type 0 where
  pub answers : AreValid host answerers world.answers
  pub objects : (number : ℕ) (object : Plain (List ℕ)) → object_at number world.objects ≡ Some object
      → ObjectFits object
  pub services : AllByRecursion StateFits world.services
  pub pool : AllByRecursion (λ (box : FreeBox). StateFits box.state) world.pool
