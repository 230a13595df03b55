-- What a host is in while it runs: what outlives a request, and the boxes of host objects, which no file holds.
use Rattle.std.specs.Prelude.{◌≡◌, ℕ, List, [], map, filter_map, take, length, Option, Some, None}
use Rattle.std.specs.Option.{option_map}
use Rattle.ash_host.specs.declared.host_object.HostObject.{Ghosts}
use Rattle.ash_host.specs.Objects.{Plain, Script, Array, Host, LiveObjects}
use Rattle.ash_registry.specs.AcceptedRegistrations.{Registration}
use Rattle.ash_meaning.specs.Activity.{FreeBox}
use Rattle.ash_states.specs.HostStates.{HostState, service_kinds, empty}
use Rattle.ash_change_laws.specs.ChangedStates.{Changes, nothing}
pub use Rattle.ash_run_steps.specs.Answered.{Boxes}

-- What outlives a request; the kind and the state of each free box, in the order of the pool; the boxes; and what the
-- last request that was answered changed.
pub record LiveState (B : Type 0) : Type 0 where
  pub durable : HostState
  pub pool : List FreeBox
  pub boxes : Boxes B
  pub changes : Changes

-- What is registered with an engine, and its live state; none where it was lost.
pub record EngineState (B : Type 0) : Type 0 where
  pub registered : List Registration
  pub live : Option (LiveState B)

-- the kind and the state of a host object; any other object has none
abbrev pub host_in : Plain (List ℕ) → Option FreeBox
host_in (Script owner place fields) = None
host_in (Array of elements) = None
host_in (Host kind state) = Some (record { kind = kind; state = state })

-- the host objects among these, by their numbers
abbrev pub hosts_in : LiveObjects (List ℕ) → List (ℕ × FreeBox)
hosts_in objects = filter_map (λ (e : ℕ × Plain (List ℕ)). option_map (λ (host : FreeBox). (e.0, host)) (host_in e.1))
    objects

-- as many services as there are registered: those handed over beyond them are dropped
abbrev pub services_for : {B : Type 0} → List Registration → List B → List B
services_for registered services = take (length (service_kinds registered)) services

module _ {B : Type 0} (G : Ghosts B) where
  -- the kind and the state of a box
  abbrev pub plain_box : B → FreeBox
  plain_box box = record { kind = G.kind_of box; state = G.state box }

  -- a box by its number, with its kind and its state in its place
  abbrev pub plain_entry : ℕ × B → ℕ × FreeBox
  plain_entry e = (e.0, plain_box e.1)

  -- The boxes are those of the state: the host objects that live have theirs by their numbers, and no other object has
  -- one; each service is of the kind that is registered in its place; and each box has the state that is written.
  pub record AreOf (live : LiveState B) : Type 0 where
    pub objects : hosts_in ((live.durable).state).objects ≡ map plain_entry (live.boxes).objects
    pub services : ((live.durable).state).services ≡ map G.state (live.boxes).services
    pub kinds : map G.kind_of (live.boxes).services ≡ service_kinds (live.durable).registered
    pub pool : live.pool ≡ map plain_box (live.boxes).pool

  -- Before any request nothing lives, the pool is whole, and each service has the state in which it was handed over.
  abbrev pub begin : List Registration → List B → List B → LiveState B
  begin registered pool services = record {
    durable = empty registered (map G.state (services_for registered services));
    pool = map plain_box pool;
    boxes = record { objects = []; pool = pool; services = services_for registered services };
    changes = nothing;
  }
