-- The boxes that are handed over with the disks: what a host begins with, and which boxes a store opens again with.
use Rattle.std.specs.Prelude.{◌≡◌, ℕ, List, map, slice_get, Some}
use Rattle.std.specs.List.{AllByRecursion}
use Rattle.ash_host.specs.declared.host_object.HostObject.{Ghosts}
use Rattle.ash_host.specs.Objects.{object_at}
use Rattle.ash_host.specs.Saved.{Saves, RestoresSaved}
use Rattle.ash_meaning.specs.Activity.{FreeBox}
use Rattle.ash_registry.specs.AcceptedRegistrations.{Registration}
use Rattle.ash_states.specs.HostStates.{HostState, service_kinds, empty}
use Rattle.ash_engine.specs.Drawing.{Enough, draw_all}
use Rattle.ash_engine.specs.LiveStates.{begin, hosts_in, services_for}
use Rattle.ash_engine.specs.LiveSteps.{Reached, reached_by}
use Rattle.ash_engine.specs.RestoredBoxes.{HasServices, kinds_wanted}

module _ {B : Type 0} (G : Ghosts B) where
  -- Before any request there are no modules and no objects, and each service has the state in which it was handed over.
  abbrev pub first_state : List Registration → List B → HostState
  first_state registered services = empty registered (map G.state (services_for registered services))

  -- what requests begin with, where these boxes were handed over
  abbrev pub first_reached : List Registration → List B → List B → Reached
  first_reached registered pool services = reached_by (begin G registered pool services)

  -- an object of this kind saves these bytes
  abbrev pub IsSavedBy : ℕ → List ℕ → Type 0
  IsSavedBy kind bytes = (object : B) × (G.kind_of object ≡ kind) × Saves G object bytes

  -- Each host object of a state and each service has what an object of its kind saves.
  pub record AreSaved (s : HostState) : Type 0 where
    pub objects : (number : ℕ) (host : FreeBox) → object_at number (hosts_in (s.state).objects) ≡ Some host
        → IsSavedBy host.kind host.state
    pub services : (place kind : ℕ) (bytes : List ℕ) → slice_get (service_kinds s.registered) place ≡ Some kind
        → slice_get (s.state).services place ≡ Some bytes → IsSavedBy kind bytes

  -- Boxes with which a state lives again: services of the registered kinds, and free boxes enough of each kind that the
  -- state has; and neither a service nor a box that a host object takes refuses what the state has for it.
  pub record CanOpen (pool services : List B) (s : HostState) : Type 0 where
    pub has : HasServices G s.registered services
    pub drawn : List (ℕ × B)
    pub left : List B
    pub enough : draw_all G (kinds_wanted s) pool ≡ Enough drawn left
    pub objects_take : (number : ℕ) (host : FreeBox) (box : B)
        → object_at number (hosts_in (s.state).objects) ≡ Some host → object_at number drawn ≡ Some box
        → G.refuses box host.state → ⊥
    pub services_take : (place : ℕ) (service : B) (bytes : List ℕ)
        → slice_get (services_for s.registered services) place ≡ Some service
        → slice_get (s.state).services place ≡ Some bytes → G.refuses service bytes → ⊥

  -- Services of the registered kinds, and free boxes enough of each kind that a state has, each of which takes whatever
  -- an object of its kind saves.
  pub record RestoreKinds (pool services : List B) (s : HostState) : Type 0 where
    pub has : HasServices G s.registered services
    pub drawn : List (ℕ × B)
    pub left : List B
    pub enough : draw_all G (kinds_wanted s) pool ≡ Enough drawn left
    pub pool_restores : AllByRecursion (RestoresSaved G) pool
    pub services_restore : AllByRecursion (RestoresSaved G) services
