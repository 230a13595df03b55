-- Boxes that are handed over for a state that was stored: which of them its host objects take, and what is refused.
use Rattle.std.specs.Prelude.{◌≡◌, ◌⊎◌, ◌<◌, ℕ, List, [], ◌∷◌, map, nat_eq, if◌then◌else◌, Option, Some, None}
use Rattle.ash_host.specs.declared.host_object.HostObject.{Ghosts}
use Rattle.ash_host.specs.Objects.{object_at}
use Rattle.ash_meaning.specs.Activity.{FreeBox}
use Rattle.ash_objects.specs.Restoring.{RestoresState, RestoresServices, ServiceRefused}
use Rattle.ash_registry.specs.AcceptedRegistrations.{Registration}
use Rattle.ash_states.specs.HostStates.{HostState, service_kinds}
use Rattle.ash_change_laws.specs.ChangedStates.{nothing}
use Rattle.ash_engine.specs.LiveStates.{LiveState, AreOf, hosts_in, services_for}
use Rattle.ash_engine.specs.Drawing.{Short, Enough, draw_all}

-- the host objects of a state by their numbers, each with its kind
abbrev pub kinds_wanted : HostState → List (ℕ × ℕ)
kinds_wanted s = map (λ (e : ℕ × FreeBox). (e.0, (e.1).kind)) (hosts_in (s.state).objects)

module _ {B : Type 0} where
  -- The first of these kinds, in order, for which there is no service in its place, or one of another kind.
  abbrev pub kind_missing : Ghosts B → List ℕ → List B → Option ℕ
  kind_missing G [] services = None
  kind_missing G (kind ∷ kinds) [] = Some kind
  kind_missing G (kind ∷ kinds) (service ∷ services) =
      if nat_eq (G.kind_of service) kind then kind_missing G kinds services else Some kind

  -- There is a service of each kind that is registered, in order.
  abbrev pub HasServices : Ghosts B → List Registration → List B → Type 0
  HasServices G registered services = kind_missing G (service_kinds registered) services ≡ None

  -- No service of this kind is in its place.
  abbrev pub LacksService : Ghosts B → List Registration → List B → ℕ → Type 0
  LacksService G registered services kind = kind_missing G (service_kinds registered) services ≡ Some kind

  -- Too few boxes of a kind are handed over: first for the services in order, then for the host objects by ascending
  -- number.
  abbrev pub IsShort : Ghosts B → HostState → List B → List B → ℕ → Type 0
  IsShort G s pool services kind =
      LacksService G s.registered services kind
      ⊎ (HasServices G s.registered services × (draw_all G (kinds_wanted s) pool ≡ Short kind))

  -- Each box that a host object took has the object's state now, up to this number.
  abbrev pub RestoresBefore : Ghosts B → HostState → List (ℕ × B) → ℕ → Type 0
  RestoresBefore G s drawn limit =
      (number : ℕ) (host : FreeBox) (box : B) → number < limit
      → object_at number (hosts_in (s.state).objects) ≡ Some host → object_at number drawn ≡ Some box
      → (after : B) × RestoresState G box host.state after

  -- The box that the host object of a number took refused the object's state, and those of lower numbers took theirs.
  pub record BoxRefused (G : Ghosts B) (s : HostState) (drawn : List (ℕ × B)) (number : ℕ) : Type 0 where
    pub host : FreeBox
    pub box : B
    pub there : object_at number (hosts_in (s.state).objects) ≡ Some host
    pub took : object_at number drawn ≡ Some box
    pub before : RestoresBefore G s drawn number
    pub refused : G.refuses box host.state

  -- What was refused, once there were boxes enough: the state of the first service that refused, as number 0; or, where
  -- all services took theirs, that of the first host object by ascending number.
  pub data IsRefused (G : Ghosts B) (s : HostState) (pool services : List B) : ℕ → Type 0 where
    Service : (drawn : List (ℕ × B)) (left : List B) → HasServices G s.registered services
        → draw_all G (kinds_wanted s) pool ≡ Enough drawn left
        → ServiceRefused G (services_for s.registered services) (s.state).services → IsRefused G s pool services 0
    Object : (number : ℕ) (drawn : List (ℕ × B)) (left back : List B) → HasServices G s.registered services
        → draw_all G (kinds_wanted s) pool ≡ Enough drawn left
        → RestoresServices G (services_for s.registered services) (s.state).services back
        → BoxRefused G s drawn number → IsRefused G s pool services number

  -- A state that was stored lives: each of its host objects took the first free box of its kind, by ascending number;
  -- these boxes and the services took the states that are stored, and the other free boxes are as they were. No request
  -- changed anything yet.
  pub record Restores (G : Ghosts B) (s : HostState) (pool services : List B) (live : LiveState B) : Type 0 where
    pub durable : live.durable ≡ s
    pub unchanged : live.changes ≡ nothing
    -- each host object of the state has a box, and no other number has one
    pub boxes : AreOf G live
    pub has : HasServices G s.registered services
    pub drawn : List (ℕ × B)
    pub first_free : draw_all G (kinds_wanted s) pool ≡ Enough drawn (live.boxes).pool
    pub served : RestoresServices G (services_for s.registered services) (s.state).services (live.boxes).services
    pub took : (number : ℕ) (host : FreeBox) (box after : B)
        → object_at number (hosts_in (s.state).objects) ≡ Some host → object_at number drawn ≡ Some box
        → object_at number (live.boxes).objects ≡ Some after → RestoresState G box host.state after
