-- What a host is in: what is registered with it, and what outlives a request.
use Rattle.std.specs.Prelude.{◌≡◌, ◌≤◌, ℕ, List, length, filter_map}
use Rattle.std.specs.List.{AllByRecursion}
use Rattle.ash_registry.specs.AcceptedRegistrations.{Registration, service_kind}
use Rattle.ash_typed.specs.Signatures.{HostSignatures}
use Rattle.ash_image.specs.Image.{max_services}
use Rattle.ash_requests.specs.States.{State, Embedding}
use Rattle.ash_requests.specs.States as steps
use Rattle.ash_soundness.specs.WellFormed.{IsState}
use Rattle.ash_soundness.specs.WellFormedStates.{IsWellFormedState}
use Rattle.ash_sources.specs.SourceFaults.{SourceFault}
use Rattle.ash_sources.specs.Sources.{embedding_of}
use Rattle.ash_type_rules.specs.Offered.{offered}

-- The state of a host is what is registered, and what outlives a request.
pub record HostState : Type 0 where
  pub registered : List Registration
  pub state : State

-- the kinds of the services that are registered, in order
abbrev pub service_kinds : List Registration → List ℕ
service_kinds registered = filter_map service_kind registered

-- Before any request there are no modules and no objects, and the services are in these states.
abbrev pub empty : List Registration → List (List ℕ) → HostState
empty registered services = record { registered = registered; state = steps.empty services }

-- Sources are read by what is registered.
abbrev pub embedding_for : List Registration → Embedding SourceFault
embedding_for registered = embedding_of registered

-- what scripts are offered
abbrev pub offered_to : List Registration → HostSignatures
offered_to registered = offered registered

-- A host may be in a state that is well-formed for what is registered, and has the state of each registered service.
pub record IsAdmitted (s : HostState) : Type 0 where
  pub formed : IsWellFormedState (embedding_for s.registered) (offered_to s.registered) s.state
  pub served : length (s.state).services ≡ length (service_kinds s.registered)
  pub few : length (s.state).services ≤ max_services

-- A host may be in the state before any request, where there is the state of each registered service.
abbrev pub FirstIsAdmitted : Type 0
FirstIsAdmitted = (registered : List Registration) (services : List (List ℕ))
    → length services ≡ length (service_kinds registered) → length services ≤ max_services
    → AllByRecursion IsState services → IsAdmitted (empty registered services)
