-- The parts of a state that the code writes.
use Rattle.std.specs.Prelude.{◌≡◌, List}
use Rattle.std.specs.List.{AllByRecursion}
use Rattle.ash_image.specs.declared.parts.HostParts.{HostParts}
use Rattle.ash_image.specs.declared.parts.ModuleParts.{ModuleParts}
use Rattle.ash_image.specs.declared.parts.ObjectParts.{ObjectParts}
use Rattle.ash_image.specs.SnapshotViews.{services_in, modules_in, object_in, objects_in}
use Rattle.ash_states.specs.HostStates.{HostState, service_kinds}
use Rattle.ash_states.specs.Indexes.{snapshot_for, HasKind, HaveServiceKinds}

-- the kinds of host objects are in two bytes
abbrev pub HavePartKinds : List ObjectParts → Type 0
HavePartKinds parts = AllByRecursion (λ (p : ObjectParts). HasKind (object_in p).1) parts

-- the services, the modules and the objects are those of the snapshot of a state
pub record AreWrittenIn (s : HostState) (services : List HostParts) (modules : List ModuleParts)
    (objects : List ObjectParts) : Type 0 where
  pub same_services : services_in services ≡ (snapshot_for s).services
  pub service_kinds : HaveServiceKinds (service_kinds s.registered)
  pub same_modules : modules_in modules ≡ (snapshot_for s).modules
  pub same_objects : objects_in objects ≡ (snapshot_for s).objects
  pub kinds : HavePartKinds objects
