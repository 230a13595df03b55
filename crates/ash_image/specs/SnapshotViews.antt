-- What the code's states represent.
use Rattle.std.specs.Prelude.{ℕ, List, map, string_bytes}
use Rattle.ash_host.specs.Objects.{Plain}
use Rattle.ash_image.specs.declared.stored.StoredHost.{StoredHost}
use Rattle.ash_image.specs.declared.stored.StoredObject.{StoredObject}
use Rattle.ash_image.specs.declared.stored.StoredModule.{StoredModule}
use Rattle.ash_image.specs.declared.stored.StoredState.{StoredState}
use Rattle.ash_image.specs.declared.stored.StoredImage.{StoredImage}
use Rattle.ash_image.specs.declared.version.Version.{Version}
use Rattle.ash_image.specs.declared.parts.HostParts.{HostParts}
use Rattle.ash_image.specs.declared.parts.ObjectParts.{ObjectParts}
use Rattle.ash_image.specs.declared.parts.ModuleParts.{ModuleParts}
use Rattle.ash_image.specs.declared.parts.StateParts.{StateParts}
use Rattle.ash_image.specs.ImageObjectViews.{service_of, plain_of, plain_in}
use Rattle.ash_image.specs.Snapshots.{Loaded, Snapshot}

-- what was read

abbrev pub services_of : List StoredHost → List (ℕ × List ℕ)
services_of services = map service_of services

abbrev pub module_of : StoredModule → Loaded
module_of m = record { name = string_bytes m.name; source = m.source.items; globals = m.globals.items }

abbrev pub modules_of : List StoredModule → List Loaded
modules_of modules = map module_of modules

abbrev pub object_of : StoredObject → ℕ × Plain ℕ
object_of o = (o.number, plain_of o.body)

abbrev pub objects_of : List StoredObject → List (ℕ × Plain ℕ)
objects_of objects = map object_of objects

abbrev pub snapshot_of : StoredState → Snapshot
snapshot_of s = record {
  registered = string_bytes s.registered;
  seq = s.seq;
  last = s.last;
  services = services_of s.services.items;
  modules = modules_of s.modules.items;
  objects = objects_of s.objects.items;
}

abbrev pub image_read : StoredImage → Version × Snapshot
image_read i = (i.version, snapshot_of i.state)

-- what is written, by its parts

abbrev pub service_in : HostParts → ℕ × List ℕ
service_in s = (s.kind, s.state.now)

abbrev pub services_in : List HostParts → List (ℕ × List ℕ)
services_in services = map service_in services

abbrev pub module_in : ModuleParts → Loaded
module_in m = record { name = m.name.now; source = m.source.now; globals = m.globals.now }

abbrev pub modules_in : List ModuleParts → List Loaded
modules_in modules = map module_in modules

abbrev pub object_in : ObjectParts → ℕ × Plain ℕ
object_in o = (o.number, plain_in o.body)

abbrev pub objects_in : List ObjectParts → List (ℕ × Plain ℕ)
objects_in objects = map object_in objects

abbrev pub snapshot_in : StateParts → Snapshot
snapshot_in s = record {
  registered = s.registered.now;
  seq = s.seq;
  last = s.last;
  services = services_in s.services.now;
  modules = modules_in s.modules.now;
  objects = objects_in s.objects.now;
}
