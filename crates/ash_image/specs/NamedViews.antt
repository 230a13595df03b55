-- What the code's states with names represent.
use Rattle.std.specs.Prelude.{ℕ, List, map, string_bytes}
use Rattle.std.specs.BTreeMap.{BTreeMap}
use Rattle.std.specs.declared.alloc.Global.{Global}
use Rattle.std.specs.declared.string.String.{String}
use Rattle.ash_host.specs.Objects.{LiveObjects, Plain}
use Rattle.ash_image.specs.declared.named_state.NamedModule.{NamedModule}
use Rattle.ash_image.specs.declared.named_state.NamedObject.{NamedObject}
use Rattle.ash_image.specs.declared.named_state.NamedState.{NamedState}
use Rattle.ash_image.specs.ImageObjectViews.{plain_of}
use Rattle.ash_image.specs.SnapshotViews.{services_of}
use Rattle.ash_image.specs.Snapshots.{Loaded}
use Rattle.ash_image.specs.Leading.{plain_known, NamedSnapshot}

abbrev pub module_seen : String Global × NamedModule → Loaded
module_seen e = record { name = string_bytes e.0; source = (e.1).source.items; globals = (e.1).globals.items }

abbrev pub modules_seen : BTreeMap (String Global) NamedModule → List Loaded
modules_seen modules = map module_seen modules.entries

abbrev pub object_seen : NamedObject → Plain (List ℕ)
object_seen o = plain_known (λ index. string_bytes o.owner) (plain_of o.body)

abbrev pub objects_seen : BTreeMap ℕ NamedObject → LiveObjects (List ℕ)
objects_seen objects = map (λ (e : ℕ × NamedObject). (e.0, object_seen e.1)) objects.entries

abbrev pub state_seen : NamedState → NamedSnapshot
state_seen s = record {
  registered = string_bytes s.registered;
  seq = s.seq;
  last = s.last;
  services = services_of s.services.items;
  modules = modules_seen s.modules;
  objects = objects_seen s.objects;
}
