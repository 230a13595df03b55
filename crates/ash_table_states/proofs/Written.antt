-- The parts that the code lists of a state that may be written are those of its snapshot.
use Rattle.std.proofs.Common.{◌≡◌, ℕ, List, map, length, ap, ◌∙◌, subst, arith}
use Rattle.std.specs.Prelude.{zip}
use Rattle.std.proofs.lemmas.List.{length-map}
use Rattle.ash_host.specs.declared.host_object.HostObject.{Ghosts}
use Rattle.ash_registry.specs.AcceptedRegistrations.{Registration}
use Rattle.ash_requests.specs.States.{LoadedModule}
use Rattle.ash_plain_steps.specs.StateViews.{loaded_seen, modules_seen}
use Rattle.ash_image.specs.declared.parts.HostParts.{HostParts}
use Rattle.ash_image.specs.declared.parts.ModuleParts.{ModuleParts}
use Rattle.ash_image.specs.declared.parts.ObjectParts.{ObjectParts}
use Rattle.ash_image.specs.SnapshotViews.{services_in, modules_in, objects_in}
use Rattle.ash_slots.specs.declared.body.Body.{Body}
use Rattle.ash_objects.specs.Restoring.{bodies_of}
use Rattle.ash_states.specs.HostStates.{service_kinds}
use Rattle.ash_states.specs.Indexes.{index_in, stored_modules_of, HaveServiceKinds}
use Rattle.ash_states.specs.Writing.{HavePartKinds, AreWrittenIn}
use Rattle.ash_table_states.specs.TableStates.{names_in}
use Rattle.ash_table_states.specs.WrittenObjects.{index_at, objects_written}
use Rattle.ash_table_states.specs.WrittenStates.{state_in, IsWritable}
use Rattle.ash_table_states.specs.declared.writing.TableState.{TableState}
use Rattle.ash_table_states.proofs.Shown.{written_same}
use Rattle.ash_table_states.proofs.SlotNames.{index_same}

module _ {B : Type 0} (G : Ghosts B) (registered : List Registration) (s : TableState B)
    (h : IsWritable G registered s) where
  abbrev ms : List LoadedModule
  ms = modules_seen s.modules.now

  many : length s.slots.now ≡ length ms
  many = omega (arith, h.many, length-map s.modules.now loaded_seen)

  pub written : (services : List HostParts) (modules : List ModuleParts) (objects : List ObjectParts)
      (kinds : List ℕ) (states : List (List ℕ)) (entries : List (ℕ × Body B))
      → services_in services ≡ zip kinds states
      → kinds ≡ service_kinds registered
      → states ≡ map G.state (s.table.now).services
      → HaveServiceKinds kinds
      → modules_in modules ≡ stored_modules_of ms
      → objects_in objects ≡ objects_written G (index_at s.slots.now) entries
      → entries ≡ bodies_of (s.table.now).objects
      → HavePartKinds objects
      → AreWrittenIn (state_in G registered s) services modules objects
  written services modules objects kinds states entries same_services kinds_are states_are have same_modules
      same_objects entries_are object_kinds = record {
        same_services = same_services
            ∙ ap (λ (all : List ℕ). zip all states) kinds_are
            ∙ ap (λ (all : List (List ℕ)). zip (service_kinds registered) all) states_are;
        service_kinds = subst HaveServiceKinds kinds_are have;
        same_modules = same_modules;
        same_objects = same_objects
            ∙ ap (objects_written G (index_at s.slots.now)) entries_are
            ∙ written_same G (index_at s.slots.now) (names_in ms s.slots.now) (index_in ms) (s.table.now).objects
            (λ slot. index_same ms s.slots.now slot (h.admitted.formed).ascending (h.admitted.formed).valid many);
        kinds = object_kinds;
      }
