-- The state of a host whose objects are in a table, where a module has a slot in place of its name.
use Rattle.std.specs.Prelude.{ℕ, ◌+◌, List, [], ◌∷◌, map, nat_eq, if◌then◌else◌}
use Rattle.ash_host.specs.declared.host_object.HostObject.{Ghosts}
use Rattle.ash_objects.specs.Table.{Table}
use Rattle.ash_object_ranks.specs.ShownTables.{SlotNames, objects_shown}
use Rattle.ash_requests.specs.States.{LoadedModule, State}

-- the names of modules, which have these slots, by slot; what is the slot of none has no name
abbrev pub names_in : List LoadedModule → List ℕ → SlotNames
names_in (m ∷ ms) (slot ∷ slots) at = if nat_eq at slot then m.name else names_in ms slots at
names_in _ _ at = []

-- the indexes of modules
abbrev pub places_from : ℕ → List LoadedModule → List ℕ
places_from first [] = []
places_from first (m ∷ ms) = first ∷ places_from (first + 1) ms

-- What outlives a request, if these modules are loaded and so many requests were answered: the objects and the services
-- are those of a table, where the modules have these slots.
abbrev pub state_shown : {B : Type 0} → Ghosts B → List LoadedModule → List ℕ → ℕ → Table B → State
state_shown G ms slots seq table = record {
  modules = ms;
  objects = objects_shown G (names_in ms slots) table.objects;
  services = map G.state table.services;
  last = table.last;
  seq = seq;
}
