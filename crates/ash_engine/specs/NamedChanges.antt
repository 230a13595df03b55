-- What the code has of the names of what a request changed.
use Rattle.std.specs.Prelude.{◌≡◌, ◌≢◌, ◌↔◌, ◌<◌, ℕ, List, [], length, slice_get, Contains, Option, Some, None, string_bytes}
use Rattle.std.specs.Option.{option_map_or}
use Rattle.std.specs.List.Sorted.{IsStrictlyIncreasing}
use Rattle.ash_host.specs.declared.word.Word.{Word}
use Rattle.ash_host.specs.declared.event.Event.{Event}
use Rattle.ash_host.specs.declared.event.Event.TheVariants.{Called}
use Rattle.ash_host.specs.declared.event.Target.TheVariants.{Service}
use Rattle.ash_requests.specs.States.{LoadedModule}
use Rattle.ash_objects.specs.Table.{Table}
use Rattle.ash_objects.specs.Marking.{marked_of}
use Rattle.ash_change_laws.specs.UncalledServices.{IsCalled}
use Rattle.ash_change_laws.specs.ChangedStates as changed
use Rattle.ash_engine.specs.declared.changes.Changes.{Changes}
use Rattle.ash_engine.specs.declared.changes.ChangedGlobals.{ChangedGlobals}
use Rattle.ash_engine.specs.declared.changes.ModuleChange.{ModuleChange}
use Rattle.ash_engine.specs.declared.changes.ModuleChange.TheVariants as changes

-- the service whose call an event says
abbrev pub service_called : Event → Option ℕ
service_called (Called (Service place) function) = Some place
service_called _ = None

-- the name of the module at a place
abbrev pub name_at : List LoadedModule → ℕ → List ℕ
name_at ms place = option_map_or (λ (m : LoadedModule). m.name) (slice_get ms place) []

-- what became of the modules, which are these afterwards
abbrev pub module_change_seen : List LoadedModule → ModuleChange → changed.ModuleChange
module_change_seen ms changes.Unchanged = changed.Unchanged
module_change_seen ms (changes.Loaded place) = changed.Loaded (name_at ms place)
module_change_seen ms (changes.Discarded name) = changed.Discarded (string_bytes name)
module_change_seen ms (changes.Globals globals) = changed.Globals (name_at ms globals.module) globals.places.items

abbrev pub changes_seen : List LoadedModule → Changes → changed.Changes
changes_seen ms c = record {
  services = c.services.items;
  modules = module_change_seen ms c.modules;
  living = c.living.items;
  gone = c.gone.items;
}

-- These are the places at which other words are than before.
abbrev pub AreOthers : List Word → List Word → List ℕ → Type 0
AreOthers before after places = (place : ℕ)
    → Contains places place ↔ ((place < length before) × (slice_get after place ≢ slice_get before place))

-- The globals of the module at a place hold other words at these places, of which there are some, and at no others.
pub record AreChanged (at : ℕ) (before after : List Word) (globals : ChangedGlobals) : Type 0 where
  pub of_module : globals.module ≡ at
  pub some : globals.places.items ≢ []
  pub others : AreOthers before after globals.places.items
  pub rise : IsStrictlyIncreasing globals.places.items

-- What became of the modules in a run of the one at a place, whose globals held these words and hold these: its globals
-- changed, if any of them holds another word, and nothing otherwise.
abbrev pub IsChangeOf : ℕ → List Word → List Word → ModuleChange → Type 0
IsChangeOf at before after changes.Unchanged = AreOthers before after []
IsChangeOf at before after (changes.Globals globals) = AreChanged at before after globals
IsChangeOf at before after _ = ⊥

-- The names are those of the events, of the change of the modules and of the marks of a table.
pub record AreTaken {B : Type 0} (happened : List Event) (modules : ModuleChange) (table : Table B) (c : Changes)
    : Type 0 where
  pub called : (place : ℕ) → Contains c.services.items place ↔ IsCalled place happened
  pub same_modules : c.modules ≡ modules
  pub living : c.living.items ≡ marked_of table
  pub gone : (number : ℕ) → Contains c.gone.items number ↔ Contains table.gone number
  pub services_rise : IsStrictlyIncreasing c.services.items
  pub gone_rise : IsStrictlyIncreasing c.gone.items
