-- The delta of what the last answered request changed, and the body of a record that has it.
use Rattle.std.specs.Prelude.{◌≡◌, ℕ, List, map, slice_get, Some, ⊤}
use Rattle.ash_host.specs.declared.host_object.HostObject.{Ghosts}
use Rattle.ash_registry.specs.AcceptedRegistrations.{Registration}
use Rattle.ash_objects.specs.Table.{body_of}
use Rattle.ash_image.specs.Delta.{Delta}
use Rattle.ash_image.specs.DeltaViews.{all_indexed, service_states_in}
use Rattle.ash_image.specs.SnapshotViews.{objects_in}
use Rattle.ash_image.specs.declared.parts.ObjectParts.{ObjectParts}
use Rattle.ash_image.specs.declared.delta_parts.ServiceParts.{ServiceParts}
use Rattle.ash_image.specs.declared.stored_delta.IndexedWord.{IndexedWord}
use Rattle.ash_requests.specs.States.{LoadedModule}
use Rattle.ash_plain_steps.specs.declared.state.LoadedModule as code
use Rattle.ash_plain_steps.specs.StateViews.{modules_seen}
use Rattle.ash_states.specs.Writing.{HavePartKinds}
use Rattle.ash_table_states.specs.WrittenObjects.{index_at, objects_written}
use Rattle.ash_change_records.specs.ListedChanges.{listed, changes_listed, IsBodyListing, AppendsListing}
use Rattle.ash_engine.specs.LiveStates.{LiveState}
use Rattle.ash_engine.specs.TableStates.{slots_of, IsLive}
use Rattle.ash_engine.specs.declared.live.Live.{Live}
use Rattle.ash_engine.specs.declared.changes.ModuleChange.{ModuleChange}
use Rattle.ash_engine.specs.declared.changes.ModuleChange.TheVariants as changes

module _ {B : Type 0} where
  -- The delta lists exactly what the names of the changes name, as it is in what outlives the request.
  abbrev pub delta_named : LiveState B → Delta
  delta_named live = changes_listed live.changes live.durable

  -- The bytes are the body of a record: the tag of a delta, and the one spelling of this delta in version 2.
  abbrev pub IsBodyOfChanges : LiveState B → List ℕ → Type 0
  IsBodyOfChanges live body = IsBodyListing live.changes live.durable body

  -- The delta of the changes is appended to bytes, in its one spelling in version 2.
  abbrev pub AppendsChanges : LiveState B → List ℕ → List ℕ → Type 0
  AppendsChanges live old new = AppendsListing live.changes live.durable old new

-- Where globals of a module are named, the words are those that they hold, each with its place.
abbrev pub AreWordsOf : List code.LoadedModule → ModuleChange → List IndexedWord → Type 0
AreWordsOf ms (changes.Globals globals) words = (m : LoadedModule) → slice_get (modules_seen ms) globals.module ≡ Some m
    → all_indexed words ≡ listed (slice_get m.globals) globals.places.items
AreWordsOf ms _ words = ⊤

-- The parts are those that a delta lists, and a host may be in the state.
module _ {B : Type 0} (G : Ghosts B) where
  pub record AreListedParts (l : Live B) (services : List ServiceParts) (words : List IndexedWord) (put : List ObjectParts)
      : Type 0 where
    pub registered : List Registration
    pub live : IsLive G registered l
    pub same_services : service_states_in services ≡ listed (slice_get (map G.state l.table.services)) l.changes.services.items
    pub same_words : AreWordsOf l.loaded.modules.items l.changes.modules words
    pub same_put : objects_in put ≡ objects_written G (index_at (slots_of l.compiled.items))
        (listed (λ number. body_of number l.table) l.changes.living.items)
    pub kinds : HavePartKinds put
