-- What the code's deltas represent.
use Rattle.std.specs.Prelude.{ℕ, List, map, string_bytes}
use Rattle.ash_host.specs.declared.word.Word.{Word}
use Rattle.ash_image.specs.declared.stored_delta.StoredService.{StoredService}
use Rattle.ash_image.specs.declared.stored_delta.IndexedWord.{IndexedWord}
use Rattle.ash_image.specs.declared.stored_delta.StoredGlobals.{StoredGlobals}
use Rattle.ash_image.specs.declared.stored_delta.StoredChange.{StoredChange}
use Rattle.ash_image.specs.declared.stored_delta.StoredChange.TheVariants as stored
use Rattle.ash_image.specs.declared.stored_delta.StoredDelta.{StoredDelta}
use Rattle.ash_image.specs.declared.delta_parts.ServiceParts.{ServiceParts}
use Rattle.ash_image.specs.declared.delta_parts.GlobalsParts.{GlobalsParts}
use Rattle.ash_image.specs.declared.delta_parts.ChangeParts.{ChangeParts}
use Rattle.ash_image.specs.declared.delta_parts.ChangeParts.TheVariants as parts
use Rattle.ash_image.specs.declared.delta_parts.DeltaParts.{DeltaParts}
use Rattle.ash_image.specs.SnapshotViews.{module_of, objects_of, module_in, objects_in}
use Rattle.ash_image.specs.Delta.{ModuleChange, Unchanged, Added, Removed, Globals, Delta}

-- a word with its index
abbrev pub indexed_of : IndexedWord → ℕ × Word
indexed_of e = (e.index, e.word)

abbrev pub all_indexed : List IndexedWord → List (ℕ × Word)
all_indexed words = map indexed_of words

-- what was read

abbrev pub service_state_of : StoredService → ℕ × List ℕ
service_state_of s = (s.index, s.state.items)

abbrev pub service_states_of : List StoredService → List (ℕ × List ℕ)
service_states_of services = map service_state_of services

abbrev pub change_of : StoredChange → ModuleChange
change_of stored.Unchanged = Unchanged
change_of (stored.Added m) = Added (module_of m)
change_of (stored.Removed name) = Removed (string_bytes name)
change_of (stored.Globals g) = Globals (string_bytes g.name) (all_indexed g.globals.items)

abbrev pub delta_of : StoredDelta → Delta
delta_of d = record {
  seq = d.seq;
  last = d.last;
  services = service_states_of d.services.items;
  change = change_of d.change;
  gone = d.gone.items;
  put = objects_of d.put.items;
}

-- what is written, by its parts

abbrev pub service_state_in : ServiceParts → ℕ × List ℕ
service_state_in s = (s.index, s.state.now)

abbrev pub service_states_in : List ServiceParts → List (ℕ × List ℕ)
service_states_in services = map service_state_in services

abbrev pub change_in : ChangeParts → ModuleChange
change_in parts.Unchanged = Unchanged
change_in (parts.Added m) = Added (module_in m)
change_in (parts.Removed name) = Removed name.now
change_in (parts.Globals g) = Globals g.name.now (all_indexed g.globals.now)

abbrev pub delta_in : DeltaParts → Delta
delta_in d = record {
  seq = d.seq;
  last = d.last;
  services = service_states_in d.services.now;
  change = change_in d.change;
  gone = d.gone.now;
  put = objects_in d.put.now;
}
