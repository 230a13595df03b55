-- The parts that are listed of a live state are those of a delta of what its last request changed.
use Rattle.std.proofs.Common.{◌≡◌, ◌≤◌, arith, ℕ, Bool, true, false, cond, List, [], ◌∷◌, length, map, find, nat_eq, slice_get, refl, sym, ap, ◌∙◌, subst}
use Rattle.std.specs.Prelude.{Option, Some, None, string_bytes}
use Rattle.std.specs.List.{AllByRecursion, cons_option}
use Rattle.std.specs.Option.{option_map, option_map_or}
use Rattle.std.proofs.lemmas.List.{length-map}
use Rattle.std.proofs.lemmas.Map.Made.{lookup-map_values}
use Rattle.std.proofs.lemmas.Option.{slice_get-map, slice_get_within, get_or_from_slice_get}
use Rattle.std.proofs.lemmas.Slice.Zip.{AllZip-long}
use Rattle.ash_host.specs.declared.host_object.HostObject.{Ghosts}
use Rattle.ash_host.specs.declared.word.Word.{Word}
use Rattle.ash_host.specs.Objects.{Plain, LiveObjects, object_at}
use Rattle.ash_registry.specs.AcceptedRegistrations.{Registration}
use Rattle.ash_slots.specs.declared.body.Body.{Body}
use Rattle.ash_objects.specs.Table.{Living, Table, body_of}
use Rattle.ash_objects.specs.Restoring.{bodies_of}
use Rattle.ash_object_ranks.specs.ShownTables.{objects_shown}
use Rattle.ash_requests.specs.States as states
use Rattle.ash_requests.specs.States.{has_name}
use Rattle.ash_soundness.specs.WellFormedStates.{Ascend, HasValidName}
use Rattle.ash_soundness.proofs.Ascending.{found_by_name}
use Rattle.ash_soundness.proofs.Named.{name_says}
use Rattle.ash_plain_steps.specs.declared.state.LoadedModule.{LoadedModule}
use Rattle.ash_plain_steps.specs.StateViews.{loaded_seen, modules_seen}
use Rattle.ash_image.specs.Snapshots.{Loaded}
use Rattle.ash_image.specs.Delta.{ModuleChange, Unchanged, Added, Removed, Globals, Delta, FitsDelta}
use Rattle.ash_image.specs.SnapshotViews.{object_in, objects_in}
use Rattle.ash_image.specs.declared.parts.ObjectParts.{ObjectParts}
use Rattle.ash_image.specs.declared.version.Version.TheVariants.{Two}
use Rattle.ash_image.specs.DeltaViews.{all_indexed}
use Rattle.ash_image.specs.declared.stored_delta.IndexedWord.{IndexedWord}
use Rattle.ash_states.specs.HostStates.{HostState, IsAdmitted}
use Rattle.ash_states.specs.Indexes.{index_in, entry_indexed, stored_of, stored_modules_of, snapshot_for, HasKind, HaveKinds}
use Rattle.ash_states.specs.Writing.{HavePartKinds}
use Rattle.ash_states.proofs.Lists.{all_map}
use Rattle.ash_table_states.specs.TableStates.{names_in}
use Rattle.ash_table_states.specs.WrittenObjects.{index_at, body_written, objects_written}
use Rattle.ash_table_states.proofs.Shown.{written_same}
use Rattle.ash_table_states.proofs.SlotNames.{index_same}
use Rattle.ash_image.specs.Leading.{module_named}
use Rattle.ash_change_records.specs.ListedChanges.{listed, change_listed, changes_listed}
use Rattle.ash_change_records.proofs.ListedFit.{delta_fits}
use Rattle.ash_change_records.proofs.ModulesLead.{named_is}
use Rattle.ash_engine.specs.declared.changes.ModuleChange as code
use Rattle.ash_engine.specs.declared.changes.ModuleChange.TheVariants as changes
use Rattle.ash_engine.specs.declared.changes.ChangedGlobals.{ChangedGlobals}
use Rattle.ash_engine.specs.declared.live.Compiled.{Compiled}
use Rattle.ash_engine.specs.declared.live.Live.{Live}
use Rattle.ash_engine.specs.NamedChanges.{name_at, module_change_seen, changes_seen}
use Rattle.ash_engine.specs.RecordedChanges.{AreWordsOf}
use Rattle.ash_engine.specs.TableStates.{slots_of, durable_seen, IsCompiledFrom, IsLive}
use Rattle.ash_engine.proofs.NamedSlots.{not_empty}

-- modules

module _ (ms : List states.LoadedModule) (up : Ascend ms) (valid : AllByRecursion HasValidName ms) where
  -- the name of a place is that of the module that is there
  pub name_there : (place : ℕ) (m : states.LoadedModule) → slice_get ms place ≡ Some m → name_at ms place ≡ m.name
  name_there place m at = ap (λ (o : Option states.LoadedModule). option_map_or (λ (x : states.LoadedModule). x.name) o []) at

  -- which is found by it
  found_there : (place : ℕ) (m : states.LoadedModule) → slice_get ms place ≡ Some m → module_named (name_at ms place) (stored_modules_of ms) ≡ Some (stored_of m)
  found_there place m at =
      ap (λ (name : List ℕ). module_named name (stored_modules_of ms)) (name_there place m at)
      ∙ named_is m.name ms
      ∙ ap (option_map stored_of) (found_by_name ms up m (place, slice_get_within ms place m at, get_or_from_slice_get ms place m m at))

  none_named : (all : List states.LoadedModule) → AllByRecursion HasValidName all → find (has_name []) all ≡ None
  none_named [] v = refl
  none_named (m ∷ all) v = go (has_name [] m) refl (none_named all v.1)
    where
      go : (b : Bool) → has_name [] m ≡ b → find (has_name []) all ≡ None → cond b (Some m) (find (has_name []) all) ≡ None
      go true is later = absurd (not_empty m.name v.0 (name_says [] m is))
      go false is later = later

  -- none is named by a place that is no module's
  lost_there : (place : ℕ) → slice_get ms place ≡ None → module_named (name_at ms place) (stored_modules_of ms) ≡ None
  lost_there place at =
      ap (λ (name : List ℕ). module_named name (stored_modules_of ms)) (ap (λ (o : Option states.LoadedModule). option_map_or (λ (x : states.LoadedModule). x.name) o []) at)
      ∙ named_is [] ms ∙ ap (option_map stored_of) (none_named ms valid)

  abbrev listed_of : code.ModuleChange → ModuleChange
  listed_of change = change_listed (module_change_seen ms change) (stored_modules_of ms)

  pub added_listed : (place : ℕ) (m : states.LoadedModule) (change : code.ModuleChange) → change ≡ changes.Loaded place → slice_get ms place ≡ Some m
      → Added (stored_of m) ≡ listed_of change
  added_listed place m change is at =
      sym (ap listed_of is ∙ ap (λ (x : Option Loaded). option_map_or (λ (l : Loaded). Added l) x Unchanged) (found_there place m at))

  pub none_added : (place : ℕ) (change : code.ModuleChange) → change ≡ changes.Loaded place → slice_get ms place ≡ None → Unchanged ≡ listed_of change
  none_added place change is at =
      sym (ap listed_of is ∙ ap (λ (x : Option Loaded). option_map_or (λ (l : Loaded). Added l) x Unchanged) (lost_there place at))

  abbrev globals_at : ChangedGlobals → Option Loaded → ModuleChange
  globals_at globals o = option_map_or (λ (l : Loaded). Globals (name_at ms globals.module) (listed (slice_get l.globals) globals.places.items)) o Unchanged

  pub globals_listed : (globals : ChangedGlobals) (m : states.LoadedModule) (change : code.ModuleChange) → change ≡ changes.Globals globals
      → slice_get ms globals.module ≡ Some m → (name : List ℕ) → name ≡ m.name → (words : List (ℕ × Word)) → words ≡ listed (slice_get m.globals) globals.places.items
      → Globals name words ≡ listed_of change
  globals_listed globals m change is at name named words are =
      ap (λ (n : List ℕ). Globals n words) (named ∙ sym (name_there globals.module m at))
      ∙ ap (Globals (name_at ms globals.module)) are
      ∙ sym (ap listed_of is ∙ ap (globals_at globals) (found_there globals.module m at))

  pub none_listed : (globals : ChangedGlobals) (change : code.ModuleChange) → change ≡ changes.Globals globals → slice_get ms globals.module ≡ None → Unchanged ≡ listed_of change
  none_listed globals change is at = sym (ap listed_of is ∙ ap (globals_at globals) (lost_there globals.module at))

-- objects

module _ {A C : Type 0} (f : A → C) (at : ℕ → Option A) where
  abbrev paired : {D : Type 0} → ℕ → Option D → Option (ℕ × D)
  paired {D} n o = option_map (λ (d : D). (n, d)) o

  -- what is listed, each changed, is what is listed of the changed
  pub listed_mapped : (ns : List ℕ) → map (λ (e : ℕ × A). (e.0, f e.1)) (listed at ns) ≡ listed (λ n. option_map f (at n)) ns
  listed_mapped [] = refl
  listed_mapped (m ∷ ns) = by (at m) (listed_mapped ns)
    where
      by : (o : Option A) → map (λ (e : ℕ × A). (e.0, f e.1)) (listed at ns) ≡ listed (λ n. option_map f (at n)) ns
          → map (λ (e : ℕ × A). (e.0, f e.1)) (cons_option (paired m o) (listed at ns)) ≡ cons_option (paired m (option_map f o)) (listed (λ n. option_map f (at n)) ns)
      by None rest = rest
      by (Some a) rest = ap (λ (l : List (ℕ × C)). (m, f a) ∷ l) rest

pub listed_same : {A : Type 0} (one other : ℕ → Option A) → ((n : ℕ) → one n ≡ other n) → (ns : List ℕ) → listed one ns ≡ listed other ns
listed_same one other same [] = refl
listed_same {A} one other same (m ∷ ns) =
    ap (λ (o : Option A). cons_option (option_map (λ (a : A). (m, a)) o) (listed one ns)) (same m)
    ∙ ap (cons_option (option_map (λ (a : A). (m, a)) (other m))) (listed_same one other same ns)

module _ {B : Type 0} (G : Ghosts B) (registered : List Registration) (l : Live B) (h : IsLive G registered l) where
  abbrev all : List states.LoadedModule
  all = modules_seen l.loaded.modules.items

  abbrev slots : List ℕ
  slots = slots_of l.compiled.items

  pub many : length slots ≡ length l.loaded.modules.items
  many = length-map l.compiled.items (λ (c : Compiled). c.code.module) ∙ AllZip-long IsCompiledFrom l.loaded.modules.items l.compiled.items h.compiled.each

  pub few_slots : (ns : List ℕ) → ns ≡ slots → length ns ≤ 16
  few_slots ns same = omega (arith, ap (length {A = ℕ}) same, many, length-map l.loaded.modules.items loaded_seen, (h.admitted.formed).few_modules)

  body_same : (n : ℕ) → option_map (body_written G (index_at slots)) (body_of n l.table) ≡ object_at n (snapshot_for (durable_seen G registered l)).objects
  body_same n =
      ap (option_map (body_written G (index_at slots))) (sym (lookup-map_values (λ (o : Living B). o.body) (nat_eq n) l.table.objects))
      ∙ sym (lookup-map_values (body_written G (index_at slots)) (nat_eq n) (bodies_of l.table.objects))
      ∙ ap (λ (os : LiveObjects ℕ). object_at n os)
      (written_same G (index_at slots) (names_in all slots) (index_in all) l.table.objects
      (λ slot. index_same all slots slot (h.admitted.formed).ascending (h.admitted.formed).valid (many ∙ sym (length-map l.loaded.modules.items loaded_seen))))

  -- what is written of the objects at numbers is what a snapshot has at them
  pub put_same : (ns : List ℕ) → objects_written G (index_at slots) (listed (λ n. body_of n l.table) ns)
      ≡ listed (λ n. object_at n (snapshot_for (durable_seen G registered l)).objects) ns
  put_same ns =
      listed_mapped (body_written G (index_at slots)) (λ n. body_of n l.table) ns
      ∙ listed_same (λ n. option_map (body_written G (index_at slots)) (body_of n l.table)) (λ n. object_at n (snapshot_for (durable_seen G registered l)).objects) body_same ns

  -- what is given of a delta, part by part, is what its parts are of a live state
  pub parts_same : (d : Delta) → d.seq ≡ l.loaded.seq → d.last ≡ l.table.last
      → d.services ≡ listed (slice_get (map G.state l.table.services)) l.changes.services.items
      → d.change ≡ change_listed (module_change_seen all l.changes.modules) (stored_modules_of all)
      → d.gone ≡ l.changes.gone.items
      → d.put ≡ objects_written G (index_at slots) (listed (λ n. body_of n l.table) l.changes.living.items)
      → (rs : List Registration) → d ≡ changes_listed (changes_seen all l.changes) (durable_seen G rs l)
  parts_same d seq last services change gone put rs =
      let e = changes_listed (changes_seen all l.changes) (durable_seen G registered l) in
      ap (λ (x : ℕ). let t : Delta = record { seq = x; last = d.last; services = d.services; change = d.change; gone = d.gone; put = d.put } in t) seq
      ∙ ap (λ (x : ℕ). let t : Delta = record { seq = e.seq; last = x; services = d.services; change = d.change; gone = d.gone; put = d.put } in t) last
      ∙ ap (λ (x : List (ℕ × List ℕ)). let t : Delta = record { seq = e.seq; last = e.last; services = x; change = d.change; gone = d.gone; put = d.put } in t) services
      ∙ ap (λ (x : ModuleChange). let t : Delta = record { seq = e.seq; last = e.last; services = e.services; change = x; gone = d.gone; put = d.put } in t) change
      ∙ ap (λ (x : List ℕ). let t : Delta = record { seq = e.seq; last = e.last; services = e.services; change = e.change; gone = x; put = d.put } in t) gone
      ∙ ap (λ (x : LiveObjects ℕ). let t : Delta = record { seq = e.seq; last = e.last; services = e.services; change = e.change; gone = e.gone; put = x } in t) (put ∙ put_same l.changes.living.items)

  pub parts_fit : (parts : List ObjectParts) → HavePartKinds parts
      → objects_in parts ≡ objects_written G (index_at slots) (listed (λ n. body_of n l.table) l.changes.living.items)
      → FitsDelta Two (changes_listed (changes_seen all l.changes) (durable_seen G registered l))
  parts_fit parts kinds same =
      delta_fits (durable_seen G registered l) h.admitted (changes_seen all l.changes) h.listable
      (subst (λ (os : LiveObjects ℕ). HaveKinds os) (same ∙ put_same l.changes.living.items)
      (all_map object_in (λ (e : ℕ × Plain ℕ). HasKind e.1) parts kinds))
