-- Where a delta leads: what it lists is as listed, and all else is as it was. An object that is not listed stays an
-- object of the same module, by name: its module has another index where modules before it came or went.
use Rattle.std.specs.Prelude.{◌≡◌, ℕ, suc, ◌<◌, Bool, if◌then◌else◌, List, [], ◌∷◌, length, map, ⊤}
use Rattle.std.specs.Prelude.{Option, Some, None, option_map, slice_get}
use Rattle.std.specs.Bool.{IsTrue}
use Rattle.std.specs.Option.{unwrap_or, option_or}
use Rattle.std.specs.List.{AllByRecursion}
use Rattle.std.specs.Ordering.{is_eq}
use Rattle.ash_host.specs.declared.word.Word.{Word}
use Rattle.ash_host.specs.Objects.{Elements, Bools, Ints, Uints, Int64s, Uint64s, Handles, Hosts, Plain, Script, Array, Host}
use Rattle.ash_host.specs.Objects.{LiveObjects, object_at, IsInOrder}
use Rattle.ash_host.specs.Reach.{is_among}
use Rattle.ash_image.specs.declared.version.Version.{Version}
use Rattle.ash_image.specs.Snapshots.{Loaded, Snapshot}
use Rattle.ash_image.specs.Image.{compare_names, are_ascending, names_of, FitsVersion}
use Rattle.ash_image.specs.Rules.{KeepsRules}
use Rattle.ash_image.specs.Delta.{ModuleChange, Unchanged, Added, Removed, Globals, Delta, IsDelta, delta_tag}

-- what is at indexes

-- the values from an index on: each as it is listed at its index, or as it was
unfoldable pub values_from : {A : Type 0} → ℕ → List (ℕ × A) → List A → List A
values_from index listed [] = []
values_from index listed (v ∷ vs) = unwrap_or (object_at index listed) v ∷ values_from (suc index) listed vs

abbrev pub values_after : {A : Type 0} → List (ℕ × A) → List A → List A
values_after listed values = values_from 0 listed values

-- each index that is listed is of one of so many
abbrev pub AreThere : {A : Type 0} → List (ℕ × A) → ℕ → Type 0
AreThere listed count = AllByRecursion (λ e. e.0 < count) listed

-- services keep their kinds, each in the state that is listed, or in the one that it was in
pub record LeadServices (listed before after : List (ℕ × List ℕ)) : Type 0 where
  pub there : AreThere listed (length before)
  pub kinds : map (λ (s : ℕ × List ℕ). s.0) after ≡ map (λ (s : ℕ × List ℕ). s.0) before
  pub states : map (λ (s : ℕ × List ℕ). s.1) after ≡ values_after listed (map (λ (s : ℕ × List ℕ). s.1) before)

-- modules

abbrev pub is_name_of : List ℕ → Loaded → Bool
is_name_of name m = is_eq (compare_names name m.name)

-- the module of a name, if one is there
unfoldable pub module_named : List ℕ → List Loaded → Option Loaded
module_named name [] = None
module_named name (m ∷ ms) = if is_name_of name m then Some m else module_named name ms

-- a module with other values of some globals
abbrev pub with_globals : List (ℕ × Word) → Loaded → Loaded
with_globals listed m = record { name = m.name; source = m.source; globals = values_after listed m.globals }

-- what is at a name after the change, if anything is
abbrev pub module_after : ModuleChange → List Loaded → List ℕ → Option Loaded
module_after Unchanged before name = module_named name before
module_after (Added m) before name = if is_name_of name m then Some m else module_named name before
module_after (Removed gone) before name = if is_eq (compare_names name gone) then None else module_named name before
module_after (Globals changed listed) before name =
    if is_eq (compare_names name changed)
    then option_map (with_globals listed) (module_named name before)
    else module_named name before

-- globals change of a module that is there, and of those that it has
abbrev pub IsChangeOf : List Loaded → ModuleChange → Type 0
IsChangeOf before (Globals changed listed) =
    (m : Loaded) × (module_named changed before ≡ Some m) × AreThere listed (length m.globals)
IsChangeOf before _ = ⊤

pub record LeadModules (change : ModuleChange) (before after : List Loaded) : Type 0 where
  pub there : IsChangeOf before change
  pub modules : (name : List ℕ) → module_named name after ≡ module_after change before name

-- objects

-- the name of the module at an index; none is named where there is no module
abbrev pub name_there : List Loaded → ℕ → List ℕ
name_there ms index = unwrap_or (option_map (λ (m : Loaded). m.name) (slice_get ms index)) []

-- what the elements of an array are, its module known in another way
abbrev pub elements_known : {M N : Type 0} → (M → N) → Elements M → Elements N
elements_known known Bools = Bools
elements_known known Ints = Ints
elements_known known Uints = Uints
elements_known known Int64s = Int64s
elements_known known Uint64s = Uint64s
elements_known known (Handles owner place) = Handles (known owner) place
elements_known known (Hosts kind) = Hosts kind

-- what an object is, its module known in another way
abbrev pub plain_known : {M N : Type 0} → (M → N) → Plain M → Plain N
plain_known known (Script owner place fields) = Script (known owner) place fields
plain_known known (Array of elements) = Array (elements_known known of) elements
plain_known known (Host kind state) = Host kind state

-- what an object is, its module by name
abbrev pub by_name : List Loaded → Plain ℕ → Plain (List ℕ)
by_name ms = plain_known (name_there ms)

-- what lives at a number, its module by name
abbrev pub object_by_name : List Loaded → LiveObjects ℕ → ℕ → Option (Plain (List ℕ))
object_by_name ms objects number = option_map (by_name ms) (object_at number objects)

-- what lives at a number that is not put
abbrev pub kept : List ℕ → LiveObjects (List ℕ) → ℕ → Option (Plain (List ℕ))
kept gone before number = if is_among gone number then None else object_at number before

-- At each number lives what is put there; else nothing, if it is gone; else what lived there. What is put knows its
-- module by the index after the request.
abbrev pub LeadObjects : Delta → List Loaded → LiveObjects (List ℕ) → LiveObjects (List ℕ) → Type 0
LeadObjects d modules before after = (number : ℕ) → object_at number after
    ≡ option_or (object_by_name modules d.put number) (kept d.gone before number)

-- states

-- a snapshot in which each object has its module by name
pub record NamedSnapshot : Type 0 where
  pub registered : List ℕ
  pub seq : ℕ
  pub last : ℕ
  pub services : List (ℕ × List ℕ)
  pub modules : List Loaded
  pub objects : LiveObjects (List ℕ)

abbrev pub objects_named : List Loaded → LiveObjects ℕ → LiveObjects (List ℕ)
objects_named ms objects = map (λ (e : ℕ × Plain ℕ). (e.0, by_name ms e.1)) objects

abbrev pub named : Snapshot → NamedSnapshot
named s = record {
  registered = s.registered;
  seq = s.seq;
  last = s.last;
  services = s.services;
  modules = s.modules;
  objects = objects_named s.modules s.objects;
}

-- the index of a name among names; as many as there are, if it is not among them
unfoldable pub index_among : List (List ℕ) → List ℕ → ℕ
index_among [] name = 0
index_among (n ∷ ns) name = if is_eq (compare_names name n) then 0 else suc (index_among ns name)

-- the index of the module of a name
abbrev pub index_of_name : List Loaded → List ℕ → ℕ
index_of_name ms name = index_among (names_of ms) name

abbrev pub objects_indexed : List Loaded → LiveObjects (List ℕ) → LiveObjects ℕ
objects_indexed ms objects = map (λ (e : ℕ × Plain (List ℕ)). (e.0, plain_known (index_of_name ms) e.1)) objects

-- each object has its module by index again
abbrev pub indexed : NamedSnapshot → Snapshot
indexed s = record {
  registered = s.registered;
  seq = s.seq;
  last = s.last;
  services = s.services;
  modules = s.modules;
  objects = objects_indexed s.modules s.objects;
}

-- the modules are by ascending name, and the objects by ascending number
pub record IsOrdered (s : NamedSnapshot) : Type 0 where
  pub modules : IsTrue (are_ascending (names_of s.modules))
  pub objects : IsInOrder s.objects

-- A state that keeps the rules, its modules by ascending name, is known by its names.
abbrev pub KnownByNames : Type 0
KnownByNames = (s t : Snapshot) → IsTrue (are_ascending (names_of s.modules)) → KeepsRules s → KeepsRules t
    → named s ≡ named t → s ≡ t

-- The delta leads from one state to the other, whatever the rules of a state are.
pub record Leads (d : Delta) (before after : NamedSnapshot) : Type 0 where
  pub registered : after.registered ≡ before.registered
  pub seq : after.seq ≡ d.seq
  pub last : after.last ≡ d.last
  pub services : LeadServices d.services before.services after.services
  pub modules : LeadModules d.change before.modules after.modules
  pub objects : LeadObjects d after.modules before.objects after.objects

-- From one state a delta leads to one ordered state at most.
abbrev pub LeadToOne : Type 0
LeadToOne = (d : Delta) (before s t : NamedSnapshot) → Leads d before s → Leads d before t → IsOrdered s
    → IsOrdered t → s ≡ t

-- The delta leads to a state that has an image in the version.
abbrev pub LeadsTo : Version → Delta → Snapshot → Snapshot → Type 0
LeadsTo version d before after = Leads d (named before) (named after) × FitsVersion version after × KeepsRules after

-- The bytes are the body of a record that leads from one state to the other: a tag, and a delta.
abbrev pub IsDeltaBetween : List ℕ → Version → Snapshot → Snapshot → Type 0
IsDeltaBetween body version before after = (bytes : List ℕ) × (d : Delta) × (body ≡ delta_tag ∷ bytes)
    × IsDelta bytes version d × LeadsTo version d before after
