-- Whether what a state stores is of the types of its modules' sources.
use Rattle.std.specs.Prelude.{◌≡◌, ◌↔◌, ℕ, Bool, true, ◌&&◌, List, map, string_bytes}
use Rattle.std.specs.List.{AllByRecursion, list_all}
use Rattle.ash_host.specs.Objects as plain
use Rattle.ash_host.specs.Reach.{is_among}
use Rattle.ash_typed.specs.Modules.{module_of}
use Rattle.ash_typed.specs.Signatures.{HostSignatures, types_of_globals}
use Rattle.ash_meaning.specs.Classes.{Program}
use Rattle.ash_soundness.specs.WellFormed.{AreValues, AreObjects, IsOffered, AreOffered}
use Rattle.ash_requests.specs.States.{Embedding, LoadedModule as Loaded}
use Rattle.ash_plain_steps.specs.declared.state.LoadedModule.{LoadedModule}
use Rattle.ash_soundness.specs.WellFormedStates.{IsLoaded, known_of}
use Rattle.ash_admission.specs.Values.{are_values}
use Rattle.ash_admission.specs.Contents.{known_in, are_objects}

-- these are the kinds of which the host constructs objects
abbrev pub Constructs : HostSignatures → List ℕ → Type 0
Constructs host kinds = (kind : ℕ) → (is_among kinds kind ≡ true) ↔ IsOffered host kind

-- a module by its name and its typed tree
abbrev pub program_of : LoadedModule → Program
program_of m = record { name = string_bytes m.name; tree = module_of m.tree }

-- what the globals of a module hold is of their types
abbrev pub HasTypedGlobals : plain.LiveObjects (List ℕ) → LoadedModule → Type 0
HasTypedGlobals all m = AreValues (program_of m) all (types_of_globals (module_of m.tree).globals) m.globals.items

-- What is stored is of the types that the typed trees of the modules say: the globals are values of their types, each
-- object is as its class or its elements say, and each host object is of a kind of which the host constructs objects.
abbrev pub AreWellTypedObjects : HostSignatures → List LoadedModule → plain.LiveObjects (List ℕ) → Type 0
AreWellTypedObjects host ms all =
    AllByRecursion (HasTypedGlobals all) ms × AreObjects (known_in (map program_of ms)) all × AreOffered host all

-- the same, as the sources are read: these are the parts of a well-formed state that need the sources
abbrev pub IsWellTypedAsRead : {Fault : Type 0} → Embedding Fault → HostSignatures → List Loaded
    → plain.LiveObjects (List ℕ) → Type 0
IsWellTypedAsRead embedding host ms all =
    AllByRecursion (IsLoaded embedding all) ms × AreObjects (known_of embedding ms) all × AreOffered host all

-- as tests, where these are the kinds of which the host constructs objects

abbrev pub is_loaded : plain.LiveObjects (List ℕ) → LoadedModule → Bool
is_loaded all m = are_values (program_of m) all (types_of_globals (module_of m.tree).globals) m.globals.items

abbrev pub is_well_typed : List ℕ → List LoadedModule → plain.LiveObjects (List ℕ) → Bool
is_well_typed kinds ms all = are_objects kinds (map program_of ms) all && list_all (is_loaded all) ms
