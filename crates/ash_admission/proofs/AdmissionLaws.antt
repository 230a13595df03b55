-- The test of what is stored, and what the sources are read as.
use Rattle.std.proofs.Common.{◌≡◌, ℕ, Bool, true, false, List, [], ◌∷◌, refl, sym, subst, ◌∙◌, map, if◌then◌else◌}
use Rattle.std.specs.Prelude.{Some, Result, Ok, option_map, find, ◌↔◌}
use Rattle.std.specs.List.{AllByRecursion, list_all}
use Rattle.std.specs.Option.{option_and_then}
use Rattle.std.specs.Str.{bytes_eq}
use mathlib.Core.Path.{fun_ext}
use Rattle.ash_host.specs.Objects as plain
use Rattle.ash_host.specs.Objects.{IsInOrder}
use Rattle.ash_host.proofs.Membership.{and_both, both_and}
use Rattle.ash_typed.specs.Modules.{Module, module_of}
use Rattle.ash_typed.specs.Signatures.{HostSignatures, types_of_globals}
use Rattle.ash_meaning.specs.Classes.{Program}
use Rattle.ash_soundness.specs.WellFormed.{Known, AreValues, AreObjects}
use Rattle.ash_requests.specs.States.{Embedding, has_name}
use Rattle.ash_requests.specs.Tasks.{tree_of}
use Rattle.ash_plain_steps.specs.declared.state.LoadedModule.{LoadedModule}
use Rattle.ash_plain_steps.specs.StateViews.{loaded_seen, modules_seen}
use Rattle.ash_plain_steps.specs.Consistency.{IsReadFromSource, AreConsistent}
use Rattle.ash_soundness.specs.WellFormedStates.{IsLoaded, known_of}
use Rattle.ash_admission.specs.Contents.{program_of_name, known_in, are_objects}
use Rattle.ash_admission.specs.Admission.{Constructs, program_of, HasTypedGlobals, AreWellTypedObjects, IsWellTypedAsRead, is_loaded, is_well_typed}
use Rattle.ash_admission.proofs.ValueLaws.{values_say, values_yes}
use Rattle.ash_admission.proofs.ContentLaws.{objects_say, objects_yes}

-- the test

module _ (kinds : List ℕ) (all : plain.LiveObjects (List ℕ)) where
  globals_say : (ms : List LoadedModule) → list_all (is_loaded all) ms ≡ true → AllByRecursion (HasTypedGlobals all) ms
  globals_say [] h = tt
  globals_say (m ∷ ms) h =
      let both = and_both (is_loaded all m) (list_all (is_loaded all) ms) h in
      (values_say (program_of m) all (types_of_globals (module_of m.tree).globals) m.globals.items both.0, globals_say ms both.1)

  globals_yes : (ms : List LoadedModule) → AllByRecursion (HasTypedGlobals all) ms → list_all (is_loaded all) ms ≡ true
  globals_yes [] h = refl
  globals_yes (m ∷ ms) h = both_and (is_loaded all m) (list_all (is_loaded all) ms) (values_yes (program_of m) all h.0) (globals_yes ms h.1)

  pub test_says : (host : HostSignatures) (ms : List LoadedModule) → Constructs host kinds → is_well_typed kinds ms all ≡ true → AreWellTypedObjects host ms all
  test_says host ms offers h =
      let both = and_both (are_objects kinds (map program_of ms) all) (list_all (is_loaded all) ms) h in
      let objects = objects_say kinds (map program_of ms) all host offers both.0 in
      (globals_say ms both.1, objects.0, objects.1)

  pub test_yes : (host : HostSignatures) (ms : List LoadedModule) → Constructs host kinds → IsInOrder all → AreWellTypedObjects host ms all → is_well_typed kinds ms all ≡ true
  test_yes host ms offers order h = both_and (are_objects kinds (map program_of ms) all) (list_all (is_loaded all) ms) (objects_yes kinds (map program_of ms) all host offers order h.1 h.2) (globals_yes ms h.0)

  pub decides : (host : HostSignatures) (ms : List LoadedModule) (b : Bool) → b ≡ is_well_typed kinds ms all → IsInOrder all → Constructs host kinds → (b ≡ true) ↔ AreWellTypedObjects host ms all
  decides host ms b is order offers = (λ h. test_says host ms offers (sym is ∙ h), λ h. is ∙ test_yes host ms offers order h)

-- sources

module _ {Fault : Type 0} (embedding : Embedding Fault) where
  known_same : (ms : List LoadedModule) → AllByRecursion (IsReadFromSource embedding) ms → (name : List ℕ) → known_in (map program_of ms) name ≡ known_of embedding (modules_seen ms) name
  known_same [] read name = refl
  known_same (m ∷ ms) read name = by (bytes_eq (loaded_seen m).name name) (known_same ms read.1 name)
    where
      tree_is : tree_of embedding (loaded_seen m) ≡ Some (module_of m.tree)
      tree_is = let here : embedding.read m.source.items ≡ Ok (module_of m.tree) = read.0 in rw here refl

      by : (b : Bool) → known_in (map program_of ms) name ≡ known_of embedding (modules_seen ms) name → option_map (λ (p : Program). p.tree) (if b then Some (program_of m) else program_of_name name (map program_of ms)) ≡ option_and_then (tree_of embedding) (if b then Some (loaded_seen m) else find (has_name name) (modules_seen ms))
      by true later = sym tree_is
      by false later = later

  pub known_as_read : (ms : List LoadedModule) → AreConsistent embedding ms → known_in (map program_of ms) ≡ known_of embedding (modules_seen ms)
  known_as_read ms h = fun_ext (known_same ms h.read)

  module _ (all : plain.LiveObjects (List ℕ)) where
    loaded_from : (ms : List LoadedModule) → AllByRecursion (IsReadFromSource embedding) ms → AllByRecursion (HasTypedGlobals all) ms → AllByRecursion (IsLoaded embedding all) (modules_seen ms)
    loaded_from [] read h = tt
    loaded_from (m ∷ ms) read h = (record { tree = module_of m.tree; is = read.0; values = h.0 }, loaded_from ms read.1 h.1)

    one_tree : (m : LoadedModule) (tree : Module) → IsReadFromSource embedding m → embedding.read m.source.items ≡ Ok tree → tree ≡ module_of m.tree
    one_tree m tree read other = same (sym other ∙ read)
      where
        same : ◌≡◌ {A = Result Module Fault} (Ok tree) (Ok (module_of m.tree)) → tree ≡ module_of m.tree
        same e = cc

    loaded_to : (ms : List LoadedModule) → AllByRecursion (IsReadFromSource embedding) ms → AllByRecursion (IsLoaded embedding all) (modules_seen ms) → AllByRecursion (HasTypedGlobals all) ms
    loaded_to [] read h = tt
    loaded_to (m ∷ ms) read h =
        let one = h.0 in
        (subst (λ (t : Module). AreValues (record { name = (program_of m).name; tree = t }) all (types_of_globals t.globals) m.globals.items) (one_tree m one.tree read.0 one.is) one.values, loaded_to ms read.1 h.1)

    -- Where the typed trees are what the sources are read as, what is well-typed by the ones is so by the others.
    pub as_read : (host : HostSignatures) (ms : List LoadedModule) → AreConsistent embedding ms → AreWellTypedObjects host ms all ↔ IsWellTypedAsRead embedding host (modules_seen ms) all
    as_read host ms h = (
      λ w. (loaded_from ms h.read w.0, subst (λ (k : Known). AreObjects k all) (known_as_read ms h) w.1, w.2),
      λ w. (loaded_to ms h.read w.0, subst (λ (k : Known). AreObjects k all) (sym (known_as_read ms h)) w.1, w.2),
    )
