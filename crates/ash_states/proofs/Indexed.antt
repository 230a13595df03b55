-- Modules by their indexes: in a well-formed state each object is of a module that is there, at the index of its name.
use Rattle.std.proofs.Common.{◌≡◌, ◌<◌, ◌≤◌, ◌+◌, ◌^◌, ℕ, Bool, true, false, cond, List, [], ◌∷◌, length, get_or, nat_le, slice_get, unwrap_or, refl, sym, ap, ◌∙◌, subst, arith}
use Rattle.std.specs.Prelude.{Option, Some, None, Result, Ok, Err, count_by}
use Rattle.std.specs.List.{find, position_or_len}
use Rattle.std.specs.Option.{option_map_or}
use Rattle.std.proofs.lemmas.Bool.{lt-ltb}
use Rattle.std.proofs.lemmas.Option.{same_Some, slice_get_within, get_or_from_slice_get}
use Rattle.std.proofs.lemmas.List.Folds.{find_at}
use Rattle.std.proofs.lemmas.List.Sums.{passes_at_first, sum_by-cons}
use Rattle.ash_host.specs.declared.word.Word.{Word}
use Rattle.ash_host.specs.Objects.{LiveObjects, Elements, Handles, Plain, Script, Array}
use Rattle.ash_host.proofs.RecordLaws.{bytes_decide}
use Rattle.ash_integers.specs.declared.int_type.IntType.TheVariants as ints
use Rattle.ash_typed.specs.declared.types.Element as typed_element
use Rattle.ash_typed.specs.declared.types.Element.TheVariants as elements
use Rattle.ash_typed.specs.Modules.{Interface, Module}
use Rattle.ash_typed.specs.Signatures as signatures
use Rattle.ash_typed.specs.Signatures.{signatures_of}
use Rattle.ash_typed.specs.SoundModules.{IsSound, IsSoundInterface}
use Rattle.ash_meaning.specs.Classes.{Program, place_of_class, place_of_interface, element_of}
use Rattle.ash_requests.specs.States.{LoadedModule, State, Embedding, has_name}
use Rattle.ash_requests.specs.Tasks.{tree_in, tree_of}
use Rattle.ash_requests.specs.Premises.{ReadsSound}
use Rattle.ash_soundness.specs.WellFormed.{IsKnownFor, IsNamed, IsScript, IsObject, is_script, is_array, is_host}
use Rattle.ash_soundness.proofs.Entries.{chained}
use Rattle.ash_soundness.proofs.Hosts.{rec_at}
use Rattle.ash_soundness.proofs.Parts.{there_from}
use Rattle.ash_soundness.specs.WellFormedStates.{known_of, IsWellFormedState}
use Rattle.ash_image.specs.Rules.{IsPlaced}
use Rattle.ash_states.specs.Images.{name_at, plain_named}
use Rattle.ash_states.specs.Indexes.{index_in, plain_indexed, IsIndexed, IsPlainIndexed}

-- the index of a name

abbrev place_in : List LoadedModule → List ℕ → ℕ
place_in ms name = position_or_len (has_name name) ms

place_found : (ms : List LoadedModule) (name : List ℕ) → place_in ms name < length ms → index_in ms name ≡ place_in ms name
place_found ms name within = ap (λ (b : Bool). unwrap_or (cond b (Some (place_in ms name)) None) 0) (lt-ltb (place_in ms name) (length ms) within)

name_found : (ms : List LoadedModule) (name : List ℕ) (m : LoadedModule) → slice_get ms (place_in ms name) ≡ Some m → m.name ≡ name
name_found ms name m there =
    let within = slice_get_within ms (place_in ms name) m there in
    let same : get_or ms (place_in ms name) m ≡ m = get_or_from_slice_get ms (place_in ms name) m m there in
    let passes : has_name name m ≡ true = ap (has_name name) (sym same) ∙ passes_at_first (has_name name) ms m within in
    (bytes_decide m.name name).0 passes

-- a module that is found is at the index of its name
pub found_index : (ms : List LoadedModule) (name : List ℕ) (m : LoadedModule) → find (has_name name) ms ≡ Some m → (index_in ms name < length ms) × (name_at ms (index_in ms name) ≡ name)
found_index ms name m found =
    let there : slice_get ms (place_in ms name) ≡ Some m = sym (find_at (has_name name) ms) ∙ found in
    let within : place_in ms name < length ms = slice_get_within ms (place_in ms name) m there in
    let at : index_in ms name ≡ place_in ms name = place_found ms name within in
    let named : name_at ms (place_in ms name) ≡ name = ap (λ (o : Option LoadedModule). option_map_or (λ (x : LoadedModule). x.name) o []) there ∙ name_found ms name m there in
    (subst (λ (k : ℕ). k < length ms) (sym at) within, ap (name_at ms) at ∙ named)

-- the places of classes and interfaces are few

abbrev is_before : ℕ → Interface → ℕ
is_before class i = cond {A = ℕ} (nat_le i.classes_before class) 1 0

abbrev before : ℕ → List Interface → ℕ
before class is = count_by (λ (i : Interface). nat_le i.classes_before class) is

before-cons : (class : ℕ) (i : Interface) (is : List Interface) → before class (i ∷ is) ≡ is_before class i + before class is
before-cons class i is = sum_by-cons (λ (x : Interface). is_before class x) i is

at_most_one : (class : ℕ) (i : Interface) → is_before class i ≤ 1
at_most_one class i = elim (nat_le i.classes_before class) as (λ b. cond {A = ℕ} b 1 0 ≤ 1) [ true ↦ omega arith | false ↦ omega arith ]

at_most_all : (class : ℕ) (is : List Interface) → before class is ≤ length is
at_most_all class [] = omega arith
at_most_all class (i ∷ is) = omega (arith, before-cons class i is, at_most_one class i, at_most_all class is)

module _ {host : signatures.HostSignatures} {tree : Module} (sound : IsSound host tree) where
  pub class_place : (class : ℕ) → class < length tree.classes → place_of_class tree class < 2 ^ 16
  class_place class lt = omega (arith, at_most_all class tree.interfaces, sound.few_types)

  before_all : (interface : ℕ) (i : Interface) → slice_get tree.interfaces interface ≡ Some i → i.classes_before ≤ length tree.classes
  before_all interface i at = (rec_at (IsSoundInterface (signatures_of host tree) (length tree.classes)) tree.interfaces interface i sound.interfaces at).before

  pub interface_place : (interface : ℕ) → interface < length tree.interfaces → place_of_interface tree interface < 2 ^ 16
  interface_place interface lt =
      let (i, at) = there_from tree.interfaces interface lt in
      let place : place_of_interface tree interface ≡ interface + i.classes_before = ap (λ (o : Option Interface). interface + option_map_or (λ (x : Interface). x.classes_before) o 0) at in
      let few : i.classes_before ≤ length tree.classes = before_all interface i at in
      omega (arith, sound.few_types)

-- what is known of the name of a module: its index, and that the tree is sound
pub record IsIndexedName (host : signatures.HostSignatures) (ms : List LoadedModule) (owner : List ℕ) (tree : Module) : Type 0 where
  pub within : index_in ms owner < length ms
  pub named : name_at ms (index_in ms owner) ≡ owner
  pub sound : IsSound host tree

-- an object is of a module that is there, and comes back by its index
pub record IsPlaceable (ms : List LoadedModule) (o : Plain (List ℕ)) : Type 0 where
  pub indexed : IsPlainIndexed ms o
  pub placed : IsPlaced (length ms) (plain_indexed (index_in ms) o)
  pub back : plain_named (name_at ms) (plain_indexed (index_in ms) o) ≡ o

tree_read : {Fault : Type 0} (r : Result Module Fault) (tree : Module) → tree_in r ≡ Some tree → r ≡ Ok tree
tree_read (Ok t) tree e = ap (λ (x : Module). Ok x) (same_Some t tree e)
tree_read (Err fault) tree e = absurd (cc)

module _ {Fault : Type 0} (embedding : Embedding Fault) (host : signatures.HostSignatures) (reads : ReadsSound host embedding) (s : State) (h : IsWellFormedState embedding host s) where
  pub indexed_name : (owner : List ℕ) (tree : Module) → known_of embedding s.modules owner ≡ Some tree → IsIndexedName host s.modules owner tree
  indexed_name owner tree known =
      let (m, found, read) = chained (tree_of embedding) (find (has_name owner) s.modules) tree known in
      let at = found_index s.modules owner m found in
      record { within = at.0; named = at.1; sound = reads m.source tree (tree_read (embedding.read m.source) tree read) }

  is_indexed : {owner : List ℕ} {tree : Module} (place : ℕ) → IsIndexedName host s.modules owner tree → place < 2 ^ 16 → IsIndexed s.modules owner place
  is_indexed place name lt = record { index_fits = omega (arith, name.within, h.few_modules); place_fits = lt }

  script_placeable : (all : LiveObjects (List ℕ)) (owner : List ℕ) (place : ℕ) (fields : List Word) → IsScript (known_of embedding s.modules) all owner place fields → IsPlaceable s.modules (Script owner place fields)
  script_placeable all owner place fields script =
      let name = indexed_name owner script.tree script.known in
      let lt : place < 2 ^ 16 = subst (λ (p : ℕ). p < 2 ^ 16) (sym script.is) (class_place name.sound script.class (slice_get_within (script.tree).classes script.class script.source script.at)) in
      record {
        indexed = is_indexed place name lt;
        placed = name.within;
        back = ap (λ (n : List ℕ). Script n place fields) name.named;
      }

  handles_placeable : (program : Program) (place : ℕ) (words : List Word) → known_of embedding s.modules program.name ≡ Some program.tree → place < 2 ^ 16 → IsPlaceable s.modules (Array (Handles program.name place) words)
  handles_placeable program place words known lt =
      let name = indexed_name program.name program.tree known in
      record {
        indexed = is_indexed place name lt;
        placed = name.within;
        back = ap (λ (n : List ℕ). Array (Handles n place) words) name.named;
      }

  array_placeable : (program : Program) (of : typed_element.Element) (words : List Word) → IsKnownFor (known_of embedding s.modules) program of → IsNamed program.tree of → IsPlaceable s.modules (Array (element_of program of) words)
  array_placeable program elements.Bool words known named = record { indexed = tt; placed = tt; back = refl }
  array_placeable program (elements.Integer ints.Int) words known named = record { indexed = tt; placed = tt; back = refl }
  array_placeable program (elements.Integer ints.Uint) words known named = record { indexed = tt; placed = tt; back = refl }
  array_placeable program (elements.Integer ints.Int64) words known named = record { indexed = tt; placed = tt; back = refl }
  array_placeable program (elements.Integer ints.Uint64) words known named = record { indexed = tt; placed = tt; back = refl }
  array_placeable program (elements.Class class) words known named =
      handles_placeable program (place_of_class program.tree class) words known (class_place (indexed_name program.name program.tree known).sound class named)
  array_placeable program (elements.Interface interface) words known named =
      handles_placeable program (place_of_interface program.tree interface) words known (interface_place (indexed_name program.name program.tree known).sound interface named)
  array_placeable program (elements.Host kind) words known named = record { indexed = tt; placed = tt; back = refl }

  pub placeable : {all : LiveObjects (List ℕ)} {o : Plain (List ℕ)} → IsObject (known_of embedding s.modules) all o → IsPlaceable s.modules o
  placeable {all} (is_script {owner} {place} {fields} script) = script_placeable all owner place fields script
  placeable (is_array {ws = words} array) = subst (λ (of : Elements (List ℕ)). IsPlaceable s.modules (Array of words)) (sym array.is) (array_placeable array.program array.element words array.known array.named)
  placeable (is_host state) = record { indexed = tt; placed = tt; back = refl }
