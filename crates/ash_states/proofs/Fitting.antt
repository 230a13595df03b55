-- The snapshot of a state that a host may be in has a spelling in version 2.
use Rattle.std.proofs.Common.{◌≡◌, ◌<◌, ◌≤◌, ◌+◌, ◌^◌, ℕ, zero, suc, List, [], ◌∷◌, map, length, slice_get, refl, sym, ◌∙◌, subst, arith}
use Rattle.std.specs.Prelude.{Option, Some, IsSome, Ok, true}
use Rattle.std.specs.List.{AllByRecursion}
use Rattle.std.proofs.lemmas.List.{length-map}
use Rattle.std.proofs.lemmas.Option.{same_Some}
use Rattle.ash_host.specs.declared.word.Word.{Word}
use Rattle.ash_host.specs.Objects.{LiveObjects, Elements, Bools, Ints, Uints, Int64s, Uint64s, Handles, Hosts, Plain, Script, Array, Host, object_at, fields_of, Lives}
use Rattle.ash_integers.specs.declared.int_type.IntType.{IntType}
use Rattle.ash_typed.specs.declared.types.VarType.{VarType}
use Rattle.ash_typed.specs.Modules.{Class, Module}
use Rattle.ash_typed.specs.Signatures as signatures
use Rattle.ash_typed.specs.Signatures.{ModuleSignatures, signatures_of, type_declared, types_of_globals}
use Rattle.ash_typed.specs.SoundModules.{IsSound, IsSoundClass, AreSoundClasses}
use Rattle.ash_meaning.specs.Classes.{Program}
use Rattle.ash_requests.specs.States.{LoadedModule, State, Embedding}
use Rattle.ash_requests.specs.Premises.{ReadsSound}
use Rattle.ash_soundness.specs.WellFormed.{Shape, IsReference, to_nothing, to_object, IsInteger, int, uint, int64, uint64, IsValue, is_truth, is_integer, is_object, is_handle, AreValues, no_values, and_value, AllAre, none_are, and_is, IsScript, IsObject, is_script, is_array, is_host}
use Rattle.ash_soundness.proofs.Values.{shape_lives}
use Rattle.ash_soundness.proofs.Lists.{values_length}
use Rattle.ash_soundness.specs.WellFormedStates.{known_of, IsLoaded, HasValidName, IsWellFormedState}
use Rattle.ash_image.specs.declared.version.Version.TheVariants.{Two}
use Rattle.ash_image.specs.ImageWords.{FitsWord}
use Rattle.ash_image.specs.ObjectBytes.{FitsElement, FitsScript, FitsPlain}
use Rattle.ash_image.specs.Image.{max_source_bytes, do_rise, has_version, FitsModule, FitsObject, FitModules, FitObjects}
use Rattle.ash_states.specs.Indexes.{index_in, element_indexed, plain_indexed, entry_indexed, stored_of, stored_modules_of, IsElementIndexed, IsPlainIndexed, HasElementKind, HasKind, HaveKinds}
use Rattle.ash_states.proofs.Lists.{each_at, order_rises}
use Rattle.ash_states.proofs.Names.{one_name, ascending_of}
use Rattle.ash_states.proofs.Renamed.{numbers_same}
use Rattle.ash_states.proofs.Indexed.{indexed_name, placeable}

-- words

integer_fits : {of : IntType} {w : Word} → IsInteger of w → FitsWord w
integer_fits (int f) = f
integer_fits (uint f) = f
integer_fits (int64 f) = f
integer_fits (uint64 f) = f

module _ {all : LiveObjects (List ℕ)} (small : (n : ℕ) → Lives all n → n < 2 ^ 64) where
  reference_fits : {Fits : Shape → Type 0} {w : Word} → IsReference all Fits w → FitsWord w
  reference_fits to_nothing = tt
  reference_fits (to_object {number} {shape} at fits) = small number (shape_lives number all shape at)

  value_fits : {p : Program} {of : VarType} {w : Word} → IsValue p all of w → FitsWord w
  value_fits is_truth = tt
  value_fits (is_integer i) = integer_fits i
  value_fits (is_object r) = reference_fits r
  value_fits (is_handle r) = reference_fits r

  pub values_fit : {p : Program} {types : List VarType} {ws : List Word} → AreValues p all types ws → AllByRecursion FitsWord ws
  values_fit no_values = tt
  values_fit (and_value v vs) = (value_fits v, values_fit vs)

  pub all_fit : {p : Program} {of : VarType} {ws : List Word} → AllAre p all of ws → AllByRecursion FitsWord ws
  all_fit none_are = tt
  all_fit (and_is v vs) = (value_fits v, all_fit vs)

-- fields

pub fields_indexed : (index : List ℕ → ℕ) (o : Plain (List ℕ)) → fields_of (plain_indexed index o) ≡ fields_of o
fields_indexed index (Script owner place fields) = refl
fields_indexed index (Array of elements) = refl
fields_indexed index (Host kind state) = refl

class_at : (s : ModuleSignatures) (start k : ℕ) (cs : List Class) (c : Class) → AreSoundClasses s start cs → slice_get cs k ≡ Some c → (place : ℕ) × IsSoundClass s place c
class_at s start k [] c h at = absurd (cc)
class_at s start zero (x ∷ cs) c h at = (start, subst (IsSoundClass s start) (same_Some x c at) h.0)
class_at s start (suc k) (x ∷ cs) c h at = class_at s (start + 1) k cs c h.1 at

pub few_fields : {host : signatures.HostSignatures} {tree : Module} → IsSound host tree → (class : ℕ) (c : Class) → slice_get tree.classes class ≡ Some c → length c.fields ≤ 32
few_fields {host} {tree} sound class c at =
    let (place, is) = class_at (signatures_of host tree) 0 class tree.classes c sound.classes at in
    omega (arith, is.few)

-- objects

element_fits : (ms : List LoadedModule) (of : Elements (List ℕ)) → IsElementIndexed ms of → HasElementKind (element_indexed (index_in ms) of) → FitsElement (element_indexed (index_in ms) of)
element_fits ms Bools h k = tt
element_fits ms Ints h k = tt
element_fits ms Uints h k = tt
element_fits ms Int64s h k = tt
element_fits ms Uint64s h k = tt
element_fits ms (Handles owner place) h k = (h.index_fits, h.place_fits)
element_fits ms (Hosts kind) h k = k

has_two : (o : Plain ℕ) → has_version Two o ≡ true
has_two (Script owner class fields) = refl
has_two (Array of elements) = refl
has_two (Host kind state) = refl

module _ {Fault : Type 0} (embedding : Embedding Fault) (host : signatures.HostSignatures) (reads : ReadsSound host embedding) (short : (source : List ℕ) (tree : Module) → embedding.read source ≡ Ok tree → length source ≤ max_source_bytes) (s : State) (h : IsWellFormedState embedding host s) where
  small : (n : ℕ) → Lives s.objects n → n < 2 ^ 64
  small n lives = omega (arith, ((h.numbered).given n lives).1, h.last)

  script_fits : (owner : List ℕ) (place : ℕ) (fields : List Word) → IsScript (known_of embedding s.modules) s.objects owner place fields → IsPlainIndexed s.modules (Script owner place fields) → FitsScript (index_in s.modules owner) place fields
  script_fits owner place fields script indexed =
      let name = indexed_name embedding host reads s h owner script.tree script.known in
      let few : length (script.source).fields ≤ 32 = few_fields name.sound script.class script.source script.at in
      let many : length fields ≡ length (map type_declared (script.source).fields) = values_length script.values in
      record {
        owner_fits = indexed.index_fits;
        class_fits = indexed.place_fits;
        few = omega (arith, length-map (script.source).fields type_declared);
        words = values_fit small script.values;
      }

  plain_fits : {o : Plain (List ℕ)} → IsObject (known_of embedding s.modules) s.objects o → IsPlainIndexed s.modules o → HasKind (plain_indexed (index_in s.modules) o) → FitsPlain (plain_indexed (index_in s.modules) o)
  plain_fits (is_script {owner} {place} {fields} script) indexed kind = script_fits owner place fields script indexed
  plain_fits (is_array {of} array) indexed kind = record { element_fits = element_fits s.modules of indexed kind; few = array.few; words = all_fit small array.values }
  plain_fits (is_host state) indexed kind = record { kind_fits = kind; short = state }

  entry_fits : (e : ℕ × Plain (List ℕ)) → (object_at e.0 s.objects ≡ Some e.1) × HasKind (plain_indexed (index_in s.modules) e.1) → FitsObject Two (entry_indexed (index_in s.modules) e)
  entry_fits e h2 =
      let living = (h.living).each e.0 e.1 h2.0 in
      record {
        number_fits = small e.0 (subst (λ (o : Option (Plain (List ℕ))). IsSome o) (sym h2.0) refl);
        fits = plain_fits living (placeable embedding host reads s h living).indexed h2.1;
        is_there = has_two (plain_indexed (index_in s.modules) e.1);
      }

  abbrev entries : List (ℕ × Plain ℕ)
  entries = map (entry_indexed (index_in s.modules)) s.objects

  each_fits : (es : List (ℕ × Plain (List ℕ))) → AllByRecursion (λ (e : ℕ × Plain (List ℕ)). object_at e.0 s.objects ≡ Some e.1) es → HaveKinds (map (entry_indexed (index_in s.modules)) es) → AllByRecursion (FitsObject Two) (map (entry_indexed (index_in s.modules)) es)
  each_fits [] at kinds = tt
  each_fits (e ∷ es) at kinds = (entry_fits e (at.0, kinds.0), each_fits es at.1 kinds.1)

  pub objects_fit : HaveKinds entries → FitObjects Two entries
  objects_fit kinds = record {
    few = omega (arith, length-map s.objects (entry_indexed (index_in s.modules)), h.few);
    each = each_fits s.objects (each_at s.objects ((h.numbered).in_order)) kinds;
    order = subst (λ (ns : List ℕ). do_rise ns ≡ true) (sym (numbers_same (plain_indexed (index_in s.modules)) (fields_indexed (index_in s.modules)) s.objects)) (order_rises s.objects ((h.numbered).in_order));
  }

  -- modules

  few_globals : (m : LoadedModule) → IsLoaded embedding s.objects m → length m.globals ≤ 256
  few_globals m loaded =
      let many : length m.globals ≡ length (types_of_globals (loaded.tree).globals) = values_length loaded.values in
      omega (arith, (reads m.source loaded.tree loaded.is).few_globals)

  module_fits : (m : LoadedModule) → HasValidName m × IsLoaded embedding s.objects m → FitsModule (stored_of m)
  module_fits m (valid, loaded) = record {
    name_fits = one_name m.name ∙ valid;
    source_short = short m.source loaded.tree loaded.is;
    few = few_globals m loaded;
    words = values_fit small loaded.values;
  }

  modules_fit_each : (ms : List LoadedModule) → AllByRecursion HasValidName ms → AllByRecursion (IsLoaded embedding s.objects) ms → AllByRecursion FitsModule (stored_modules_of ms)
  modules_fit_each [] valid loaded = tt
  modules_fit_each (m ∷ ms) valid loaded = (module_fits m (valid.0, loaded.0), modules_fit_each ms valid.1 loaded.1)

  pub modules_fit : FitModules (stored_modules_of s.modules)
  modules_fit = record {
    few = omega (arith, length-map s.modules stored_of, h.few_modules);
    each = modules_fit_each s.modules h.valid h.loaded;
    order = ascending_of s.modules h.ascending;
  }
