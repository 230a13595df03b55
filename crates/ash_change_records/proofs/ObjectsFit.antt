-- An object of a well-formed state has a spelling in version 2, if its kind has one.
use Rattle.std.proofs.Common.{◌≡◌, ◌<◌, ◌≤◌, ◌^◌, ℕ, true, List, length, map, refl, sym, subst, arith}
use Rattle.std.specs.Prelude.{Option, Some, IsSome, Ok}
use Rattle.std.proofs.lemmas.List.{length-map}
use Rattle.ash_host.specs.declared.word.Word.{Word}
use Rattle.ash_host.specs.Objects.{Elements, Bools, Ints, Uints, Int64s, Uint64s, Handles, Hosts, Plain, Script, Array, Host, object_at, Lives}
use Rattle.ash_typed.specs.Modules.{Class, Module}
use Rattle.ash_typed.specs.Signatures as signatures
use Rattle.ash_typed.specs.Signatures.{type_declared}
use Rattle.ash_requests.specs.States.{LoadedModule, State, Embedding}
use Rattle.ash_requests.specs.Premises.{ReadsSound}
use Rattle.ash_soundness.specs.WellFormed.{IsScript, IsObject, is_script, is_array, is_host}
use Rattle.ash_soundness.proofs.Lists.{values_length}
use Rattle.ash_soundness.specs.WellFormedStates.{known_of, IsWellFormedState}
use Rattle.ash_image.specs.declared.version.Version.TheVariants.{Two}
use Rattle.ash_image.specs.ObjectBytes.{FitsElement, FitsScript, FitsPlain}
use Rattle.ash_image.specs.Image.{has_version, FitsObject}
use Rattle.ash_states.specs.Indexes.{index_in, element_indexed, plain_indexed, IsElementIndexed, IsPlainIndexed, HasElementKind, HasKind}
use Rattle.ash_states.proofs.Indexed.{indexed_name, placeable}
use Rattle.ash_states.proofs.Fitting.{values_fit, all_fit, few_fields}

element_fits : (ms : List LoadedModule) (of : Elements (List ℕ)) → IsElementIndexed ms of → HasElementKind (element_indexed (index_in ms) of) → FitsElement (element_indexed (index_in ms) of)
element_fits ms Bools h k = tt
element_fits ms Ints h k = tt
element_fits ms Uints h k = tt
element_fits ms Int64s h k = tt
element_fits ms Uint64s h k = tt
element_fits ms (Handles owner place) h k = (h.index_fits, h.place_fits)
element_fits ms (Hosts kind) h k = k

has_two : (o : Plain ℕ) → has_version Two o ≡ true
has_two (Script owner class fields) = refl
has_two (Array of elements) = refl
has_two (Host kind state) = refl

module _ {Fault : Type 0} (embedding : Embedding Fault) (host : signatures.HostSignatures) (reads : ReadsSound host embedding) (s : State) (h : IsWellFormedState embedding host s) where
  small : (n : ℕ) → Lives s.objects n → n < 2 ^ 64
  small n lives = omega (arith, ((h.numbered).given n lives).1, h.last)

  script_fits : (owner : List ℕ) (place : ℕ) (fields : List Word) → IsScript (known_of embedding s.modules) s.objects owner place fields → IsPlainIndexed s.modules (Script owner place fields) → FitsScript (index_in s.modules owner) place fields
  script_fits owner place fields script indexed =
      let name = indexed_name embedding host reads s h owner script.tree script.known in
      let few : length (script.source).fields ≤ 32 = few_fields name.sound script.class script.source script.at in
      let many : length fields ≡ length (map type_declared (script.source).fields) = values_length script.values in
      record {
        owner_fits = indexed.index_fits;
        class_fits = indexed.place_fits;
        few = omega (arith, length-map (script.source).fields type_declared);
        words = values_fit small script.values;
      }

  plain_fits : {o : Plain (List ℕ)} → IsObject (known_of embedding s.modules) s.objects o → IsPlainIndexed s.modules o → HasKind (plain_indexed (index_in s.modules) o) → FitsPlain (plain_indexed (index_in s.modules) o)
  plain_fits (is_script {owner} {place} {fields} script) indexed kind = script_fits owner place fields script indexed
  plain_fits (is_array {of} array) indexed kind = record { element_fits = element_fits s.modules of indexed kind; few = array.few; words = all_fit small array.values }
  plain_fits (is_host state) indexed kind = record { kind_fits = kind; short = state }

  pub object_fits : (n : ℕ) (o : Plain (List ℕ)) → object_at n s.objects ≡ Some o → HasKind (plain_indexed (index_in s.modules) o) → FitsObject Two (n, plain_indexed (index_in s.modules) o)
  object_fits n o at kind =
      let living = (h.living).each n o at in
      record {
        number_fits = small n (subst (λ (x : Option (Plain (List ℕ))). IsSome x) (sym at) refl);
        fits = plain_fits living (placeable embedding host reads s h living).indexed kind;
        is_there = has_two (plain_indexed (index_in s.modules) o);
      }
