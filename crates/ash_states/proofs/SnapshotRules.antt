-- The snapshot of a state that a host may be in keeps the rules, and is of that state.
use Rattle.std.proofs.Common.{◌≡◌, ℕ, true, List, [], map, length, refl, sym, ap, ◌∙◌, subst}
use Rattle.std.specs.Prelude.{Option, Some, None, Contains}
use Rattle.std.specs.List.{AllByRecursion, list_all}
use Rattle.std.specs.Option.{option_map_or}
use Rattle.std.proofs.lemmas.List.{length-map}
use Rattle.ash_host.specs.declared.word.Word.{Word}
use Rattle.ash_host.specs.Objects.{LiveObjects, Elements, Plain, object_at, handles, fields_of, Lives}
use Rattle.ash_host.specs.Reach.{ReachableIn, NoneDangles}
use Rattle.ash_integers.specs.declared.int_type.IntType.TheVariants as ints
use Rattle.ash_registry.specs.AcceptedRegistrations.{Registration}
use Rattle.ash_typed.specs.declared.types.Element as typed_element
use Rattle.ash_typed.specs.declared.types.Element.TheVariants as elements
use Rattle.ash_typed.specs.TypeOf.{type_of_element}
use Rattle.ash_typed.specs.Signatures as signatures
use Rattle.ash_meaning.specs.Classes.{Program, element_of}
use Rattle.ash_requests.specs.States.{LoadedModule, State, Embedding, globals_of}
use Rattle.ash_requests.specs.Premises.{ReadsSound}
use Rattle.ash_soundness.specs.WellFormed.{int, uint, int64, uint64, is_truth, is_integer, AllAre, none_are, and_is, IsObject, is_script, is_array, is_host}
use Rattle.ash_soundness.proofs.Values.{none_in, values_live, all_live}
use Rattle.ash_soundness.specs.WellFormedStates.{known_of, IsLoaded, IsWellFormedState}
use Rattle.ash_soundness.proofs.Named.{from_globals, rec_of}
use Rattle.ash_image.specs.Rules.{held_by, IsPlaced, is_element, are_elements, KeepsRules}
use Rattle.ash_states.specs.HostStates.{service_kinds}
use Rattle.ash_states.specs.Images.{name_at, entry_named, loaded_modules_of, state_of}
use Rattle.ash_states.specs.Indexes.{index_in, element_indexed, plain_indexed, entry_indexed, stored_of, stored_modules_of, snapshot_for}
use Rattle.ash_states.proofs.Lists.{all_more, all_map, map_twice, map_same, each_at, zip_seconds}
use Rattle.ash_states.proofs.Names.{stored_same}
use Rattle.ash_states.proofs.Renamed.{numbered, none_dangles, reached, lives_same}
use Rattle.ash_states.proofs.Formed.{held_same}
use Rattle.ash_states.proofs.Restored.{state_same}
use Rattle.ash_states.proofs.Indexed.{IsPlaceable, placeable}
use Rattle.ash_states.proofs.Fitting.{fields_indexed}

-- what globals and objects hold lives

module _ {Fault : Type 0} (embedding : Embedding Fault) (host : signatures.HostSignatures) (s : State) (h : IsWellFormedState embedding host s) where
  held_lives : (n : ℕ) → Contains (handles (globals_of s.modules)) n → Lives s.objects n
  held_lives n i =
      let (m, among, there) = from_globals s.modules n i in
      values_live n (rec_of (IsLoaded embedding s.objects) s.modules h.loaded m among).values there

  pub part_lives : {o : Plain (List ℕ)} (n : ℕ) → IsObject (known_of embedding s.modules) s.objects o → Contains (handles (fields_of o)) n → Lives s.objects n
  part_lives n (is_script script) i = values_live n script.values i
  part_lives n (is_array array) i = all_live n array.values i
  part_lives n (is_host state) i = absurd (none_in n i)

  refers_from : (one other : ℕ) (o : Option (Plain (List ℕ))) → object_at one s.objects ≡ o → Contains (option_map_or (λ (x : Plain (List ℕ)). handles (fields_of x)) o []) other → Lives s.objects other
  refers_from one other None at i = absurd (none_in other i)
  refers_from one other (Some x) at i = part_lives other ((h.living).each one x at) i

  nothing_dangles : NoneDangles (Contains (handles (globals_of s.modules))) s.objects
  nothing_dangles = record { held = held_lives; fields = λ one other r. refers_from one other (object_at one s.objects) refl r }

-- an object that is of a module that is there, and whose elements are of its type
pub record IsWritten (ms : List LoadedModule) (e : ℕ × Plain (List ℕ)) : Type 0 where
  pub typed : are_elements (plain_indexed (index_in ms) e.1) ≡ true
  pub place : IsPlaceable ms e.1

-- the elements of an array are of its type

module _ (index : List ℕ → ℕ) {p : Program} {all : LiveObjects (List ℕ)} where
  typed_elements : (of : typed_element.Element) {ws : List Word} → AllAre p all (type_of_element of) ws → list_all (is_element (element_indexed index (element_of p of))) ws ≡ true
  typed_elements of none_are = refl
  typed_elements elements.Bool (and_is is_truth vs) = typed_elements elements.Bool vs
  typed_elements (elements.Integer ints.Int) (and_is (is_integer (int f)) vs) = typed_elements (elements.Integer ints.Int) vs
  typed_elements (elements.Integer ints.Uint) (and_is (is_integer (uint f)) vs) = typed_elements (elements.Integer ints.Uint) vs
  typed_elements (elements.Integer ints.Int64) (and_is (is_integer (int64 f)) vs) = typed_elements (elements.Integer ints.Int64) vs
  typed_elements (elements.Integer ints.Uint64) (and_is (is_integer (uint64 f)) vs) = typed_elements (elements.Integer ints.Uint64) vs
  typed_elements (elements.Class class) (and_is v vs) = typed_elements (elements.Class class) vs
  typed_elements (elements.Interface interface) (and_is v vs) = typed_elements (elements.Interface interface) vs
  typed_elements (elements.Host kind) (and_is v vs) = typed_elements (elements.Host kind) vs

module _ {Fault : Type 0} (embedding : Embedding Fault) (host : signatures.HostSignatures) (reads : ReadsSound host embedding) (s : State) (h : IsWellFormedState embedding host s) where
  abbrev index : List ℕ → ℕ
  index = index_in s.modules

  abbrev entries : LiveObjects ℕ
  entries = map (entry_indexed index) s.objects

  typed_one : {o : Plain (List ℕ)} → IsObject (known_of embedding s.modules) s.objects o → are_elements (plain_indexed index o) ≡ true
  typed_one (is_script script) = refl
  typed_one (is_array {ws = ws} array) = subst (λ (of : Elements (List ℕ)). list_all (is_element (element_indexed index of)) ws ≡ true) (sym array.is) (typed_elements index array.element array.values)
  typed_one (is_host state) = refl

  pub each_written : AllByRecursion (IsWritten s.modules) s.objects
  each_written =
      all_more (λ (e : ℕ × Plain (List ℕ)). object_at e.0 s.objects ≡ Some e.1) (IsWritten s.modules)
      (λ e at. record { typed = typed_one ((h.living).each e.0 e.1 at); place = placeable embedding host reads s h ((h.living).each e.0 e.1 at) })
      s.objects (each_at s.objects (h.numbered).in_order)

  held_written : handles (globals_of s.modules) ≡ held_by (stored_modules_of s.modules)
  held_written = ap (λ (ms : List LoadedModule). handles (globals_of ms)) (sym (stored_same s.modules)) ∙ held_same (stored_modules_of s.modules)

  few_placed : (e : ℕ × Plain (List ℕ)) → IsWritten s.modules e → IsPlaced (length (stored_modules_of s.modules)) (plain_indexed index e.1)
  few_placed e w = subst (λ (n : ℕ). IsPlaced n (plain_indexed index e.1)) (sym (length-map s.modules stored_of)) (w.place).placed

  pub rules : (registered : List Registration) → KeepsRules (snapshot_for (record { registered = registered; state = s }))
  rules registered = record {
    whole = record {
      numbered = numbered (plain_indexed index) (fields_indexed index) s.last s.objects h.numbered;
      placed = all_map (entry_indexed index) (λ (e : ℕ × Plain ℕ). IsPlaced (length (stored_modules_of s.modules)) e.1) s.objects (all_more (IsWritten s.modules) _ few_placed s.objects each_written);
      typed = all_map (entry_indexed index) (λ (e : ℕ × Plain ℕ). are_elements e.1 ≡ true) s.objects (all_more (IsWritten s.modules) _ (λ e w. w.typed) s.objects each_written);
      none_dangle = subst (λ (held : List ℕ). NoneDangles (Contains held) entries) held_written (none_dangles (plain_indexed index) (fields_indexed index) (handles (globals_of s.modules)) s.objects (nothing_dangles embedding host s h));
    };
    reached = λ n lives. subst (λ (held : List ℕ). ReachableIn (Contains held) entries n) held_written (reached (plain_indexed index) (fields_indexed index) s.objects n (h.reached n (sym (lives_same (plain_indexed index) (fields_indexed index) n s.objects) ∙ lives)));
  }

  -- it is of the state

  back : (e : ℕ × Plain (List ℕ)) → IsWritten s.modules e → entry_named (name_at s.modules) (entry_indexed index e) ≡ e
  back e w = ap (λ (o : Plain (List ℕ)). (e.0, o)) (w.place).back

  pub same_objects : (ms : List LoadedModule) → ms ≡ s.modules → map (entry_named (name_at ms)) entries ≡ s.objects
  same_objects ms same =
      ap (λ (all : List LoadedModule). map (entry_named (name_at all)) entries) same
      ∙ map_twice (entry_named (name_at s.modules)) (entry_indexed index) s.objects
      ∙ map_same (λ (e : ℕ × Plain (List ℕ)). entry_named (name_at s.modules) (entry_indexed index e)) s.objects (all_more (IsWritten s.modules) _ back s.objects each_written)

  pub same_state : (registered : List Registration) → length s.services ≡ length (service_kinds registered) → state_of (snapshot_for (record { registered = registered; state = s })) ≡ s
  same_state registered served =
      state_same (state_of (snapshot_for (record { registered = registered; state = s }))) s
      (stored_same s.modules) (same_objects (loaded_modules_of (stored_modules_of s.modules)) (stored_same s.modules)) (zip_seconds (service_kinds registered) s.services served) refl refl
