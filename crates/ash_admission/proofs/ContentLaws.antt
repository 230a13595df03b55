-- The tests of objects decide what objects are.
use Rattle.std.proofs.Common.{◌≡◌, ℕ, Bool, true, false, List, [], ◌∷◌, length, refl, ap, subst, ◌∙◌, nat_eq, nat_le, map}
use Rattle.std.specs.Prelude.{Option, Some, None, option_map, IsSome, is_some, if◌then◌else◌}
use Rattle.std.specs.List.{list_all}
use Rattle.std.specs.Option.{option_map_or}
use Rattle.std.proofs.lemmas.Option.{same_Some}
use Rattle.ash_host.specs.declared.word.Word.{Word}
use Rattle.ash_host.specs.Objects.{Elements, Plain, Script, Array, Host, LiveObjects, object_at, IsInOrder}
use Rattle.ash_host.specs.Reach.{is_among}
use Rattle.ash_host.specs.Limits.{max_elements, max_state_bytes}
use Rattle.ash_host.proofs.Membership.{and_both, both_and}
use Rattle.ash_host.proofs.Order.{object_here, object_later, none_after, in_order_after}
use Rattle.ash_typed.specs.Modules.{Class}
use Rattle.ash_typed.specs.Signatures as signatures
use Rattle.ash_typed.specs.Signatures.{type_declared}
use Rattle.ash_meaning.specs.Classes.{Program}
use Rattle.ash_soundness.specs.WellFormed as formed
use Rattle.ash_soundness.specs.WellFormed.{Shape, OfKind, shape_of, shape_at, AreValues, IsScript, IsObject, AreObjects, IsOffered, AreOffered}
use Rattle.ash_admission.specs.Places.{class_at}
use Rattle.ash_admission.specs.Values.{are_values}
use Rattle.ash_admission.specs.Contents.{program_of_name, known_in, is_script, are_elements, is_object, are_objects}
use Rattle.ash_admission.specs.Admission.{Constructs}
use Rattle.ash_admission.proofs.Tests.{le_says, le_yes}
use Rattle.ash_admission.proofs.PlaceLaws.{class_there, class_found}
use Rattle.ash_admission.proofs.ValueLaws.{values_say, values_yes}
use Rattle.ash_admission.proofs.ElementLaws.{has_the_name, known_is, array_says, array_yes}

module _ (kinds : List ℕ) (ps : List Program) (all : LiveObjects (List ℕ)) where
  -- script objects

  fields_from : (owner : List ℕ) (place : ℕ) (fields : List Word) (p : Program) → program_of_name owner ps ≡ Some p → (o : Option Class) → class_at p.tree place ≡ o → option_map_or (λ (c : Class). are_values p all (map type_declared c.fields) fields) o false ≡ true → IsScript (known_in ps) all owner place fields
  fields_from owner place fields p e None f h = absurd (cc)
  fields_from owner place fields p e (Some c) f h =
      let (class, at, is) = class_there p.tree place c f in
      let values = values_say p all (map type_declared c.fields) fields h in
      record {
        tree = p.tree;
        known = ap (option_map (λ (q : Program). q.tree)) e;
        class = class;
        source = c;
        at = at;
        is = is;
        values = subst (λ (n : List ℕ). AreValues (record { name = n; tree = p.tree }) all (map type_declared c.fields) fields) (has_the_name owner ps p e) values;
      }

  script_from : (owner : List ℕ) (place : ℕ) (fields : List Word) (o : Option Program) → program_of_name owner ps ≡ o → option_map_or (is_script all place fields) o false ≡ true → IsScript (known_in ps) all owner place fields
  script_from owner place fields None e h = absurd (cc)
  script_from owner place fields (Some p) e h = fields_from owner place fields p e (class_at p.tree place) refl h

  script_yes : (owner : List ℕ) (place : ℕ) (fields : List Word) → IsScript (known_in ps) all owner place fields → option_map_or (is_script all place fields) (program_of_name owner ps) false ≡ true
  script_yes owner place fields s =
      let p : Program = record { name = owner; tree = s.tree } in
      ap (λ (o : Option Program). option_map_or (is_script all place fields) o false) (known_is owner s.tree ps s.known)
      ∙ ap (λ (o : Option Class). option_map_or (λ (c : Class). are_values p all (map type_declared c.fields) fields) o false) (class_found s.tree s.class s.source place s.at s.is)
      ∙ values_yes p all s.values

  -- objects

  object_says : (o : Plain (List ℕ)) → is_object kinds ps all o ≡ true → IsObject (known_in ps) all o
  object_says (Script owner place fields) h = formed.is_script (script_from owner place fields (program_of_name owner ps) refl h)
  object_says (Array of ws) h =
      let both = and_both (nat_le (length ws) max_elements) (are_elements ps all of ws) h in
      formed.is_array (array_says ps all of ws (le_says (length ws) max_elements both.0) both.1)
  object_says (Host kind state) h = formed.is_host (le_says (length state) max_state_bytes (and_both (nat_le (length state) max_state_bytes) (is_among kinds kind) h).0)

  array_in : {of : Elements (List ℕ)} {ws : List Word} → IsObject (known_in ps) all (Array of ws) → formed.IsArray (known_in ps) all of ws
  array_in (formed.is_array a) = a

  script_in : {owner : List ℕ} {place : ℕ} {fields : List Word} → IsObject (known_in ps) all (Script owner place fields) → IsScript (known_in ps) all owner place fields
  script_in (formed.is_script s) = s

  state_in : {kind : ℕ} {state : List ℕ} → IsObject (known_in ps) all (Host kind state) → formed.IsState state
  state_in (formed.is_host s) = s

  object_yes : (o : Plain (List ℕ)) → IsObject (known_in ps) all o → ((kind : ℕ) → shape_of o ≡ OfKind kind → is_among kinds kind ≡ true) → is_object kinds ps all o ≡ true
  object_yes (Script owner place fields) h offers = script_yes owner place fields (script_in h)
  object_yes (Array of ws) h offers =
      let a = array_in h in
      both_and (nat_le (length ws) max_elements) (are_elements ps all of ws) (le_yes (length ws) max_elements a.few) (array_yes ps all of ws a)
  object_yes (Host kind state) h offers = both_and (nat_le (length state) max_state_bytes) (is_among kinds kind) (le_yes (length state) max_state_bytes (state_in h)) (offers kind refl)

-- entries by number

found_from : (P : Plain (List ℕ) → Bool) (number : ℕ) (entries : LiveObjects (List ℕ)) (o : Plain (List ℕ)) → list_all (λ (e : ℕ × Plain (List ℕ)). P e.1) entries ≡ true → object_at number entries ≡ Some o → P o ≡ true
found_from P number [] o h e = absurd (cc)
found_from P number (x ∷ entries) o h e =
    let both = and_both (P x.1) (list_all (λ (e : ℕ × Plain (List ℕ)). P e.1) entries) h in
    by (nat_eq number x.0) both.0 e (found_from P number entries o both.1)
  where
    by : (b : Bool) → P x.1 ≡ true → (if b then Some x.1 else object_at number entries) ≡ Some o → (object_at number entries ≡ Some o → P o ≡ true) → P o ≡ true
    by true first e later = subst (λ (y : Plain (List ℕ)). P y ≡ true) (same_Some x.1 o e) first
    by false first e later = later e

some_object : (o : Option (Plain (List ℕ))) (x : Plain (List ℕ)) → o ≡ Some x → IsSome o
some_object o x e = ap is_some e

each_passes : (P : Plain (List ℕ) → Bool) (entries : LiveObjects (List ℕ)) → IsInOrder entries → ((number : ℕ) (o : Plain (List ℕ)) → object_at number entries ≡ Some o → P o ≡ true) → list_all (λ (e : ℕ × Plain (List ℕ)). P e.1) entries ≡ true
each_passes P [] order h = refl
each_passes P (x ∷ entries) order h =
    both_and (P x.1) (list_all (λ (e : ℕ × Plain (List ℕ)). P e.1) entries) (h x.0 x.1 (object_here x entries))
    (each_passes P entries (in_order_after x entries order) (λ number o at.
    h number o (object_later number x entries (none_after x entries number order (some_object (object_at number entries) o at)) ∙ at)))

module _ (kinds : List ℕ) (ps : List Program) (all : LiveObjects (List ℕ)) (host : signatures.HostSignatures) (offers : Constructs host kinds) where
  host_says : (o : Plain (List ℕ)) (kind : ℕ) → shape_of o ≡ OfKind kind → is_object kinds ps all o ≡ true → is_among kinds kind ≡ true
  host_says (Script owner place fields) kind e h = absurd (cc)
  host_says (Array of ws) kind e h = absurd (cc)
  host_says (Host other state) kind e h =
      let same : other ≡ kind = cc in
      subst (λ (k : ℕ). is_among kinds k ≡ true) same (and_both (nat_le (length state) max_state_bytes) (is_among kinds other) h).1

  of_kind : (number kind : ℕ) (o : Option (Plain (List ℕ))) → object_at number all ≡ o → are_objects kinds ps all ≡ true → option_map shape_of o ≡ Some (OfKind kind) → is_among kinds kind ≡ true
  of_kind number kind None e h is = absurd (cc)
  of_kind number kind (Some x) e h is = host_says x kind (same_Some (shape_of x) (OfKind kind) is) (found_from (is_object kinds ps all) number all x h e)

  pub objects_say : are_objects kinds ps all ≡ true → AreObjects (known_in ps) all × AreOffered host all
  objects_say h = (
    record { each = λ number o at. object_says kinds ps all o (found_from (is_object kinds ps all) number all o h at) },
    record { each = λ number kind at. (offers kind).0 (of_kind number kind (object_at number all) refl h at) },
  )

  pub objects_yes : IsInOrder all → AreObjects (known_in ps) all → AreOffered host all → are_objects kinds ps all ≡ true
  objects_yes order living offered =
      each_passes (is_object kinds ps all) all order (λ number o at.
      object_yes kinds ps all o (living.each number o at) (λ kind is. (offers kind).1 (offered.each number kind (ap (option_map shape_of) at ∙ ap (λ (s : Shape). Some s) is))))
