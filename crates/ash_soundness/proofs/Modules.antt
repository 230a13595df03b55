-- Objects where modules come and go.
use Rattle.std.proofs.Common.{◌≡◌, ℕ, List, [], refl, sym, ap, ◌∙◌, subst, inl, inr}
use Rattle.std.specs.Prelude.{Option, Some, None, IsSome, Contains, option_map}
use Rattle.std.specs.Option.{option_map_or}
use Rattle.std.proofs.lemmas.Option.{same_Some}
use Rattle.ash_host.specs.declared.word.Word.{Word}
use Rattle.ash_host.specs.Objects.{Elements, Plain, Array, Host, LiveObjects, object_at, handle, handles, fields_of}
use Rattle.ash_host.specs.Reach.{Root, Field, ReachableIn}
use Rattle.ash_integers.specs.declared.int_type.IntType.TheVariants as ints
use Rattle.ash_typed.specs.declared.types.Element as typed_element
use Rattle.ash_typed.specs.declared.types.Element.TheVariants as elements
use Rattle.ash_typed.specs.declared.types.ObjectType.{ObjectType}
use Rattle.ash_typed.specs.declared.types.ObjectType.TheVariants as objects
use Rattle.ash_typed.specs.declared.types.VarType.{VarType}
use Rattle.ash_typed.specs.TypeOf.{type_of_element}
use Rattle.ash_typed.specs.Modules.{Module}
use Rattle.ash_meaning.specs.Classes.{Program, element_of}
use Rattle.ash_soundness.specs.WellFormed.{Known, Shape, OfElements, shape_of, shape_at, IsOf, IsKnownFor, IsReference, to_nothing, to_object, IsValue, is_truth, is_integer, is_object, is_handle, AreValues, no_values, and_value, AllAre, none_are, and_is, IsObject, is_script, is_array, is_host, AreObjects}
use Rattle.ash_soundness.specs.WellFormedLaws.{KnowsAll, IsKnownShape, MoreModulesKeep, FewerModulesKeep, ValuesAreOfTheirModule, ValuesKeepTheirTypes}
use Rattle.ash_soundness.proofs.Values.{integer_is_none, handle_cases, none_in, shape_lives, values_stay}
use Rattle.ash_soundness.proofs.Triples.{numbered_stays}

-- more modules

more_for : (modules others : Known) (p : Program) (e : typed_element.Element) → KnowsAll modules others → IsKnownFor modules p e → IsKnownFor others p e
more_for modules others p (elements.Class class) all k = all p.name p.tree k
more_for modules others p (elements.Interface interface) all k = all p.name p.tree k
more_for modules others p elements.Bool all k = tt
more_for modules others p (elements.Integer int_type) all k = tt
more_for modules others p (elements.Host kind) all k = tt

more_object : (modules others : Known) {all : LiveObjects (List ℕ)} {o : Plain (List ℕ)} → KnowsAll modules others → IsObject modules all o → IsObject others all o
more_object modules others knows (is_script {owner} s) = is_script (record { tree = s.tree; known = knows owner s.tree s.known; class = s.class; source = s.source; at = s.at; is = s.is; values = s.values })
more_object modules others knows (is_array a) = is_array (record { few = a.few; program = a.program; element = a.element; known = more_for modules others a.program a.element knows a.known; named = a.named; is = a.is; values = a.values })
more_object modules others knows (is_host h) = is_host h

pub more_modules_keep : MoreModulesKeep
more_modules_keep modules others all knows h = record { each = λ n o at. more_object modules others knows (h.each n o at) }

-- what values refer to is of their module

module _ (modules : Known) where
  elements_known : (q : Program) (of : typed_element.Element) → IsSome (modules q.name) → IsKnownShape modules (OfElements (element_of q of))
  elements_known q elements.Bool some = tt
  elements_known q (elements.Integer ints.Int) some = tt
  elements_known q (elements.Integer ints.Uint) some = tt
  elements_known q (elements.Integer ints.Int64) some = tt
  elements_known q (elements.Integer ints.Uint64) some = tt
  elements_known q (elements.Class class) some = some
  elements_known q (elements.Interface interface) some = some
  elements_known q (elements.Host kind) some = tt

  of_known : (q : Program) (o : ObjectType) (s : Shape) → IsSome (modules q.name) → IsOf q o s → IsKnownShape modules s
  of_known q (objects.Class class) s some i = subst (IsKnownShape modules) (sym i.is) some
  of_known q (objects.Interface interface) s some i = subst (IsKnownShape modules) (sym (i.of).is) some
  of_known q (objects.Host kind) s some e = subst (IsKnownShape modules) (sym e) tt
  of_known q (objects.Array of) s some i = subst (IsKnownShape modules) (sym i.is) (elements_known q of some)

  -- what a reference leads to is of shapes that hold
  reference_known : {all : LiveObjects (List ℕ)} {Fits : Shape → Type 0} {w : Word} (n : ℕ) (shape : Shape) → ((s : Shape) → Fits s → IsKnownShape modules s) → IsReference all Fits w → handle w ≡ Some n → shape_at n all ≡ Some shape → IsKnownShape modules shape
  reference_known n shape known to_nothing e at = absurd (cc)
  reference_known {all} n shape known (to_object {number} {shape = s} there fits) e at =
      let same : number ≡ n = same_Some number n e in
      let level : s ≡ shape = same_Some s shape (sym there ∙ ap (λ (k : ℕ). shape_at k all) same ∙ at) in
      subst (IsKnownShape modules) level (known s fits)

  value_known : {p : Program} {all : LiveObjects (List ℕ)} {of : VarType} {w : Word} (n : ℕ) (shape : Shape) → IsSome (modules p.name) → IsValue p all of w → handle w ≡ Some n → shape_at n all ≡ Some shape → IsKnownShape modules shape
  value_known n shape some is_truth e at = absurd (cc)
  value_known n shape some (is_integer i) e at = absurd (integer_is_none n i e)
  value_known {p} n shape some (is_object {of} r) e at = reference_known n shape (λ s i. of_known p of s some i) r e at
  value_known {p} n shape some (is_handle {of} r) e at = reference_known n shape (λ s i. of_known p of s some i) r e at

  values_known : {p : Program} {all : LiveObjects (List ℕ)} {types : List VarType} {ws : List Word} (n : ℕ) (shape : Shape) → IsSome (modules p.name) → AreValues p all types ws → Contains (handles ws) n → shape_at n all ≡ Some shape → IsKnownShape modules shape
  values_known n shape some no_values i at = absurd (none_in n i)
  values_known n shape some (and_value {word = w} {ws = ws} v vs) i at =
      elim (handle_cases w ws n i) [
        | inl here ↦ value_known n shape some v here at
        | inr later ↦ values_known n shape some vs later at
      ]

  element_known : {p : Program} {all : LiveObjects (List ℕ)} (e : typed_element.Element) {w : Word} (n : ℕ) (shape : Shape) → IsKnownShape modules (OfElements (element_of p e)) → IsValue p all (type_of_element e) w → handle w ≡ Some n → shape_at n all ≡ Some shape → IsKnownShape modules shape
  element_known elements.Bool n shape k is_truth e at = absurd (cc)
  element_known (elements.Integer int_type) n shape k (is_integer i) e at = absurd (integer_is_none n i e)
  element_known (elements.Class class) n shape k v e at = value_known n shape k v e at
  element_known (elements.Interface interface) n shape k v e at = value_known n shape k v e at
  element_known (elements.Host kind) n shape k (is_handle r) e at = reference_known n shape (λ s i. subst (IsKnownShape modules) (sym i) tt) r e at

  all_known : {p : Program} {all : LiveObjects (List ℕ)} (e : typed_element.Element) {ws : List Word} (n : ℕ) (shape : Shape) → IsKnownShape modules (OfElements (element_of p e)) → AllAre p all (type_of_element e) ws → Contains (handles ws) n → shape_at n all ≡ Some shape → IsKnownShape modules shape
  all_known e n shape k none_are i at = absurd (none_in n i)
  all_known e n shape k (and_is {word = w} {ws = ws} v vs) i at =
      elim (handle_cases w ws n i) [
        | inl here ↦ element_known e n shape k v here at
        | inr later ↦ all_known e n shape k vs later at
      ]

  parts_known : {known : Known} {all : LiveObjects (List ℕ)} {o : Plain (List ℕ)} (n : ℕ) (shape : Shape) → IsKnownShape modules (shape_of o) → IsObject known all o → Contains (handles (fields_of o)) n → shape_at n all ≡ Some shape → IsKnownShape modules shape
  parts_known n shape k (is_script s) i at = values_known n shape k s.values i at
  parts_known n shape k (is_array a) i at = all_known a.element n shape (subst (λ (x : Elements (List ℕ)). IsKnownShape modules (OfElements x)) a.is k) a.values i at
  parts_known n shape k (is_host h) i at = absurd (none_in n i)

  module _ {known : Known} (held : List ℕ) {all : LiveObjects (List ℕ)} (h : AreObjects known all) (roots : (n : ℕ) (shape : Shape) → Contains held n → shape_at n all ≡ Some shape → IsKnownShape modules shape) where
    from_object : (one n : ℕ) (shape : Shape) (o : Option (Plain (List ℕ))) → object_at one all ≡ o → ((s : Shape) → shape_at one all ≡ Some s → IsKnownShape modules s) → Contains (option_map_or (λ object. handles (fields_of object)) o []) n → shape_at n all ≡ Some shape → IsKnownShape modules shape
    from_object one n shape None e known i at = absurd (none_in n i)
    from_object one n shape (Some x) e known i at = parts_known n shape (known (shape_of x) (ap (option_map shape_of) e)) (h.each one x e) i at

    reached_known : (n : ℕ) (shape : Shape) → ReachableIn (Contains held) all n → shape_at n all ≡ Some shape → IsKnownShape modules shape
    reached_known n shape (Root i) at = roots n shape i at
    reached_known n shape (Field {one} r f) at = from_object one n shape (object_at one all) refl (λ s there. reached_known one s r there) f at

-- fewer modules

known_tree : (modules others : Known) (owner : List ℕ) (tree : Module) → KnowsAll others modules → IsSome (others owner) → modules owner ≡ Some tree → others owner ≡ Some tree
known_tree modules others owner tree knows some at = from (others owner) refl some
  where
    from : (o : Option Module) → others owner ≡ o → IsSome o → others owner ≡ Some tree
    from None e h = absurd (cc)
    from (Some t) e h = e ∙ sym (knows owner t e) ∙ at

fewer_for : (modules others : Known) (p : Program) (e : typed_element.Element) → KnowsAll others modules → IsKnownShape others (OfElements (element_of p e)) → IsKnownFor modules p e → IsKnownFor others p e
fewer_for modules others p (elements.Class class) knows shape k = known_tree modules others p.name p.tree knows shape k
fewer_for modules others p (elements.Interface interface) knows shape k = known_tree modules others p.name p.tree knows shape k
fewer_for modules others p elements.Bool knows shape k = tt
fewer_for modules others p (elements.Integer int_type) knows shape k = tt
fewer_for modules others p (elements.Host kind) knows shape k = tt

fewer_object : (modules others : Known) {all : LiveObjects (List ℕ)} {o : Plain (List ℕ)} → KnowsAll others modules → IsKnownShape others (shape_of o) → IsObject modules all o → IsObject others all o
fewer_object modules others knows shape (is_script {owner} s) = is_script (record { tree = s.tree; known = known_tree modules others owner s.tree knows shape s.known; class = s.class; source = s.source; at = s.at; is = s.is; values = s.values })
fewer_object modules others knows shape (is_array a) = is_array (record { few = a.few; program = a.program; element = a.element; known = fewer_for modules others a.program a.element knows (subst (λ (x : Elements (List ℕ)). IsKnownShape others (OfElements x)) a.is shape) a.known; named = a.named; is = a.is; values = a.values })
fewer_object modules others knows shape (is_host h) = is_host h

pub fewer_modules_keep : FewerModulesKeep
fewer_modules_keep modules others held all knows roots reached h = record {
  each = λ n o at.
      let there = ap (option_map shape_of) at in
      fewer_object modules others knows (reached_known others held h roots n (shape_of o) (reached n (shape_lives n all (shape_of o) there)) there) (h.each n o at);
}

pub values_are_of_their_module : ValuesAreOfTheirModule
values_are_of_their_module p modules all types ws n shape some values i at = values_known modules n shape some values i at

pub values_keep_their_types : ValuesKeepTheirTypes
values_keep_their_types p old new types ws numbered follows live values = values_stay (λ n i. numbered_stays numbered follows n (live.each n i)) values
