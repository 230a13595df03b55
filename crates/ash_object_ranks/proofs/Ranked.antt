-- Objects of modules whose classes have ranks have ranks that fall along every reference.
use Rattle.std.proofs.Common.{◌≡◌, ◌<◌, ◌≤◌, ◌+◌, ◌*◌, ℕ, List, [], ◌⊎◌, length, map, refl, sym, ap, ◌∙◌, subst, inl, inr, slice_get, arith}
use Rattle.std.specs.Prelude.{Option, Some, None, Result, Ok, Err, Contains, option_map, find, slice_index}
use Rattle.std.specs.Option.{option_map_or}
use Rattle.std.proofs.lemmas.List.{length-map}
use Rattle.std.proofs.lemmas.Option.{same_Some, slice_get-map}
use Rattle.ash_host.specs.declared.word.Word.{Word}
use Rattle.ash_host.specs.Objects.{Elements, Handles, Plain, LiveObjects, object_at, handle, handles, fields_of}
use Rattle.ash_integers.specs.declared.int_type.IntType.{IntType}
use Rattle.ash_integers.specs.declared.int_type.IntType.TheVariants as ints
use Rattle.ash_typed.specs.declared.types.Element as typed_element
use Rattle.ash_typed.specs.declared.types.Element.TheVariants as elements
use Rattle.ash_typed.specs.declared.types.ObjectType.{ObjectType}
use Rattle.ash_typed.specs.declared.types.ObjectType.TheVariants as objects
use Rattle.ash_typed.specs.declared.types.VarType.{VarType}
use Rattle.ash_typed.specs.declared.types.VarType.TheVariants as vars
use Rattle.ash_typed.specs.ModuleLimits.{max_module_types}
use Rattle.ash_typed.specs.TypeOf.{type_of_element}
use Rattle.ash_typed.specs.Modules.{Class, Module}
use Rattle.ash_typed.specs.References as references
use Rattle.ash_typed.specs.References.{ElementHolds, ObjectHolds, VariableHolds, ClassRefers, AreRanks}
use Rattle.ash_typed.specs.Signatures.{HostSignatures, ModuleSignatures, signatures_of, signature_of_class, type_declared}
use Rattle.ash_meaning.specs.Classes.{Program, place_of_class, place_of_interface, element_of}
use Rattle.ash_requests.specs.States.{State, Embedding, LoadedModule, has_name}
use Rattle.ash_requests.specs.Premises.{ReadsSound}
use Rattle.ash_requests.specs.Tasks.{tree_in, tree_of}
use Rattle.ash_soundness.specs.WellFormed.{Known, Shape, OfClass, OfElements, OfKind, shape_of, shape_at, IsOfClass, ListsInterface, IsNamed, IsOf, IsReference, to_nothing, to_object, IsValue, is_truth, is_integer, is_object, is_handle, AreValues, no_values, and_value, AllAre, none_are, and_is, IsScript, IsKnownFor, IsArray, IsObject, is_script, is_array, is_host, AreObjects}
use Rattle.ash_soundness.specs.WellFormedStates.{known_of, IsWellFormedState}
use Rattle.ash_soundness.proofs.Values.{none_in, handle_cases, integer_is_none, later_in, first_in}
use Rattle.ash_soundness.proofs.Entries.{chained}
use Rattle.ash_object_ranks.specs.ObjectRanks.{ClassRanks, AreSound, HaveRanks, greatest, classes_at, rank_in, rank_of, rank_of_handles, rank_of_elements, rank_at, rank_limit}
use Rattle.ash_object_ranks.specs.RankLaws.{FallAmong}
use Rattle.ash_object_ranks.proofs.Greatest.{no_less, no_more, ranks_within}
use Rattle.ash_object_ranks.proofs.ClassesAt.{lists_by, own_class, own_interface, in_classes, from_classes, class_only, interface_only}

-- what a value is a handle to

-- A value of the type is a handle to the object of this number.
record LeadsTo (p : Program) (all : LiveObjects (List ℕ)) (of : VarType) (number : ℕ) : Type 0 where
  object : ObjectType
  is : (of ≡ vars.Object object) ⊎ (of ≡ vars.Handle object)
  shape : Shape
  at : shape_at number all ≡ Some shape
  fits : IsOf p object shape

module _ {p : Program} {all : LiveObjects (List ℕ)} where
  reference_leads : {of : VarType} {w : Word} (o : ObjectType) (number : ℕ) → (of ≡ vars.Object o) ⊎ (of ≡ vars.Handle o) → IsReference all (IsOf p o) w → handle w ≡ Some number → LeadsTo p all of number
  reference_leads o number is to_nothing e = absurd (cc)
  reference_leads o number is (to_object {number = other} {shape} at fits) e =
      record { object = o; is = is; shape = shape; at = subst (λ (n : ℕ). shape_at n all ≡ Some shape) (same_Some other number e) at; fits = fits }

  value_leads : {of : VarType} {w : Word} (number : ℕ) → IsValue p all of w → handle w ≡ Some number → LeadsTo p all of number
  value_leads number is_truth e = absurd (cc)
  value_leads number (is_integer i) e = absurd (integer_is_none number i e)
  value_leads number (is_object {of = o} r) e = reference_leads o number (inl refl) r e
  value_leads number (is_handle {of = o} r) e = reference_leads o number (inr refl) r e

  values_lead : {types : List VarType} {ws : List Word} (number : ℕ) → AreValues p all types ws → Contains (handles ws) number → (of : VarType) × Contains types of × LeadsTo p all of number
  values_lead number no_values within = absurd (none_in number within)
  values_lead number (and_value {of = of} {types = types} {word = w} {ws = ws} v vs) within =
      elim (handle_cases w ws number within) [
        | inl here ↦ (of, first_in of types, value_leads number v here)
        | inr later ↦ let (other, there, leads) = values_lead number vs later in (other, later_in of other types there, leads)
      ]

  all_lead : {of : VarType} {ws : List Word} (number : ℕ) → AllAre p all of ws → Contains (handles ws) number → LeadsTo p all of number
  all_lead number none_are within = absurd (none_in number within)
  all_lead number (and_is {word = w} {ws = ws} v vs) within =
      elim (handle_cases w ws number within) [
        | inl here ↦ value_leads number v here
        | inr later ↦ all_lead number vs later
      ]

holds_by : (s : ModuleSignatures) (class : ℕ) (of : VarType) (o : ObjectType) → (of ≡ vars.Object o) ⊎ (of ≡ vars.Handle o) → ObjectHolds s class o → VariableHolds s class of
holds_by s class of o (inl e) h = subst (VariableHolds s class) (sym e) (references.object h)
holds_by s class of o (inr e) h = subst (VariableHolds s class) (sym e) (references.handle h)

no_truth : (o : ObjectType) → (vars.Bool ≡ vars.Object o) ⊎ (vars.Bool ≡ vars.Handle o) → ⊥
no_truth o (inl e) = cc
no_truth o (inr e) = cc

no_integer : (int_type : IntType) (o : ObjectType) → (vars.Integer int_type ≡ vars.Object o) ⊎ (vars.Integer int_type ≡ vars.Handle o) → ⊥
no_integer int_type o (inl e) = cc
no_integer int_type o (inr e) = cc

same_object : (o other : ObjectType) → (vars.Handle o ≡ vars.Object other) ⊎ (vars.Handle o ≡ vars.Handle other) → other ≡ o
same_object o other (inl e) = absurd (cc)
same_object o other (inr e) = cc

module _ {host : HostSignatures} {modules : Known} {ranks : ClassRanks} (sound : AreSound host modules) (ranked : HaveRanks host modules ranks) where
  -- the ranks of a module's objects

  module _ (name : List ℕ) (tree : Module) (known : modules name ≡ Some tree) where
    abbrev p : Program
    p = record { name = name; tree = tree }

    abbrev s : ModuleSignatures
    s = signatures_of host tree

    is_greatest : (index : ℕ) → rank_of_handles modules ranks name index ≡ greatest (rank_in (ranks name)) (classes_at tree index)
    is_greatest index = ap (λ (o : Option Module). option_map_or (λ (m : Module). greatest (rank_in (ranks name)) (classes_at m index)) o 0) known

    -- an object of a class has the rank of the class
    rank_of_class : (class : ℕ) (source : Class) → slice_get tree.classes class ≡ Some source → rank_of_handles modules ranks name (place_of_class tree class) ≡ rank_in (ranks name) class
    rank_of_class class source at =
        let index = place_of_class tree class in
        let low = no_less (rank_in (ranks name)) (classes_at tree index) class (in_classes tree index class source at (own_class tree class)) in
        let high = no_more (rank_in (ranks name)) (classes_at tree index) (rank_in (ranks name) class) (λ other within. let one = class_only (sound name tree known) class other (from_classes tree index other within) in omega (arith, ap (rank_in (ranks name)) one)) in
        omega (arith, is_greatest index, low, high)

    rank_of_shape : (class : ℕ) (shape : Shape) → IsOfClass p class shape → rank_of modules ranks shape ≡ rank_in (ranks name) class
    rank_of_shape class shape i = ap (rank_of modules ranks) i.is ∙ rank_of_class class i.source i.at

    -- an array comes at most one above what its elements may be handles to
    array_within : (element : typed_element.Element) (most : ℕ) → IsNamed tree element → ((class : ℕ) → ElementHolds s class element → rank_in (ranks name) class ≤ most) → rank_of modules ranks (OfElements (element_of p element)) ≤ most + 1
    array_within elements.Bool most named each = omega arith
    array_within (elements.Integer ints.Int) most named each = omega arith
    array_within (elements.Integer ints.Uint) most named each = omega arith
    array_within (elements.Integer ints.Int64) most named each = omega arith
    array_within (elements.Integer ints.Uint64) most named each = omega arith
    array_within (elements.Class class) most named each =
        let index = place_of_class tree class in
        let high = no_more (rank_in (ranks name)) (classes_at tree index) most (λ other within. let one = class_only (sound name tree known) class other (from_classes tree index other within) in each other (subst (λ (n : ℕ). ElementHolds s other (elements.Class n)) one references.of_class)) in
        omega (arith, is_greatest index, high)
    array_within (elements.Interface interface) most named each =
        let index = place_of_interface tree interface in
        let high = no_more (rank_in (ranks name)) (classes_at tree index) most (λ other within. each other (references.of_interface (interface_only (sound name tree known) interface other named (from_classes tree index other within)))) in
        omega (arith, is_greatest index, high)
    array_within (elements.Host kind) most named each = omega arith

    -- a field leads to what has a lower rank
    field_falls : (from : ℕ) (o : ObjectType) (shape : Shape) → IsOf p o shape → ((to : ℕ) → ObjectHolds s to o → ClassRefers s from to) → rank_of modules ranks shape < rank_in (ranks name) from
    field_falls from (objects.Class to) shape i refers =
        omega (arith, rank_of_shape to shape i, (ranked name tree known).fall from to (refers to references.is_class))
    field_falls from (objects.Interface interface) shape i refers =
        let lists = lists_by host tree i.class interface (i.of).source (i.of).at i.lists in
        omega (arith, rank_of_shape i.class shape i.of, (ranked name tree known).fall from i.class (refers i.class (references.is_interface lists)))
    field_falls from (objects.Host kind) shape i refers = let none = ap (rank_of modules ranks) i in omega (arith, none)
    field_falls from (objects.Array element) shape i refers =
        let most = array_within element (2 * slice_index (ranks name) from) i.named (λ to holds. let falls = (ranked name tree known).fall from to (refers to (references.in_array holds)) in omega (arith, falls)) in
        omega (arith, ap (rank_of modules ranks) i.is, most)

    refers_by : (from to : ℕ) (source : Class) (of : VarType) (o : ObjectType) → slice_get tree.classes from ≡ Some source → Contains (map type_declared source.fields) of → (of ≡ vars.Object o) ⊎ (of ≡ vars.Handle o) → ObjectHolds s to o → ClassRefers s from to
    refers_by from to source of o at within is holds =
        (signature_of_class source, of, slice_get-map signature_of_class tree.classes from ∙ ap (option_map signature_of_class) at, within, holds_by s to of o is holds)

  -- an element leads to what has a lower rank than the array
  element_falls : (q : Program) (element : typed_element.Element) (o : ObjectType) (shape : Shape) → IsKnownFor modules q element → IsNamed q.tree element → (type_of_element element ≡ vars.Object o) ⊎ (type_of_element element ≡ vars.Handle o) → IsOf q o shape → rank_of modules ranks shape ≤ rank_of_elements modules ranks (element_of q element)
  element_falls q elements.Bool o shape known named is fits = absurd (no_truth o is)
  element_falls q (elements.Integer int_type) o shape known named is fits = absurd (no_integer int_type o is)
  element_falls q (elements.Class class) o shape known named is fits =
      let i : IsOfClass q class shape = subst (λ (x : ObjectType). IsOf q x shape) (same_object (objects.Class class) o is) fits in
      let mine = ap (rank_of modules ranks) i.is in
      omega (arith, mine)
  element_falls q (elements.Interface interface) o shape known named is fits =
      let i : ListsInterface q interface shape = subst (λ (x : ObjectType). IsOf q x shape) (same_object (objects.Interface interface) o is) fits in
      let index = place_of_interface q.tree interface in
      let low = no_less (rank_in (ranks q.name)) (classes_at q.tree index) i.class (in_classes q.tree index i.class (i.of).source (i.of).at (own_interface q.tree i.class interface (i.of).source (i.of).at i.lists)) in
      omega (arith, rank_of_shape q.name q.tree known i.class shape i.of, is_greatest q.name q.tree known index, low)
  element_falls q (elements.Host kind) o shape known named is fits =
      let i : shape ≡ OfKind kind = subst (λ (x : ObjectType). IsOf q x shape) (same_object (objects.Host kind) o is) fits in
      omega (arith, ap (rank_of modules ranks) i)

  -- no rank is as great as the limit

  class_below : (name : List ℕ) (tree : Module) → modules name ≡ Some tree → (class : ℕ) → rank_in (ranks name) class ≤ 2 * max_module_types + 2
  class_below name tree known class =
      let r : AreRanks (signatures_of host tree) (ranks name) = ranked name tree known in
      let small = ranks_within (length (signatures_of host tree).classes) (ranks name) r.within class in
      let many = length-map tree.classes signature_of_class in
      omega (arith, small, many, (sound name tree known).few_types)

  handles_below : (name : List ℕ) (index : ℕ) (o : Option Module) → modules name ≡ o → option_map_or (λ (m : Module). greatest (rank_in (ranks name)) (classes_at m index)) o 0 ≤ 2 * max_module_types + 2
  handles_below name index None e = omega arith
  handles_below name index (Some tree) e = no_more (rank_in (ranks name)) (classes_at tree index) (2 * max_module_types + 2) (λ class within. class_below name tree e class)

  rank_below : (shape : Shape) → rank_of modules ranks shape < rank_limit
  rank_below (OfClass owner index) = omega (arith, handles_below owner index (modules owner) refl)
  rank_below (OfElements of) = array_below of
    where
      array_below : (of : Elements (List ℕ)) → rank_of modules ranks (OfElements of) < rank_limit
      array_below (Handles owner index) = omega (arith, handles_below owner index (modules owner) refl)
      array_below _ = omega arith
  rank_below (OfKind kind) = omega arith

  rank_at_below : (o : Option Shape) → option_map_or (rank_of modules ranks) o 0 < rank_limit
  rank_at_below None = omega arith
  rank_at_below (Some shape) = rank_below shape

  module _ {all : LiveObjects (List ℕ)} where
    script_falls : {owner : List ℕ} {index : ℕ} {fields : List Word} (number : ℕ) → IsScript modules all owner index fields → Contains (handles fields) number → rank_at modules ranks all number < rank_of modules ranks (OfClass owner index)
    script_falls {owner} {index} number i within =
        let (of, at, leads) = values_lead number i.values within in
        let low = field_falls owner i.tree i.known i.class leads.object leads.shape leads.fits (λ to holds. refers_by owner i.tree i.known i.class to i.source of leads.object i.at at leads.is holds) in
        let mine = rank_of_class owner i.tree i.known i.class i.source i.at in
        let here : rank_of modules ranks (OfClass owner index) ≡ rank_of_handles modules ranks owner (place_of_class i.tree i.class) = ap (rank_of_handles modules ranks owner) i.is in
        omega (arith, ap (λ (o : Option Shape). option_map_or (rank_of modules ranks) o 0) leads.at, low, mine, here)

    array_falls : {of : Elements (List ℕ)} {ws : List Word} (number : ℕ) → IsArray modules all of ws → Contains (handles ws) number → rank_at modules ranks all number < rank_of modules ranks (OfElements of)
    array_falls {of} number i within =
        let leads = all_lead number i.values within in
        let low = element_falls i.program i.element leads.object leads.shape i.known i.named leads.is leads.fits in
        omega (arith, ap (λ (o : Option Shape). option_map_or (rank_of modules ranks) o 0) leads.at, low, ap (rank_of_elements modules ranks) i.is)

    object_falls : (number : ℕ) (o : Plain (List ℕ)) → IsObject modules all o → Contains (handles (fields_of o)) number → rank_at modules ranks all number < rank_of modules ranks (shape_of o)
    object_falls number o (is_script i) within = script_falls number i within
    object_falls number o (is_array i) within = array_falls number i within
    object_falls number o (is_host i) within = absurd (none_in number within)

    falls_at : (one other : ℕ) (o : Option (Plain (List ℕ))) → ((object : Plain (List ℕ)) → o ≡ Some object → IsObject modules all object) → Contains (option_map_or (λ (object : Plain (List ℕ)). handles (fields_of object)) o []) other → rank_at modules ranks all other < option_map_or (rank_of modules ranks) (option_map shape_of o) 0
    falls_at one other None each refers = absurd (none_in other refers)
    falls_at one other (Some o) each refers = object_falls other o (each o refl) refers

    pub objects_have_ranks : AreObjects modules all → FallAmong modules ranks all
    objects_have_ranks living = record {
      below = λ number lives. rank_at_below (shape_at number all);
      falls = λ one other refers. falls_at one other (object_at one all) (λ object at. living.each one object at) refers;
    }

-- where what is known is read from sources

read_from : {Fault : Type 0} (embedding : Embedding Fault) (host : HostSignatures) (ms : List LoadedModule) → ReadsSound host embedding → AreSound host (known_of embedding ms)
read_from {Fault} embedding host ms reads name tree e =
    let (m, found, typed) = chained (tree_of embedding) (find (has_name name) ms) tree e in
    reads m.source tree (tree_is (embedding.read m.source) typed)
  where
    tree_is : (r : Result Module Fault) → tree_in r ≡ Some tree → r ≡ Ok tree
    tree_is (Ok t) is = ap (λ (x : Module). Ok x) (same_Some t tree is)
    tree_is (Err fault) is = absurd (cc)

pub states_have_ranks : {Fault : Type 0} (embedding : Embedding Fault) (host : HostSignatures) (ranks : ClassRanks) (s : State) → ReadsSound host embedding → HaveRanks host (known_of embedding s.modules) ranks → IsWellFormedState embedding host s → FallAmong (known_of embedding s.modules) ranks s.objects
states_have_ranks embedding host ranks s reads ranked h = objects_have_ranks (read_from embedding host s.modules reads) ranked h.living
