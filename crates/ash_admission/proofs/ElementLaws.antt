-- The tests of arrays decide what arrays are.
use Rattle.std.proofs.Common.{◌≡◌, ◌≤◌, ◌+◌, inl, inr, ℕ, zero, suc, Bool, true, false, List, [], ◌∷◌, length, refl, sym, ap, subst, ◌∙◌, nat_eq, if◌then◌else◌, arith}
use Rattle.std.specs.Prelude.{Option, Some, None, slice_get, is_some, option_map, ◌&&◌}
use Rattle.std.specs.List.{list_all}
use Rattle.std.specs.Option.{option_map_or}
use Rattle.std.specs.Str.{bytes_eq}
use Rattle.std.proofs.lemmas.Bool.{eqb-true, eq-eqb}
use Rattle.std.proofs.lemmas.Option.{same_Some}
use Rattle.ash_host.specs.declared.word.Word.{Word}
use Rattle.ash_host.specs.Objects.{Elements, Bools, Ints, Uints, Int64s, Uint64s, Handles, Hosts, LiveObjects}
use Rattle.ash_host.specs.Limits.{max_elements}
use Rattle.ash_host.proofs.Membership.{or_cases, or_first, or_second, and_both, both_and}
use Rattle.ash_integers.specs.declared.int_type.IntType.{IntType}
use Rattle.ash_integers.specs.declared.int_type.IntType.TheVariants as ints
use Rattle.ash_typed.specs.declared.types.Element as typed_element
use Rattle.ash_typed.specs.declared.types.Element.TheVariants as elements
use Rattle.ash_typed.specs.declared.types.ObjectType.{ObjectType}
use Rattle.ash_typed.specs.declared.types.ObjectType.TheVariants as objects
use Rattle.ash_typed.specs.declared.types.VarType.TheVariants as vars
use Rattle.ash_typed.specs.TypeOf.{type_of_element}
use Rattle.ash_typed.specs.Modules.{Interface, Class, Module}
use Rattle.ash_meaning.specs.Classes.{Program, place_of_class, place_of_interface, element_of}
use Rattle.ash_soundness.specs.WellFormed as formed
use Rattle.ash_soundness.specs.WellFormed.{Shape, OfKind, IsOfClass, IsOf, IsNamed, IsKnownFor, IsReference, IsValue, AllAre, IsArray}
use Rattle.ash_admission.specs.Places.{class_at, is_of_place, is_of_kind, is_of}
use Rattle.ash_admission.specs.Values.{is_truth, is_integer, is_reference}
use Rattle.ash_admission.specs.Contents.{program_of_name, known_in, are_of_class, any_interface, are_handles, are_elements}
use Rattle.ash_admission.proofs.Tests.{same_text, within_some, got_within}
use Rattle.ash_admission.proofs.PlaceLaws.{class_there, class_found}
use Rattle.ash_admission.proofs.ShapeLaws.{place_says, place_yes, kind_says, kind_yes, of_says, of_yes}
use Rattle.ash_admission.proofs.ValueLaws.{integer_says, reference_says, reference_yes, truth_says, value_yes, all_say, all_yes}

-- the module of a name

named_from : (name : List ℕ) (b : Bool) (x : Program) (rest : Option Program) (p : Program) → bytes_eq x.name name ≡ b → (rest ≡ Some p → p.name ≡ name) → (if b then Some x else rest) ≡ Some p → p.name ≡ name
named_from name true x rest p t later e = ap (λ (q : Program). q.name) (sym (same_Some x p e)) ∙ same_text x.name name t
named_from name false x rest p t later e = later e

pub has_the_name : (name : List ℕ) (ps : List Program) (p : Program) → program_of_name name ps ≡ Some p → p.name ≡ name
has_the_name name [] p e = absurd (cc)
has_the_name name (x ∷ ps) p e = named_from name (bytes_eq x.name name) x (program_of_name name ps) p refl (has_the_name name ps p) e

-- a module that is known is the one of its name
known_from : (owner : List ℕ) (tree : Module) (ps : List Program) (o : Option Program) → program_of_name owner ps ≡ o → option_map (λ (p : Program). p.tree) o ≡ Some tree → program_of_name owner ps ≡ Some (record { name = owner; tree = tree })
known_from owner tree ps None e h = absurd (cc)
known_from owner tree ps (Some p) e h =
    let name : p.name ≡ owner = has_the_name owner ps p e in
    let same : p.tree ≡ tree = same_Some p.tree tree h in
    let whole : p ≡ record { name = owner; tree = tree } = ap (λ (n : List ℕ). let q : Program = record { name = n; tree = p.tree } in q) name ∙ ap (λ (t : Module). let q : Program = record { name = owner; tree = t } in q) same in
    e ∙ ap (λ (q : Program). Some q) whole

pub known_is : (owner : List ℕ) (tree : Module) (ps : List Program) → known_in ps owner ≡ Some tree → program_of_name owner ps ≡ Some (record { name = owner; tree = tree })
known_is owner tree ps h = known_from owner tree ps (program_of_name owner ps) refl h

pub is_known : (owner : List ℕ) (ps : List Program) (p : Program) → program_of_name owner ps ≡ Some p → known_in ps p.name ≡ Some p.tree
is_known owner ps p e =
    subst (λ (n : List ℕ). known_in ps n ≡ Some p.tree) (sym (has_the_name owner ps p e)) (ap (option_map (λ (q : Program). q.tree)) e)

-- handles of a class or an interface

module _ (all : LiveObjects (List ℕ)) (place : ℕ) (ws : List Word) where
  -- what is found of an interface at the place
  record AtInterface (p : Program) : Type 0 where
    pub interface : ℕ
    pub source : Interface
    pub at : slice_get (p.tree).interfaces interface ≡ Some source
    pub is : place ≡ place_of_interface p.tree interface
    pub each : list_all (is_reference all (is_of p (objects.Interface interface))) ws ≡ true

  interface_place : (m : Module) (interface : ℕ) (i : Interface) → slice_get m.interfaces interface ≡ Some i → interface + i.classes_before ≡ place_of_interface m interface
  interface_place m interface i e = sym (ap (λ (o : Option Interface). interface + option_map_or (λ (x : Interface). x.classes_before) o 0) e)

  interface_from : (p : Program) (from : ℕ) (is : List Interface) → ((k : ℕ) (i : Interface) → slice_get is k ≡ Some i → slice_get (p.tree).interfaces (from + k) ≡ Some i) → any_interface all place ws p from is ≡ true → AtInterface p
  interface_from p from [] among h = absurd (cc)
  interface_from p from (i ∷ is) among h =
      elim (or_cases (nat_eq place (from + i.classes_before) && list_all (is_reference all (is_of p (objects.Interface from))) ws) (any_interface all place ws p (from + 1) is) h) [
        | inl here ↦
            let both = and_both (nat_eq place (from + i.classes_before)) (list_all (is_reference all (is_of p (objects.Interface from))) ws) here in
            let level : from + 0 ≡ from = omega arith in
            let at : slice_get (p.tree).interfaces from ≡ Some i = subst (λ (n : ℕ). slice_get (p.tree).interfaces n ≡ Some i) level (among 0 i refl) in
            record { interface = from; source = i; at = at; is = eqb-true place (from + i.classes_before) both.0 ∙ interface_place p.tree from i at; each = both.1 }
        | inr later ↦
            interface_from p (from + 1) is (λ k x there.
            let level : from + suc k ≡ from + 1 + k = omega arith in
            subst (λ (n : ℕ). slice_get (p.tree).interfaces n ≡ Some x) level (among (suc k) x there)) later
      ]

  interface_to : (p : Program) (from k : ℕ) (is : List Interface) (i : Interface) → slice_get is k ≡ Some i → place ≡ from + k + i.classes_before → list_all (is_reference all (is_of p (objects.Interface (from + k)))) ws ≡ true → any_interface all place ws p from is ≡ true
  interface_to p from k [] i at is each = absurd (cc)
  interface_to p from zero (x ∷ is) i at here each =
      let same : x ≡ i = same_Some x i at in
      let level : from + 0 ≡ from = omega arith in
      let placed : place ≡ from + x.classes_before = here ∙ ap (λ (n : ℕ). n + i.classes_before) level ∙ ap (λ (y : Interface). from + y.classes_before) (sym same) in
      or_first (nat_eq place (from + x.classes_before) && list_all (is_reference all (is_of p (objects.Interface from))) ws) (any_interface all place ws p (from + 1) is)
      (both_and (nat_eq place (from + x.classes_before)) (list_all (is_reference all (is_of p (objects.Interface from))) ws) (eq-eqb place (from + x.classes_before) placed)
      (subst (λ (n : ℕ). list_all (is_reference all (is_of p (objects.Interface n))) ws ≡ true) level each))
  interface_to p from (suc k) (x ∷ is) i at here each =
      let level : from + suc k ≡ from + 1 + k = omega arith in
      or_second (nat_eq place (from + x.classes_before) && list_all (is_reference all (is_of p (objects.Interface from))) ws) (any_interface all place ws p (from + 1) is)
      (interface_to p (from + 1) k is i at (here ∙ ap (λ (n : ℕ). n + i.classes_before) level) (subst (λ (n : ℕ). list_all (is_reference all (is_of p (objects.Interface n))) ws ≡ true) level each))

  -- what is found of a class at the place
  record AtClass (p : Program) : Type 0 where
    pub class : ℕ
    pub source : Class
    pub at : slice_get (p.tree).classes class ≡ Some source
    pub is : place ≡ place_of_class p.tree class

  class_from : (p : Program) (o : Option Class) → class_at p.tree place ≡ o → is_some o ≡ true → AtClass p
  class_from p None e h = absurd (cc)
  class_from p (Some c) e h = let (class, at, is) = class_there p.tree place c e in record { class = class; source = c; at = at; is = is }

  -- the elements that handles are

  pub record AreHandles (p : Program) : Type 0 where
    pub element : typed_element.Element
    pub known : (ps : List Program) → known_in ps p.name ≡ Some p.tree → IsKnownFor (known_in ps) p element
    pub named : IsNamed p.tree element
    pub is : Handles p.name place ≡ element_of p element
    pub values : AllAre p all (type_of_element element) ws

  of_class : (p : Program) (c : AtClass p) → list_all (is_reference all (is_of_place p.name place)) ws ≡ true → AreHandles p
  of_class p c h = record {
    element = elements.Class c.class;
    known = λ ps k. k;
    named = got_within (p.tree).classes c.class c.source c.at;
    is = ap (λ (n : ℕ). Handles p.name n) c.is;
    values = all_say p all (vars.Handle (objects.Class c.class)) (is_reference all (is_of_place p.name place)) (λ w t. formed.is_handle (reference_says all (is_of_place p.name place) (IsOf p (objects.Class c.class)) (place_says p c.class place c.source c.at c.is) w t)) ws h;
  }

  of_interface : (p : Program) → AtInterface p → AreHandles p
  of_interface p i = record {
    element = elements.Interface i.interface;
    known = λ ps k. k;
    named = got_within (p.tree).interfaces i.interface i.source i.at;
    is = ap (λ (n : ℕ). Handles p.name n) i.is;
    values = all_say p all (vars.Handle (objects.Interface i.interface)) (is_reference all (is_of p (objects.Interface i.interface))) (λ w t. formed.is_handle (reference_says all (is_of p (objects.Interface i.interface)) (IsOf p (objects.Interface i.interface)) (of_says p (objects.Interface i.interface)) w t)) ws i.each;
  }

  pub handles_say : (p : Program) → are_handles all place ws p ≡ true → AreHandles p
  handles_say p h =
      elim (or_cases (are_of_class all place ws p) (any_interface all place ws p 0 (p.tree).interfaces) h) [
        | inl class ↦
            let both = and_both (is_some (class_at p.tree place)) (list_all (is_reference all (is_of_place p.name place)) ws) class in
            of_class p (class_from p (class_at p.tree place) refl both.0) both.1
        | inr interface ↦
            of_interface p (interface_from p 0 (p.tree).interfaces (λ k i at.
            let level : k ≡ 0 + k = omega arith in
            subst (λ (n : ℕ). slice_get (p.tree).interfaces n ≡ Some i) level at) interface)
      ]

  handle_in : {p : Program} {w : Word} (of : ObjectType) → IsValue p all (vars.Handle of) w → IsReference all (IsOf p of) w
  handle_in of (formed.is_handle r) = r

  pub class_handles : (p : Program) (class : ℕ) → IsNamed p.tree (elements.Class class) → place ≡ place_of_class p.tree class → AllAre p all (vars.Handle (objects.Class class)) ws → are_handles all place ws p ≡ true
  class_handles p class named is values =
      let (c, at) = within_some (p.tree).classes class named in
      or_first (are_of_class all place ws p) (any_interface all place ws p 0 (p.tree).interfaces)
      (both_and (is_some (class_at p.tree place)) (list_all (is_reference all (is_of_place p.name place)) ws) (ap is_some (class_found p.tree class c place at is))
      (all_yes p all (vars.Handle (objects.Class class)) (is_reference all (is_of_place p.name place)) (λ w v. reference_yes all (is_of_place p.name place) (IsOf p (objects.Class class)) (place_yes p class place is) (handle_in (objects.Class class) v)) values))

  pub interface_handles : (p : Program) (interface : ℕ) → IsNamed p.tree (elements.Interface interface) → place ≡ place_of_interface p.tree interface → AllAre p all (vars.Handle (objects.Interface interface)) ws → are_handles all place ws p ≡ true
  interface_handles p interface named is values =
      let (i, at) = within_some (p.tree).interfaces interface named in
      let level : interface ≡ 0 + interface = omega arith in
      or_second (are_of_class all place ws p) (any_interface all place ws p 0 (p.tree).interfaces)
      (interface_to p 0 interface (p.tree).interfaces i at (is ∙ sym (interface_place p.tree interface i at) ∙ ap (λ (n : ℕ). n + i.classes_before) level)
      (subst (λ (n : ℕ). list_all (is_reference all (is_of p (objects.Interface n))) ws ≡ true) level
      (all_yes p all (vars.Handle (objects.Interface interface)) (is_reference all (is_of p (objects.Interface interface))) (λ w v. reference_yes all (is_of p (objects.Interface interface)) (IsOf p (objects.Interface interface)) (of_yes p (objects.Interface interface)) (handle_in (objects.Interface interface) v)) values)))

-- arrays

-- primitives are of no module
nowhere : Program
nowhere = record { name = []; tree = record { interfaces = []; classes = []; functions = []; globals = [] } }

module _ (ps : List Program) (all : LiveObjects (List ℕ)) where
  handles_from : (owner : List ℕ) (place : ℕ) (ws : List Word) (o : Option Program) → program_of_name owner ps ≡ o → length ws ≤ max_elements → option_map_or (are_handles all place ws) o false ≡ true → IsArray (known_in ps) all (Handles owner place) ws
  handles_from owner place ws None e few h = absurd (cc)
  handles_from owner place ws (Some p) e few h =
      let says = handles_say all place ws p h in
      record {
        few = few;
        program = p;
        element = says.element;
        known = says.known ps (is_known owner ps p e);
        named = says.named;
        is = ap (λ (n : List ℕ). Handles n place) (sym (has_the_name owner ps p e)) ∙ says.is;
        values = says.values;
      }

  integers_from : (t : IntType) (of : Elements (List ℕ)) (ws : List Word) → of ≡ element_of nowhere (elements.Integer t) → length ws ≤ max_elements → list_all (is_integer t) ws ≡ true → IsArray (known_in ps) all of ws
  integers_from t of ws is few h = record { few = few; program = nowhere; element = elements.Integer t; known = tt; named = tt; is = is; values = all_say nowhere all (vars.Integer t) (is_integer t) (λ w i. formed.is_integer (integer_says t w i)) ws h }

  pub array_says : (of : Elements (List ℕ)) (ws : List Word) → length ws ≤ max_elements → are_elements ps all of ws ≡ true → IsArray (known_in ps) all of ws
  array_says Bools ws few h = record { few = few; program = nowhere; element = elements.Bool; known = tt; named = tt; is = refl; values = all_say nowhere all vars.Bool is_truth (truth_says nowhere all) ws h }
  array_says Ints ws few h = integers_from ints.Int Ints ws refl few h
  array_says Uints ws few h = integers_from ints.Uint Uints ws refl few h
  array_says Int64s ws few h = integers_from ints.Int64 Int64s ws refl few h
  array_says Uint64s ws few h = integers_from ints.Uint64 Uint64s ws refl few h
  array_says (Handles owner place) ws few h = handles_from owner place ws (program_of_name owner ps) refl few h
  array_says (Hosts kind) ws few h = record {
    few = few;
    program = nowhere;
    element = elements.Host kind;
    known = tt;
    named = tt;
    is = refl;
    values = all_say nowhere all (vars.Handle (objects.Host kind)) (is_reference all (is_of_kind kind)) (λ w t. formed.is_handle (reference_says all (is_of_kind kind) (IsOf nowhere (objects.Host kind)) (kind_says kind) w t)) ws h;
  }

  integers_to : (p : Program) (t : IntType) {ws : List Word} → AllAre p all (vars.Integer t) ws → list_all (is_integer t) ws ≡ true
  integers_to p t values = all_yes p all (vars.Integer t) (is_integer t) (λ w v. value_yes p all v) values

  known_handles : (p : Program) (place : ℕ) (ws : List Word) → known_in ps p.name ≡ Some p.tree → are_handles all place ws p ≡ true → option_map_or (are_handles all place ws) (program_of_name p.name ps) false ≡ true
  known_handles p place ws known h = ap (λ (o : Option Program). option_map_or (are_handles all place ws) o false) (known_is p.name p.tree ps known) ∙ h

  elements_to : (p : Program) (e : typed_element.Element) (ws : List Word) → IsKnownFor (known_in ps) p e → IsNamed p.tree e → AllAre p all (type_of_element e) ws → are_elements ps all (element_of p e) ws ≡ true
  elements_to p elements.Bool ws known named values = all_yes p all vars.Bool is_truth (λ w v. value_yes p all v) values
  elements_to p (elements.Integer ints.Int) ws known named values = integers_to p ints.Int values
  elements_to p (elements.Integer ints.Uint) ws known named values = integers_to p ints.Uint values
  elements_to p (elements.Integer ints.Int64) ws known named values = integers_to p ints.Int64 values
  elements_to p (elements.Integer ints.Uint64) ws known named values = integers_to p ints.Uint64 values
  elements_to p (elements.Class class) ws known named values = known_handles p (place_of_class p.tree class) ws known (class_handles all (place_of_class p.tree class) ws p class named refl values)
  elements_to p (elements.Interface interface) ws known named values = known_handles p (place_of_interface p.tree interface) ws known (interface_handles all (place_of_interface p.tree interface) ws p interface named refl values)
  elements_to p (elements.Host kind) ws known named values = all_yes p all (vars.Handle (objects.Host kind)) (is_reference all (is_of_kind kind)) (λ w v. reference_yes all (is_of_kind kind) (IsOf p (objects.Host kind)) (kind_yes kind) (handle_in all kind ws (objects.Host kind) v)) values

  pub array_yes : (of : Elements (List ℕ)) (ws : List Word) → IsArray (known_in ps) all of ws → are_elements ps all of ws ≡ true
  array_yes of ws a = subst (λ (x : Elements (List ℕ)). are_elements ps all x ws ≡ true) (sym a.is) (elements_to a.program a.element ws a.known a.named a.values)
