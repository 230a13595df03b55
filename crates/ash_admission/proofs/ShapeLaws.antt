-- The tests of shapes decide what shapes are of.
use Rattle.std.proofs.Common.{◌≡◌, ◌<◌, ◌+◌, ℕ, true, false, List, length, refl, sym, ap, subst, ◌∙◌, nat_eq, map}
use Rattle.std.specs.Prelude.{Option, Some, None, slice_get, is_some, ◌&&◌}
use Rattle.std.specs.Option.{option_map_or}
use Rattle.std.specs.Str.{bytes_eq}
use Rattle.std.proofs.lemmas.Bool.{eqb-true, eq-eqb}
use Rattle.ash_host.specs.Objects.{Elements, Bools, Ints, Uints, Int64s, Uint64s, Handles, Hosts}
use Rattle.ash_host.proofs.Membership.{and_both, both_and, is_among_yes, is_among_says}
use Rattle.ash_integers.specs.declared.int_type.IntType.TheVariants as ints
use Rattle.ash_typed.specs.declared.types.Element as typed_element
use Rattle.ash_typed.specs.declared.types.Element.TheVariants as elements
use Rattle.ash_typed.specs.declared.types.ObjectType.{ObjectType}
use Rattle.ash_typed.specs.declared.types.ObjectType.TheVariants as objects
use Rattle.ash_typed.specs.Modules.{Interface, Class, Module}
use Rattle.ash_typed.specs.Signatures as signatures
use Rattle.ash_meaning.specs.Classes.{Program, place_of_class, place_of_interface, element_of}
use Rattle.ash_soundness.specs.WellFormed.{Shape, OfClass, OfElements, OfKind, IsOfClass, ListsInterface, IsNamed, IsOf}
use Rattle.ash_admission.specs.Places.{class_at, is_class_at, is_interface_at, lists, implements, is_of_place, is_of_kind, is_element, is_of}
use Rattle.ash_admission.proofs.Tests.{same_text, text_itself, some_within, within_some, got_within}
use Rattle.ash_admission.proofs.PlaceLaws.{class_there, class_found}

-- classes

class_from_test : (p : Program) (class : ℕ) (owner : List ℕ) (place : ℕ) (o : Option Class) → slice_get (p.tree).classes class ≡ o → owner ≡ p.name → is_some o && nat_eq place (place_of_class p.tree class) ≡ true → IsOfClass p class (OfClass owner place)
class_from_test p class owner place None e name h = absurd (cc)
class_from_test p class owner place (Some c) e name h = record {
  source = c;
  at = e;
  is = ap (λ (n : List ℕ). OfClass n place) name ∙ ap (λ (n : ℕ). OfClass p.name n) (eqb-true place (place_of_class p.tree class) h);
}

pub class_says : (p : Program) (class : ℕ) (owner : List ℕ) (place : ℕ) → owner ≡ p.name → is_class_at p.tree class place ≡ true → IsOfClass p class (OfClass owner place)
class_says p class owner place name h = class_from_test p class owner place (slice_get (p.tree).classes class) refl name h

class_here : (m : Module) (class : ℕ) (c : Class) → slice_get m.classes class ≡ Some c → is_class_at m class (place_of_class m class) ≡ true
class_here m class c at = both_and (is_some (slice_get m.classes class)) (nat_eq (place_of_class m class) (place_of_class m class)) (ap is_some at) (eq-eqb (place_of_class m class) (place_of_class m class) refl)

-- a shape that passes the test of a place is that of the class there
pub place_says : (p : Program) (class place : ℕ) (c : Class) → slice_get (p.tree).classes class ≡ Some c → place ≡ place_of_class p.tree class → (s : Shape) → is_of_place p.name place s ≡ true → IsOfClass p class s
place_says p class place c at is (OfClass owner other) h =
    let both = and_both (bytes_eq owner p.name) (nat_eq other place) h in
    record {
      source = c;
      at = at;
      is = ap (λ (n : List ℕ). OfClass n other) (same_text owner p.name both.0) ∙ ap (λ (n : ℕ). OfClass p.name n) (eqb-true other place both.1 ∙ is);
    }
place_says p class place c at is (OfElements of) h = absurd (cc)
place_says p class place c at is (OfKind kind) h = absurd (cc)

pub place_yes : (p : Program) (class place : ℕ) → place ≡ place_of_class p.tree class → (s : Shape) → IsOfClass p class s → is_of_place p.name place s ≡ true
place_yes p class place is s i =
    subst (λ (x : Shape). is_of_place p.name place x ≡ true) (sym i.is)
    (both_and (bytes_eq p.name p.name) (nat_eq (place_of_class p.tree class) place) (text_itself p.name) (eq-eqb (place_of_class p.tree class) place (sym is)))

-- interfaces

listed_from : (p : Program) (interface : ℕ) (owner : List ℕ) (place : ℕ) (o : Option Class) → class_at p.tree place ≡ o → owner ≡ p.name → option_map_or (lists interface) o false ≡ true → ListsInterface p interface (OfClass owner place)
listed_from p interface owner place None e name h = absurd (cc)
listed_from p interface owner place (Some c) e name h =
    let (class, at, is) = class_there p.tree place c e in
    record {
      class = class;
      of = record { source = c; at = at; is = ap (λ (n : List ℕ). OfClass n place) name ∙ ap (λ (n : ℕ). OfClass p.name n) is };
      lists = is_among_says interface (map signatures.place_of_interface c.interfaces) h;
    }

interface_yes : (p : Program) (interface : ℕ) (s : Shape) → ListsInterface p interface s → is_of p (objects.Interface interface) s ≡ true
interface_yes p interface s i =
    let place : ℕ = place_of_class p.tree i.class in
    let found : class_at p.tree place ≡ Some (i.of).source = class_found p.tree i.class (i.of).source place (i.of).at refl in
    let listed : lists interface (i.of).source ≡ true = is_among_yes interface (map signatures.place_of_interface ((i.of).source).interfaces) i.lists in
    subst (λ (x : Shape). is_of p (objects.Interface interface) x ≡ true) (sym (i.of).is)
    (both_and (bytes_eq p.name p.name) (implements p.tree interface place) (text_itself p.name) (ap (λ (o : Option Class). option_map_or (lists interface) o false) found ∙ listed))

interface_from : (p : Program) (interface : ℕ) (owner : List ℕ) (place : ℕ) (o : Option Interface) → slice_get (p.tree).interfaces interface ≡ o → owner ≡ p.name → option_map_or (λ (i : Interface). nat_eq place (interface + i.classes_before)) o false ≡ true → (interface < length (p.tree).interfaces) × (Handles owner place ≡ element_of p (elements.Interface interface))
interface_from p interface owner place None e name h = absurd (cc)
interface_from p interface owner place (Some i) e name h =
    let own : place_of_interface p.tree interface ≡ interface + i.classes_before = ap (λ (o : Option Interface). interface + option_map_or (λ (x : Interface). x.classes_before) o 0) e in
    (got_within (p.tree).interfaces interface i e, ap (λ (n : List ℕ). Handles n place) name ∙ ap (λ (n : ℕ). Handles p.name n) (eqb-true place (interface + i.classes_before) h ∙ sym own))

interface_here : (m : Module) (interface : ℕ) (i : Interface) → slice_get m.interfaces interface ≡ Some i → is_interface_at m interface (place_of_interface m interface) ≡ true
interface_here m interface i e =
    let own : place_of_interface m interface ≡ interface + i.classes_before = ap (λ (o : Option Interface). interface + option_map_or (λ (x : Interface). x.classes_before) o 0) e in
    ap (λ (o : Option Interface). option_map_or (λ (x : Interface). nat_eq (place_of_interface m interface) (interface + x.classes_before)) o false) e ∙ eq-eqb (place_of_interface m interface) (interface + i.classes_before) own

-- elements

pub element_says : (p : Program) (of : typed_element.Element) (e : Elements (List ℕ)) → is_element p of e ≡ true → IsNamed p.tree of × (e ≡ element_of p of)
element_says p elements.Bool Bools h = (tt, refl)
element_says p (elements.Integer ints.Int) Ints h = (tt, refl)
element_says p (elements.Integer ints.Uint) Uints h = (tt, refl)
element_says p (elements.Integer ints.Int64) Int64s h = (tt, refl)
element_says p (elements.Integer ints.Uint64) Uint64s h = (tt, refl)
element_says p (elements.Class class) (Handles owner place) h =
    let both = and_both (bytes_eq owner p.name) (is_class_at p.tree class place) h in
    let at = and_both (is_some (slice_get (p.tree).classes class)) (nat_eq place (place_of_class p.tree class)) both.1 in
    (some_within (p.tree).classes class at.0, ap (λ (n : List ℕ). Handles n place) (same_text owner p.name both.0) ∙ ap (λ (n : ℕ). Handles p.name n) (eqb-true place (place_of_class p.tree class) at.1))
element_says p (elements.Interface interface) (Handles owner place) h =
    let both = and_both (bytes_eq owner p.name) (is_interface_at p.tree interface place) h in
    interface_from p interface owner place (slice_get (p.tree).interfaces interface) refl (same_text owner p.name both.0) both.1
element_says p (elements.Host kind) (Hosts other) h = (tt, ap (λ (n : ℕ). Hosts n) (eqb-true other kind h))
element_says p _ _ h = absurd (cc)

pub element_yes : (p : Program) (of : typed_element.Element) → IsNamed p.tree of → is_element p of (element_of p of) ≡ true
element_yes p elements.Bool named = refl
element_yes p (elements.Integer ints.Int) named = refl
element_yes p (elements.Integer ints.Uint) named = refl
element_yes p (elements.Integer ints.Int64) named = refl
element_yes p (elements.Integer ints.Uint64) named = refl
element_yes p (elements.Class class) named =
    let (c, at) = within_some (p.tree).classes class named in
    both_and (bytes_eq p.name p.name) (is_class_at p.tree class (place_of_class p.tree class)) (text_itself p.name) (class_here p.tree class c at)
element_yes p (elements.Interface interface) named =
    let (i, at) = within_some (p.tree).interfaces interface named in
    both_and (bytes_eq p.name p.name) (is_interface_at p.tree interface (place_of_interface p.tree interface)) (text_itself p.name) (interface_here p.tree interface i at)
element_yes p (elements.Host kind) named = eq-eqb kind kind refl

-- kinds

pub kind_says : (kind : ℕ) (s : Shape) → is_of_kind kind s ≡ true → s ≡ OfKind kind
kind_says kind (OfKind other) h = ap (λ (n : ℕ). OfKind n) (eqb-true other kind h)
kind_says kind (OfClass owner place) h = absurd (cc)
kind_says kind (OfElements of) h = absurd (cc)

pub kind_yes : (kind : ℕ) (s : Shape) → s ≡ OfKind kind → is_of_kind kind s ≡ true
kind_yes kind s e = subst (λ (x : Shape). is_of_kind kind x ≡ true) (sym e) (eq-eqb kind kind refl)

-- types of objects

pub of_says : (p : Program) (of : ObjectType) (s : Shape) → is_of p of s ≡ true → IsOf p of s
of_says p (objects.Class class) (OfClass owner place) h =
    let both = and_both (bytes_eq owner p.name) (is_class_at p.tree class place) h in
    class_says p class owner place (same_text owner p.name both.0) both.1
of_says p (objects.Interface interface) (OfClass owner place) h =
    let both = and_both (bytes_eq owner p.name) (implements p.tree interface place) h in
    listed_from p interface owner place (class_at p.tree place) refl (same_text owner p.name both.0) both.1
of_says p (objects.Host kind) (OfKind other) h = ap (λ (n : ℕ). OfKind n) (eqb-true other kind h)
of_says p (objects.Array of) (OfElements e) h =
    let says = element_says p of e h in
    record { named = says.0; is = ap (λ (x : Elements (List ℕ)). OfElements x) says.1 }
of_says p _ _ h = absurd (cc)

pub of_yes : (p : Program) (of : ObjectType) (s : Shape) → IsOf p of s → is_of p of s ≡ true
of_yes p (objects.Class class) s i =
    subst (λ (x : Shape). is_of p (objects.Class class) x ≡ true) (sym i.is)
    (both_and (bytes_eq p.name p.name) (is_class_at p.tree class (place_of_class p.tree class)) (text_itself p.name) (class_here p.tree class i.source i.at))
of_yes p (objects.Interface interface) s i = interface_yes p interface s i
of_yes p (objects.Host kind) s e = subst (λ (x : Shape). is_of p (objects.Host kind) x ≡ true) (sym e) (eq-eqb kind kind refl)
of_yes p (objects.Array of) s i = subst (λ (x : Shape). is_of p (objects.Array of) x ≡ true) (sym i.is) (element_yes p of i.named)
