-- Types are looked up by the names of classes and interfaces alone.
use Rattle.std.proofs.Common.{◌≡◌, ◌+◌, ℕ, Bool, true, false, cond, List, [], ◌∷◌, map, Option, Some, option_map}
use Rattle.std.proofs.Common.{option_and_then, refl, ap}
use Rattle.std.specs.Str.{bytes_eq}
use Rattle.ash_registrations.specs.Registrations as host
use Rattle.ash_tree.specs.Tree as written
use Rattle.ash_typed.specs.declared.types.ObjectType.{ObjectType}
use Rattle.ash_typed.specs.declared.types.ObjectType.TheVariants.{Class as OfClass, Interface as OfInterface}
use Rattle.ash_typed.specs.declared.types.ObjectType.TheVariants.{Array as OfArray}
use Rattle.ash_type_rules.specs.Environment.{ModuleDeclarations, InterfaceSignature, ClassSignature, first_from, is_class}
use Rattle.ash_type_rules.specs.Environment.{is_interface_named}
use Rattle.ash_type_rules.specs.ModuleDeclarations.{object_named, element_by, element_named, array_named, object_ty}
use Rattle.ash_type_rules.specs.ModuleDeclarations.{handle_ty, ty_named}
use Rattle.ash_type_rules.specs.ModuleDeclarations.{names_in, declarations}
use Rattle.ash_type_rules.specs.ModuleDeclarations.{ty_in, interface_declaration, class_declaration, named_interface}
use Rattle.ash_type_rules.specs.ModuleDeclarations.{named_class}
use Rattle.ash_type_rules.specs.TypedModules.{environment}
use Rattle.ash_tree.specs.Items.{classes_of, interfaces_of}

-- what is found, by its place
abbrev object_at : {A : Type 0} → (ℕ → ObjectType) → Option (ℕ × A) → Option ObjectType
object_at {A} of_place found = option_map (λ (f : ℕ × A). of_place f.0) found

same_first : {A : Type 0} (of_place : ℕ → ObjectType) (i : ℕ) (b : Bool) (c d : A) (x y : Option (ℕ × A))
    → object_at of_place x ≡ object_at of_place y
    → object_at of_place (cond b (Some (i, c)) x) ≡ object_at of_place (cond b (Some (i, d)) y)
same_first of_place i true c d x y h = refl
same_first of_place i false c d x y h = h

abbrev class_from : List ℕ → ℕ → List ClassSignature → Option ObjectType
class_from name i cs = object_at OfClass (first_from (is_class name) i cs)

abbrev interface_from : List ℕ → ℕ → List InterfaceSignature → Option ObjectType
interface_from name i ts = object_at OfInterface (first_from (is_interface_named name) i ts)

same_class : (registrations : List host.Registration) (named : ModuleDeclarations) (name : List ℕ) (i : ℕ) (cs : List written.Class)
    → class_from name i (map (class_declaration registrations named) cs) ≡ class_from name i (map named_class cs)
same_class registrations named name i [] = refl
same_class registrations named name i (c ∷ cs) =
    same_first OfClass i (bytes_eq name c.name) _ _
    (first_from (is_class name) (i + 1) (map (class_declaration registrations named) cs))
    (first_from (is_class name) (i + 1) (map named_class cs)) (same_class registrations named name (i + 1) cs)

same_interface : (registrations : List host.Registration) (named : ModuleDeclarations) (name : List ℕ) (i : ℕ) (is : List written.Interface)
    → interface_from name i (map (interface_declaration registrations named) is) ≡ interface_from name i (map named_interface is)
same_interface registrations named name i [] = refl
same_interface registrations named name i (x ∷ is) =
    same_first OfInterface i (bytes_eq name x.name) _ _
    (first_from (is_interface_named name) (i + 1) (map (interface_declaration registrations named) is))
    (first_from (is_interface_named name) (i + 1) (map named_interface is)) (same_interface registrations named name (i + 1) is)

pub same_object : (registrations : List host.Registration) (is : List written.Item) (name : List ℕ)
    → object_named registrations (declarations registrations is) name ≡ object_named registrations (names_in is) name
unfolding object_named declarations
same_object registrations is name =
    rw (
      same_class registrations (names_in is) name 0 (classes_of is),
      same_interface registrations (names_in is) name 0 (interfaces_of is),
    ) refl

same_element : (registrations : List host.Registration) (is : List written.Item) (of : written.Element)
    → element_named registrations (declarations registrations is) of ≡ element_named registrations (names_in is) of
unfolding element_named
same_element registrations is (written.PrimElement p k) = refl
same_element registrations is (written.HandleElement p name) = ap (option_and_then element_by) (same_object registrations is name)

same_array : (registrations : List host.Registration) (is : List written.Item) (of : written.Element)
    → array_named registrations (declarations registrations is) of ≡ array_named registrations (names_in is) of
same_array registrations is of = ap (option_map OfArray) (same_element registrations is of)

pub same_type : (registrations : List host.Registration) (is : List written.Item) (of : written.Named)
    → ty_in (environment registrations is) of ≡ ty_named registrations (names_in is) of
unfolding ty_named
same_type registrations is (written.Prim p k) = refl
same_type registrations is (written.Object p name) = ap object_ty (same_object registrations is name)
same_type registrations is (written.Handle p name) = ap handle_ty (same_object registrations is name)
same_type registrations is (written.Array p of) = ap object_ty (same_array registrations is of)
same_type registrations is (written.ArrayHandle p of) = ap handle_ty (same_array registrations is of)
