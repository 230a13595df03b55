-- Classes and interfaces by their places in the source of their module, as tests.
use Rattle.std.specs.Prelude.{ℕ, ◌+◌, Bool, true, false, ◌&&◌, if◌then◌else◌, nat_eq, List}
use Rattle.std.specs.Prelude.{[], ◌∷◌, map, slice_get, Option, Some, None, is_some}
use Rattle.std.specs.Option.{option_map_or}
use Rattle.std.specs.Str.{bytes_eq}
use Rattle.ash_host.specs.Objects.{Elements, Bools, Ints, Uints, Int64s, Uint64s, Handles, Hosts}
use Rattle.ash_host.specs.Reach.{is_among}
use Rattle.ash_integers.specs.declared.int_type.IntType.TheVariants as ints
use Rattle.ash_typed.specs.declared.types.Element as typed_element
use Rattle.ash_typed.specs.declared.types.Element.TheVariants as elements
use Rattle.ash_typed.specs.declared.types.ObjectType.{ObjectType}
use Rattle.ash_typed.specs.declared.types.ObjectType.TheVariants as objects
use Rattle.ash_typed.specs.Modules.{Interface, Class, Module}
use Rattle.ash_typed.specs.Signatures as signatures
use Rattle.ash_meaning.specs.Classes.{Program, place_of_class}
use Rattle.ash_soundness.specs.WellFormed.{Shape, OfClass, OfElements, OfKind}

-- the class at a place of the source, among these classes, of which the first has this index
abbrev pub class_from : Module → ℕ → ℕ → List Class → Option Class
class_from m place class [] = None
class_from m place class (c ∷ cs) =
    if nat_eq place (place_of_class m class) then Some c else class_from m place (class + 1) cs

-- the class of a module at a place of its source
abbrev pub class_at : Module → ℕ → Option Class
class_at m place = class_from m place 0 m.classes

-- whether a module has a class by an index, at this place of its source
abbrev pub is_class_at : Module → ℕ → ℕ → Bool
is_class_at m class place = is_some (slice_get m.classes class) && nat_eq place (place_of_class m class)

-- whether a module has an interface by an index, at this place of its source: after the classes and the interfaces
-- before it
abbrev pub is_interface_at : Module → ℕ → ℕ → Bool
is_interface_at m interface place =
    option_map_or (λ (i : Interface). nat_eq place (interface + i.classes_before)) (slice_get m.interfaces interface)
    false

-- whether a class lists an interface
abbrev pub lists : ℕ → Class → Bool
lists interface c = is_among (map signatures.place_of_interface c.interfaces) interface

-- whether the class at a place of the source lists an interface
abbrev pub implements : Module → ℕ → ℕ → Bool
implements m interface place = option_map_or (lists interface) (class_at m place) false

-- whether a shape is that of objects of what is at a place of the source of a module of this name
abbrev pub is_of_place : List ℕ → ℕ → Shape → Bool
is_of_place name place (OfClass owner other) = bytes_eq owner name && nat_eq other place
is_of_place name place _ = false

-- whether a shape is that of host objects of a kind
abbrev pub is_of_kind : ℕ → Shape → Bool
is_of_kind kind (OfKind other) = nat_eq other kind
is_of_kind kind _ = false

-- whether what an array says of its elements is a type of elements of the module
abbrev pub is_element : Program → typed_element.Element → Elements (List ℕ) → Bool
is_element p elements.Bool Bools = true
is_element p (elements.Integer ints.Int) Ints = true
is_element p (elements.Integer ints.Uint) Uints = true
is_element p (elements.Integer ints.Int64) Int64s = true
is_element p (elements.Integer ints.Uint64) Uint64s = true
is_element p (elements.Class class) (Handles owner place) = bytes_eq owner p.name && is_class_at p.tree class place
is_element p (elements.Interface interface) (Handles owner place) =
    bytes_eq owner p.name && is_interface_at p.tree interface place
is_element p (elements.Host kind) (Hosts other) = nat_eq other kind
is_element p _ _ = false

-- whether a shape is that of objects of a type of the module
abbrev pub is_of : Program → ObjectType → Shape → Bool
is_of p (objects.Class class) (OfClass owner place) = bytes_eq owner p.name && is_class_at p.tree class place
is_of p (objects.Interface interface) (OfClass owner place) = bytes_eq owner p.name && implements p.tree interface place
is_of p (objects.Host kind) (OfKind other) = nat_eq other kind
is_of p (objects.Array of) (OfElements element) = is_element p of element
is_of p _ _ = false
