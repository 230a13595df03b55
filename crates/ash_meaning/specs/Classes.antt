-- What the names of a module mean while it runs: the places of classes in its source, what class an object is of, and
-- what is entered by a call.
use Rattle.std.specs.Prelude.{ℕ, ◌+◌, ◌==◌, Bool, false, if◌then◌else◌, nat_eq, nat_le, List, [], ◌++◌, codes, map}
use Rattle.std.specs.Prelude.{length, find, position, count_by, slice_get, Option, None, option_map, is_some}
use Rattle.std.specs.List.{range_with_len}
use Rattle.std.specs.Option.{option_map_or, option_and_then}
use Rattle.std.specs.Str.{bytes_eq}
use Rattle.ash_host.specs.Objects.{Plain, Script, Elements, Bools, Ints, Uints, Int64s, Uint64s, Handles, Hosts}
use Rattle.ash_integers.specs.declared.int_type.IntType.TheVariants as ints
use Rattle.ash_typed.specs.declared.types.Element as typed_element
use Rattle.ash_typed.specs.declared.types.Element.TheVariants as elements
use Rattle.ash_typed.specs.declared.types.ObjectType.{ObjectType}
use Rattle.ash_typed.specs.declared.types.ObjectType.TheVariants as objects
use Rattle.ash_typed.specs.StatementTree.{Initialization, Body, no_stmt}
use Rattle.ash_typed.specs.Modules.{Function, Interface, Implementation, Class, Module}

-- the module that runs, with the name that it is loaded under
pub record Program : Type 0 where
  pub name : List ℕ
  pub tree : Module

-- places in the source, where classes and interfaces count together

abbrev pub place_of_class : Module → ℕ → ℕ
place_of_class m class = class + count_by (λ (i : Interface). nat_le i.classes_before class) m.interfaces

abbrev pub place_of_interface : Module → ℕ → ℕ
place_of_interface m interface =
    interface + option_map_or (λ (i : Interface). i.classes_before) (slice_get m.interfaces interface) 0

abbrev pub places_of_classes : Module → List ℕ
places_of_classes m = map (place_of_class m) (range_with_len 0 (length m.classes))

-- what an object is of

-- the class of an object, by its place among those of the module; none where it is of no class of this module
abbrev pub class_of : Program → Plain (List ℕ) → Option ℕ
class_of p (Script owner place fields) =
    if bytes_eq owner p.name then position (nat_eq place) (places_of_classes p.tree) else None
class_of p _ = None

-- how a class implements an interface, where it lists it
abbrev pub implementation_in : Module → ℕ → ℕ → Option Implementation
implementation_in m class interface =
    option_and_then (λ (c : Class). find (λ (i : Implementation). nat_eq i.interface interface) c.interfaces)
    (slice_get m.classes class)

-- the method that a class has for a method of an interface
abbrev pub implemented : Module → ℕ → ℕ → ℕ → Option ℕ
implemented m interface method class =
    option_and_then (λ (i : Implementation). slice_get i.methods method) (implementation_in m class interface)

-- whether the objects of a class are of this type
abbrev pub is_class_of : Module → ObjectType → ℕ → Bool
is_class_of m (objects.Class other) class = class == other
is_class_of m (objects.Interface interface) class = is_some (implementation_in m class interface)
is_class_of m _ class = false

-- whether an object is of a class or an interface
abbrev pub is_object_of : Program → ObjectType → Plain (List ℕ) → Bool
is_object_of p of object = option_map_or (is_class_of p.tree of) (class_of p object) false

-- what the elements of an array are of, as the array says it
abbrev pub element_of : Program → typed_element.Element → Elements (List ℕ)
element_of p elements.Bool = Bools
element_of p (elements.Integer ints.Int) = Ints
element_of p (elements.Integer ints.Uint) = Uints
element_of p (elements.Integer ints.Int64) = Int64s
element_of p (elements.Integer ints.Uint64) = Uint64s
element_of p (elements.Class class) = Handles p.name (place_of_class p.tree class)
element_of p (elements.Interface interface) = Handles p.name (place_of_interface p.tree interface)
element_of p (elements.Host kind) = Hosts kind

-- what is entered

-- what a script calls of its own module: a function, a method of a class, or the construction of an object of a class
pub data ModuleCallee : Type 0 where
  FreeFunction : (place : ℕ) → ModuleCallee
  Method : (class place : ℕ) → ModuleCallee
  Construction : (class : ℕ) → ModuleCallee

-- What the frame of a call does: its name, the line of its entry, the fields that it initializes, and the body.
pub record Entry : Type 0 where
  pub name : List ℕ
  pub line : ℕ
  pub fields : List Initialization
  pub body : Body

-- `C.m`
abbrev pub dotted : List ℕ → List ℕ → List ℕ
dotted class method = class ++ codes "." ++ method

abbrev pub entry_of_function : Function → Entry
entry_of_function f = record { name = f.name; line = f.line; fields = []; body = f.body }

abbrev pub entry_of_method : Class → Function → Entry
entry_of_method c f = record { name = dotted c.name f.name; line = f.line; fields = []; body = f.body }

-- A construction is entered at the line of the constructor's name, or of the class's where no constructor is written.
abbrev pub entry_of_construction : Class → Entry
entry_of_construction c =
    record {
      name = dotted c.name c.name;
      line = option_map_or (λ (f : Function). f.line) c.constructor c.line;
      fields = c.fields;
      body = option_map_or (λ (f : Function). f.body) c.constructor no_stmt;
    }

abbrev pub entry_of : Module → ModuleCallee → Option Entry
entry_of m (FreeFunction place) = option_map entry_of_function (slice_get m.functions place)
entry_of m (Method class place) =
    option_and_then (λ (c : Class). option_map (entry_of_method c) (slice_get c.methods place))
    (slice_get m.classes class)
entry_of m (Construction class) = option_map entry_of_construction (slice_get m.classes class)
