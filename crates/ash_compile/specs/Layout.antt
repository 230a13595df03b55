-- Where the code of what a module calls stands among the functions of its code: the functions come first, then the
-- constructions, then the methods, class by class. Classes stand in the order of the module.
use Rattle.std.specs.Prelude.{◌≡◌, ◌<◌, ℕ, ◌+◌, ◌++◌, List, map, flat_map, sum, take, length, count_by, nat_le, Some}
use Rattle.std.specs.Prelude.{slice_get}
use Rattle.std.specs.Option.{option_map_or}
use Rattle.ash_typed.specs.Modules.{Function, Interface, Class, Module}
use Rattle.ash_typed.specs.Signatures.{parameters_of}
use Rattle.ash_meaning.specs.Classes.{ModuleCallee, FreeFunction, Method, Construction, place_of_class}
use Rattle.ash_meaning.specs.Classes.{place_of_interface}
use Rattle.ash_compile.specs.declared.layout.Layout.{Layout}

abbrev pub count_of_methods : Class → ℕ
count_of_methods c = length c.methods

-- how many methods the classes before one have
abbrev pub methods_before : ℕ → List Class → ℕ
methods_before class classes = sum (map count_of_methods (take class classes))

-- the place of the code of a callee among the functions
abbrev pub index_of : Module → ModuleCallee → ℕ
index_of m (FreeFunction place) = place
index_of m (Construction class) = length m.functions + class
index_of m (Method class place) = length m.functions + length m.classes + methods_before class m.classes + place

-- how many interfaces are declared before a class
abbrev pub interfaces_before : ℕ → List Interface → ℕ
interfaces_before class interfaces = count_by (λ (i : Interface). nat_le i.classes_before class) interfaces

-- how many classes are declared before an interface
abbrev pub classes_before : ℕ → List Interface → ℕ
classes_before interface interfaces =
    option_map_or (λ (i : Interface). i.classes_before) (slice_get interfaces interface) 0

-- how many parameters functions, constructions and methods have

abbrev pub count_of_parameters : Function → ℕ
count_of_parameters f = length f.parameters

abbrev pub count_of_constructor : Class → ℕ
count_of_constructor c = length (parameters_of c.constructor)

abbrev pub counts_of_methods : Class → List ℕ
counts_of_methods c = map count_of_parameters c.methods

abbrev pub counts_of_parameters : Module → List ℕ
counts_of_parameters m =
    map count_of_parameters m.functions ++ map count_of_constructor m.classes
    ++ flat_map counts_of_methods m.classes

-- The layout is that of a module, which has this slot in the table of objects. It has the first method of each class,
-- and the places of classes and interfaces in the source.
pub record IsLayout (number : ℕ) (m : Module) (layout : Layout) : Type 0 where
  pub slot : layout.slot ≡ number
  pub functions : layout.functions ≡ length m.functions
  pub parameters : (layout.parameters).items ≡ counts_of_parameters m
  pub constructors : (layout.constructors).items ≡ map count_of_constructor m.classes
  pub methods : (class : ℕ) → class < length m.classes
      → slice_get (layout.methods).items class ≡ Some (index_of m (Method class 0))
  pub classes : (class : ℕ) → class < length m.classes
      → slice_get (layout.classes).items class ≡ Some (place_of_class m class)
  pub interfaces : (interface : ℕ) → interface < length m.interfaces
      → slice_get (layout.interfaces).items interface ≡ Some (place_of_interface m interface)
