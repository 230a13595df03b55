-- Sound modules, by the typed tree alone: what a compiler and a machine that walk it may rely on.
use Rattle.std.specs.Prelude.{◌≡◌, ◌≤◌, ◌+◌, ◌⊎◌, ℕ, length, List, [], ◌∷◌, ◌++◌, map, Some, None, IfSome, slice_get}
use Rattle.std.specs.Prelude.{false}
use Rattle.std.specs.List.{AllByRecursion, AllZip, IsDistinct}
use Rattle.std.specs.Str.{bytes_eq}
use Rattle.ash_typed.specs.ModuleLimits.{max_module_types, max_globals, max_class_members}
use Rattle.ash_typed.specs.StatementTree.{Initialization}
use Rattle.ash_typed.specs.Modules.{Variables, Function, Signature, Interface, Implementation, Class, Module}
use Rattle.ash_typed.specs.Signatures.{HostSignatures, ModuleSignatures, signature_of, signatures_of, IsPassedType}
use Rattle.ash_typed.specs.Signatures.{IsResultInModule}
use Rattle.ash_typed.specs.SoundExpressions.{TypedEnvironment}
use Rattle.ash_typed.specs.SoundStatements.{TypedScope, IsInitialized, AreSoundStmts}
use Rattle.ash_typed.specs.TypedReturning.{AnyReturns}

-- `inside s class` is what items see inside a class.
abbrev pub inside : ModuleSignatures → ℕ → TypedEnvironment
inside s class = record { signatures = s; this = Some class; locals = [] }

-- `outside s` is what items see outside of classes.
abbrev pub outside : ModuleSignatures → TypedEnvironment
outside s = record { signatures = s; this = None; locals = [] }

-- functions

-- The parameters are the first locals of a body, and no jump leaves it.
abbrev pub body_scope : TypedEnvironment → Function → TypedScope
body_scope env f = record {
  env = record { signatures = env.signatures; this = env.this; locals = f.parameters };
  result = f.result;
  may_break = false;
  may_continue = false;
}

-- A function, a method or a constructor with a result does not end without it.
pub record IsSoundFunction (env : TypedEnvironment) (f : Function) : Type 0 where
  pub parameters : AllByRecursion (IsPassedType env.signatures) f.parameters
  pub result : IsResultInModule env.signatures f.result
  pub body : AreSoundStmts (body_scope env f) f.body
  pub returns : (f.result ≡ None) ⊎ AnyReturns f.body

-- interfaces

pub record IsSoundSignature (s : ModuleSignatures) (f : Signature) : Type 0 where
  pub parameters : AllByRecursion (IsPassedType s) f.parameters
  pub result : IsResultInModule s f.result

-- An interface has at most `max_class_members` methods.
pub record IsSoundInterface (s : ModuleSignatures) (classes : ℕ) (i : Interface) : Type 0 where
  pub before : i.classes_before ≤ classes
  pub few : length i.methods ≤ max_class_members
  pub methods : AllByRecursion (IsSoundSignature s) i.methods

-- Interfaces in the order of the source, of which the first has at least so many classes before it: none has more of
-- them than a later one. So each interface and each class has a place of its own among all of a module.
abbrev pub AreInOrder : ℕ → List Interface → Type 0
AreInOrder least [] = Unit {0}
AreInOrder least (i ∷ is) = (least ≤ i.classes_before) × AreInOrder i.classes_before is

-- classes

-- The method of this place has the name, the result and the parameters that an interface declares.
abbrev pub ImplementsDeclared : List Function → Signature → ℕ → Type 0
ImplementsDeclared methods declared place = (f : Function) × (slice_get methods place ≡ Some f)
    × (signature_of f ≡ declared)

-- A class has a method for each of an interface that it lists.
abbrev pub IsImplementation : ModuleSignatures → List Function → Implementation → Type 0
IsImplementation s methods i =
    (declared : List Signature) × (slice_get s.interfaces i.interface ≡ Some declared)
    × AllZip (ImplementsDeclared methods) declared i.methods

pub record IsSoundConstructor (env : TypedEnvironment) (class : List ℕ) (f : Function) : Type 0 where
  pub named : f.name ≡ class
  pub gives_nothing : f.result ≡ None
  pub function : IsSoundFunction env f

-- The class of this place has at most `max_class_members` fields and methods, and its fields are initialized where
-- there are no locals.
pub record IsSoundClass (s : ModuleSignatures) (place : ℕ) (c : Class) : Type 0 where
  pub few : length c.fields + length c.methods ≤ max_class_members
  pub interfaces : AllByRecursion (IsImplementation s c.methods) c.interfaces
  pub fields : AllByRecursion (IsInitialized (inside s place)) c.fields
  pub constructor : IfSome c.constructor (IsSoundConstructor (inside s place) c.name)
  pub methods : AllByRecursion (IsSoundFunction (inside s place)) c.methods

-- These are classes, of which the first has this place.
abbrev pub AreSoundClasses : ModuleSignatures → ℕ → List Class → Type 0
AreSoundClasses s place [] = Unit {0}
AreSoundClasses s place (c ∷ cs) = IsSoundClass s place c × AreSoundClasses s (place + 1) cs

-- modules

abbrev pub AreSoundVariables : TypedEnvironment → Variables → Type 0
AreSoundVariables env v = AllByRecursion (IsInitialized env) v.values

abbrev pub name_of_function : Function → List ℕ
name_of_function f = f.name

abbrev pub name_of_variable : Initialization → List ℕ
name_of_variable v = v.name

abbrev pub names_of_globals : List Variables → List (List ℕ)
names_of_globals [] = []
names_of_globals (v ∷ vs) = map name_of_variable v.values ++ names_of_globals vs

-- A module where a host offers this has at most `max_module_types` classes and interfaces, and `max_globals` variables;
-- its functions differ in name, and so do its variables.
pub record IsSound (host : HostSignatures) (m : Module) : Type 0 where
  pub few_types : length m.classes + length m.interfaces ≤ max_module_types
  pub few_globals : length (signatures_of host m).globals ≤ max_globals
  pub functions_differ : IsDistinct bytes_eq (map name_of_function m.functions)
  pub globals_differ : IsDistinct bytes_eq (names_of_globals m.globals)
  pub interfaces : AllByRecursion (IsSoundInterface (signatures_of host m) (length m.classes)) m.interfaces
  pub interfaces_in_order : AreInOrder 0 m.interfaces
  pub classes : AreSoundClasses (signatures_of host m) 0 m.classes
  pub functions : AllByRecursion (IsSoundFunction (outside (signatures_of host m))) m.functions
  pub globals : AllByRecursion (AreSoundVariables (outside (signatures_of host m))) m.globals
