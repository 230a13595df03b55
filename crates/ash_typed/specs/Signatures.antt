-- These definitions say what the items of a module see of one another, and what the host offers them: their types
-- alone, and no body.
use Rattle.std.specs.Prelude.{◌≡◌, ◌<◌, ℕ, length, List, [], ◌++◌, ◌∷◌, Option, Some, None, map, slice_get}
use Rattle.std.specs.List.{Contains}
use Rattle.ash_tree.specs.declared.tree.types.Primitive.{Primitive}
use Rattle.ash_tree.specs.declared.tree.types.Primitive.TheVariants as primitives
use Rattle.ash_integers.specs.declared.int_type.IntType.{IntType}
use Rattle.ash_integers.specs.declared.int_type.IntType.TheVariants as ints
use Rattle.ash_typed.specs.declared.types.Element.{Element}
use Rattle.ash_typed.specs.declared.types.Element.TheVariants as elements
use Rattle.ash_typed.specs.declared.types.ObjectType.{ObjectType}
use Rattle.ash_typed.specs.declared.types.ObjectType.TheVariants as objects
use Rattle.ash_typed.specs.declared.types.VarType.{VarType}
use Rattle.ash_typed.specs.declared.types.VarType.TheVariants as vars
use Rattle.ash_typed.specs.StatementTree.{Initialization}
use Rattle.ash_typed.specs.Modules.{Variables, Function, Signature, Interface, Implementation, Class, Module}
use Rattle.ash_typed.specs.TypeOf.{ValueType, null_value, value}

-- what the host offers, by its numbers

-- What is called of the host takes and gives primitives.
pub record HostSignature : Type 0 where
  pub result : Option Primitive
  pub parameters : List Primitive

-- The host has kinds of objects, what a kind is constructed of, the methods and properties that a kind has by a number,
-- and the functions that a service has by a number.
pub record HostSignatures : Type 0 where
  pub kinds : List ℕ
  pub factories : ℕ → List (List Primitive)
  pub methods : ℕ → ℕ → List HostSignature
  pub properties : ℕ → ℕ → List Primitive
  pub functions : ℕ → ℕ → List HostSignature

abbrev pub type_of_primitive : Primitive → VarType
type_of_primitive primitives.Bool = vars.Bool
type_of_primitive primitives.Int = vars.Integer ints.Int
type_of_primitive primitives.Int64 = vars.Integer ints.Int64
type_of_primitive primitives.Uint = vars.Integer ints.Uint
type_of_primitive primitives.Uint64 = vars.Integer ints.Uint64

-- what a module declares

-- A class has the interfaces that it lists, the types of its fields, the parameters of its construction, and its
-- methods.
pub record ClassTypes : Type 0 where
  pub interfaces : List ℕ
  pub fields : List VarType
  pub parameters : List VarType
  pub methods : List Signature

-- A module has each interface by its methods, and everything by its place.
pub record ModuleSignatures : Type 0 where
  pub host : HostSignatures
  pub interfaces : List (List Signature)
  pub classes : List ClassTypes
  pub functions : List Signature
  pub globals : List VarType

abbrev pub type_declared : Initialization → VarType
type_declared v = v.of

abbrev pub signature_of : Function → Signature
signature_of f = record { name = f.name; result = f.result; parameters = f.parameters }

abbrev pub place_of_interface : Implementation → ℕ
place_of_interface i = i.interface

-- A construction takes nothing where no constructor is written.
abbrev pub parameters_of : Option Function → List VarType
parameters_of None = []
parameters_of (Some f) = f.parameters

abbrev pub signature_of_class : Class → ClassTypes
signature_of_class c = record {
  interfaces = map place_of_interface c.interfaces;
  fields = map type_declared c.fields;
  parameters = parameters_of c.constructor;
  methods = map signature_of c.methods;
}

abbrev pub methods_of_interface : Interface → List Signature
methods_of_interface i = i.methods

abbrev pub types_of_globals : List Variables → List VarType
types_of_globals [] = []
types_of_globals (v ∷ vs) = map type_declared v.values ++ types_of_globals vs

-- `signatures_of host m` is what the items of a module see.
abbrev pub signatures_of : HostSignatures → Module → ModuleSignatures
signatures_of host m = record {
  host = host;
  interfaces = map methods_of_interface m.interfaces;
  classes = map signature_of_class m.classes;
  functions = map signature_of m.functions;
  globals = types_of_globals m.globals;
}

-- types whose places are in range

pub data IsElementType (s : ModuleSignatures) : Element → Type 0 where
  truths : IsElementType s elements.Bool
  integers : {int_type : IntType} → IsElementType s (elements.Integer int_type)
  of_class : {class : ℕ} → class < length s.classes → IsElementType s (elements.Class class)
  of_interface : {interface : ℕ} → interface < length s.interfaces → IsElementType s (elements.Interface interface)
  of_host : {kind : ℕ} → Contains s.host.kinds kind → IsElementType s (elements.Host kind)

pub data IsObjectType (s : ModuleSignatures) : ObjectType → Type 0 where
  class : {class : ℕ} → class < length s.classes → IsObjectType s (objects.Class class)
  interface : {interface : ℕ} → interface < length s.interfaces → IsObjectType s (objects.Interface interface)
  host : {kind : ℕ} → Contains s.host.kinds kind → IsObjectType s (objects.Host kind)
  array : {of : Element} → IsElementType s of → IsObjectType s (objects.Array of)

abbrev pub IsNoInterface : ObjectType → Type 0
IsNoInterface (objects.Interface _) = ⊥
IsNoInterface _ = Unit {0}

-- A variable may be of this type: none has an object of an interface.
pub data IsTypeInModule (s : ModuleSignatures) : VarType → Type 0 where
  truth : IsTypeInModule s vars.Bool
  integer : {int_type : IntType} → IsTypeInModule s (vars.Integer int_type)
  object : {o : ObjectType} → IsObjectType s o → IsNoInterface o → IsTypeInModule s (vars.Object o)
  handle : {o : ObjectType} → IsObjectType s o → IsTypeInModule s (vars.Handle o)

-- A parameter or a result may be of this type: objects are passed by handles.
pub data IsPassedType (s : ModuleSignatures) : VarType → Type 0 where
  passed_truth : IsPassedType s vars.Bool
  passed_integer : {int_type : IntType} → IsPassedType s (vars.Integer int_type)
  passed_handle : {o : ObjectType} → IsObjectType s o → IsPassedType s (vars.Handle o)

abbrev pub IsResultInModule : ModuleSignatures → Option VarType → Type 0
IsResultInModule s None = Unit {0}
IsResultInModule s (Some of) = IsPassedType s of

-- A value of the first type may be where one of the second is awaited: null where there may be any object, and an
-- object of a class where there is one of an interface that it lists.
pub data IsSubtype (s : ModuleSignatures) : ValueType → ValueType → Type 0 where
  same : {of : ValueType} → IsSubtype s of of
  null : {o : ObjectType} → IsSubtype s null_value (value (vars.Handle o))
  listed : {class interface : ℕ} {c : ClassTypes}
      → slice_get s.classes class ≡ Some c
      → Contains c.interfaces interface
      → IsSubtype s (value (vars.Handle (objects.Class class))) (value (vars.Handle (objects.Interface interface)))
