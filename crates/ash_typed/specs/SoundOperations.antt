-- What the nodes of sound expressions name, by the typed tree alone: members and methods of an object, what is called,
-- and operators with what they take. One case for each.
use Rattle.std.specs.Prelude.{◌≡◌, ◌<◌, ◌^◌, ℕ, List, [], ◌∷◌, Option, Some, map, option_map, slice_get}
use Rattle.std.specs.List.{Contains}
use Rattle.ash_tree.specs.declared.tree.types.Primitive.{Primitive}
use Rattle.ash_integers.specs.declared.int_type.IntType.{IntType}
use Rattle.ash_integers.specs.declared.int_type.IntType.TheVariants as ints
use Rattle.ash_typed.specs.declared.types.Element.{Element}
use Rattle.ash_typed.specs.declared.types.ObjectType.{ObjectType}
use Rattle.ash_typed.specs.declared.types.ObjectType.TheVariants as objects
use Rattle.ash_typed.specs.declared.types.VarType.{VarType}
use Rattle.ash_typed.specs.declared.types.VarType.TheVariants as vars
use Rattle.ash_typed.specs.declared.tree.operations.ObjectMember.{ObjectMember}
use Rattle.ash_typed.specs.declared.tree.operations.ObjectMember.TheVariants as members
use Rattle.ash_typed.specs.declared.tree.operations.Method.{Method}
use Rattle.ash_typed.specs.declared.tree.operations.Method.TheVariants as methods
use Rattle.ash_typed.specs.declared.tree.operations.ArrayMethod.{ArrayMethod}
use Rattle.ash_typed.specs.declared.tree.operations.ArrayMethod.TheVariants as arrays
use Rattle.ash_typed.specs.declared.tree.operations.CallTarget.{CallTarget}
use Rattle.ash_typed.specs.declared.tree.operations.CallTarget.TheVariants as targets
use Rattle.ash_typed.specs.declared.tree.operations.Calculator.{Calculator}
use Rattle.ash_typed.specs.declared.tree.operations.Calculator.TheVariants as calculators
use Rattle.ash_typed.specs.declared.tree.operations.Comparator.{Comparator}
use Rattle.ash_typed.specs.declared.tree.operations.Comparator.TheVariants as comparators
use Rattle.ash_typed.specs.declared.tree.operations.Operands.{Operands}
use Rattle.ash_typed.specs.declared.tree.operations.Operands.TheVariants as operands
use Rattle.ash_typed.specs.declared.tree.operations.Change.{Change}
use Rattle.ash_typed.specs.declared.tree.operations.Change.TheVariants as changes
use Rattle.ash_typed.specs.TypeOf.{ValueType, null_value, value, type_of_element, result_of_array_method}
use Rattle.ash_typed.specs.Modules.{Signature}
use Rattle.ash_typed.specs.Signatures.{HostSignature, type_of_primitive, ClassTypes, ModuleSignatures, IsElementType}
use Rattle.ash_typed.specs.Signatures.{IsObjectType}

-- The type holds this number, which is not negative: each number of a tree has 64 bits.
abbrev pub IsWithin : IntType → ℕ → Type 0
IsWithin ints.Int n = n < 2 ^ 31
IsWithin ints.Uint n = n < 2 ^ 32
IsWithin ints.Int64 n = n < 2 ^ 63
IsWithin ints.Uint64 n = Unit {0}

-- members and methods

-- An object of the type holds what the member names, of this type.
pub data IsSoundMember (s : ModuleSignatures) : ObjectType → ObjectMember → VarType → Type 0 where
  field : {class place : ℕ} {of : VarType} {c : ClassTypes}
      → slice_get s.classes class ≡ Some c
      → slice_get c.fields place ≡ Some of
      → IsSoundMember s (objects.Class class) (members.Field class place of) of
  property : {kind id : ℕ} {of : Primitive}
      → Contains (s.host.properties kind id) of
      → IsSoundMember s (objects.Host kind) (members.Property id (type_of_primitive of)) (type_of_primitive of)

-- `parameters_of_array_method of method` is what a method of arrays takes.
abbrev pub parameters_of_array_method : Element → ArrayMethod → List VarType
parameters_of_array_method of arrays.Length = []
parameters_of_array_method of arrays.Resize = vars.Integer ints.Uint ∷ []
parameters_of_array_method of arrays.InsertLast = type_of_element of ∷ []
parameters_of_array_method of arrays.RemoveLast = []
parameters_of_array_method of arrays.IsEmpty = []

-- An object of the type has the method, which takes these parameters and gives this.
pub data IsMethod (s : ModuleSignatures) : ObjectType → Method → List VarType → Option VarType → Type 0 where
  of_class : {class method : ℕ} {c : ClassTypes} {name : List ℕ} {result : Option VarType}
      {parameters : List VarType}
      → slice_get s.classes class ≡ Some c
      → slice_get c.methods method ≡ Some (record { name = name; result = result; parameters = parameters })
      → IsMethod s (objects.Class class) (methods.Script class method result) parameters result
  of_interface : {interface method : ℕ} {declared : List Signature} {name : List ℕ} {result : Option VarType}
      {parameters : List VarType}
      → slice_get s.interfaces interface ≡ Some declared
      → slice_get declared method ≡ Some (record { name = name; result = result; parameters = parameters })
      → IsMethod s (objects.Interface interface) (methods.Interface interface method result) parameters result
  of_host : {kind id : ℕ} {offered : HostSignature}
      → Contains (s.host.methods kind id) offered
      → IsMethod s (objects.Host kind) (methods.Host id (option_map type_of_primitive offered.result))
      (map type_of_primitive offered.parameters) (option_map type_of_primitive offered.result)
  of_array : {of : Element} {method : ArrayMethod}
      → IsMethod s (objects.Array of) (methods.Array method) (parameters_of_array_method of method)
      (result_of_array_method method)

-- What is called takes these parameters and gives this; a construction gives a handle.
pub data IsTarget (s : ModuleSignatures) : CallTarget → List VarType → Option VarType → Type 0 where
  function : {function : ℕ} {name : List ℕ} {result : Option VarType} {parameters : List VarType}
      → slice_get s.functions function ≡ Some (record { name = name; result = result; parameters = parameters })
      → IsTarget s (targets.Function function result) parameters result
  service : {service id : ℕ} {offered : HostSignature}
      → Contains (s.host.functions service id) offered
      → IsTarget s (targets.Service service id (option_map type_of_primitive offered.result))
      (map type_of_primitive offered.parameters) (option_map type_of_primitive offered.result)
  class : {class : ℕ} {c : ClassTypes}
      → slice_get s.classes class ≡ Some c
      → IsTarget s (targets.Class class) c.parameters (Some (vars.Handle (objects.Class class)))
  host : {kind : ℕ} {parameters : List Primitive}
      → Contains (s.host.factories kind) parameters
      → IsTarget s (targets.Host kind) (map type_of_primitive parameters) (Some (vars.Handle (objects.Host kind)))
  empty_array : {of : Element}
      → IsElementType s of
      → IsTarget s (targets.Array of) [] (Some (vars.Handle (objects.Array of)))
  sized_array : {of : Element}
      → IsElementType s of
      → IsTarget s (targets.Array of) (vars.Integer ints.Uint ∷ []) (Some (vars.Handle (objects.Array of)))

-- operators

-- The operator is a shift, whose count is of any integer type.
pub data IsShift : Calculator → Type 0 where
  left : IsShift calculators.ShiftLeft
  right : IsShift calculators.ShiftRight
  right_arithmetic : IsShift calculators.ShiftRightArithmetic

-- The operator compares two of these operands.
pub data Compares : Comparator → Operands → Type 0 where
  less : {int_type : IntType} → Compares comparators.Less (operands.Integers int_type)
  less_or_equal : {int_type : IntType} → Compares comparators.LessOrEqual (operands.Integers int_type)
  greater : {int_type : IntType} → Compares comparators.Greater (operands.Integers int_type)
  greater_or_equal : {int_type : IntType} → Compares comparators.GreaterOrEqual (operands.Integers int_type)
  equal : {int_type : IntType} → Compares comparators.Equal (operands.Integers int_type)
  not_equal : {int_type : IntType} → Compares comparators.NotEqual (operands.Integers int_type)
  same_truth : Compares comparators.Equal operands.Bools
  other_truth : Compares comparators.NotEqual operands.Bools
  xor : Compares comparators.Xor operands.Bools
  same_object : Compares comparators.Is operands.Handles
  other_object : Compares comparators.NotIs operands.Handles

-- Each of these operands gives this.
pub data IsOperand : Operands → ValueType → Type 0 where
  integer : {int_type : IntType} → IsOperand (operands.Integers int_type) (value (vars.Integer int_type))
  truth : IsOperand operands.Bools (value vars.Bool)
  object : {o : ObjectType} → IsOperand operands.Handles (value (vars.Handle o))
  no_object : IsOperand operands.Handles null_value

-- Minus gives a signed type.
pub data IsSigned : IntType → Type 0 where
  int : IsSigned ints.Int
  int64 : IsSigned ints.Int64

-- An operator before its operand takes the first type and gives the second.
pub data IsSoundChange : Change → VarType → Type 0 where
  negate : {int_type : IntType} → IsSigned int_type → IsSoundChange (changes.Negate int_type) (vars.Integer int_type)
  complement : {int_type : IntType} → IsSoundChange (changes.Complement int_type) (vars.Integer int_type)
  not : IsSoundChange changes.Not vars.Bool

-- An object is cast to a class or to an interface.
pub data IsSoundCast (s : ModuleSignatures) : ObjectType → Type 0 where
  to_class : {class : ℕ} → IsObjectType s (objects.Class class) → IsSoundCast s (objects.Class class)
  to_interface : {interface : ℕ} → IsObjectType s (objects.Interface interface)
      → IsSoundCast s (objects.Interface interface)

-- A place of the type is assigned to: it is one of primitives or of handles, since objects are not assigned.
pub data IsAssigned : VarType → Type 0 where
  truth : IsAssigned vars.Bool
  integer : {int_type : IntType} → IsAssigned (vars.Integer int_type)
  handle : {o : ObjectType} → IsAssigned (vars.Handle o)
