-- These definitions say what a typed expression gives, which its tree alone says.
use Rattle.std.specs.Prelude.{Option, Some, None}
use Rattle.ash_integers.specs.declared.int_type.IntType.TheVariants as ints
use Rattle.ash_typed.specs.declared.types.Element.{Element}
use Rattle.ash_typed.specs.declared.types.Element.TheVariants as elements
use Rattle.ash_typed.specs.declared.types.ObjectType.TheVariants as objects
use Rattle.ash_typed.specs.declared.types.VarType.{VarType}
use Rattle.ash_typed.specs.declared.types.VarType.TheVariants as vars
use Rattle.ash_typed.specs.declared.tree.operations.Variable.{Variable}
use Rattle.ash_typed.specs.declared.tree.operations.Variable.TheVariants as variables
use Rattle.ash_typed.specs.declared.tree.operations.ObjectMember.{ObjectMember}
use Rattle.ash_typed.specs.declared.tree.operations.ObjectMember.TheVariants as members
use Rattle.ash_typed.specs.declared.tree.operations.Method.{Method}
use Rattle.ash_typed.specs.declared.tree.operations.Method.TheVariants as methods
use Rattle.ash_typed.specs.declared.tree.operations.ArrayMethod.{ArrayMethod}
use Rattle.ash_typed.specs.declared.tree.operations.ArrayMethod.TheVariants as arrays
use Rattle.ash_typed.specs.declared.tree.operations.CallTarget.{CallTarget}
use Rattle.ash_typed.specs.declared.tree.operations.CallTarget.TheVariants as targets
use Rattle.ash_typed.specs.declared.tree.operations.Operation.{Operation}
use Rattle.ash_typed.specs.declared.tree.operations.Operation.TheVariants as operations
use Rattle.ash_typed.specs.declared.tree.operations.Change.{Change}
use Rattle.ash_typed.specs.declared.tree.operations.Change.TheVariants as changes
use Rattle.ash_typed.specs.TypedTree.{Expr, Number, Truth, Null, This, Read, Invoke, Convert, Cast, Alter, Operate}
use Rattle.ash_typed.specs.TypedTree.{Lazily}
use Rattle.ash_typed.specs.TypedTree.{Conditional, Assign, Update, Count, Call, Place, Stored, Held, Indexed}

abbrev pub type_of_variable : Variable → VarType
type_of_variable (variables.Local slot of) = of
type_of_variable (variables.Global place of) = of

abbrev pub type_of_member : ObjectMember → VarType
type_of_member (members.Field class place of) = of
type_of_member (members.Property id of) = of

abbrev pub type_of_element : Element → VarType
type_of_element elements.Bool = vars.Bool
type_of_element (elements.Integer int_type) = vars.Integer int_type
type_of_element (elements.Class class) = vars.Handle (objects.Class class)
type_of_element (elements.Interface interface) = vars.Handle (objects.Interface interface)
type_of_element (elements.Host kind) = vars.Handle (objects.Host kind)

abbrev pub type_of_place : Place → VarType
type_of_place (Stored variable) = type_of_variable variable
type_of_place (Held object member) = type_of_member member
type_of_place (Indexed array index of) = type_of_element of

-- `result_of_array_method method` is what a method of arrays gives.
abbrev pub result_of_array_method : ArrayMethod → Option VarType
result_of_array_method arrays.Length = Some (vars.Integer ints.Uint)
result_of_array_method arrays.Resize = None
result_of_array_method arrays.InsertLast = None
result_of_array_method arrays.RemoveLast = None
result_of_array_method arrays.IsEmpty = Some vars.Bool

-- `result_of_method method` is what a method gives.
abbrev pub result_of_method : Method → Option VarType
result_of_method (methods.Script class method result) = result
result_of_method (methods.Interface interface method result) = result
result_of_method (methods.Host id result) = result
result_of_method (methods.Array method) = result_of_array_method method

-- `result_of_target target` is what a call gives: a construction gives a handle.
abbrev pub result_of_target : CallTarget → Option VarType
result_of_target (targets.Function function result) = result
result_of_target (targets.Service service id result) = result
result_of_target (targets.Class class) = Some (vars.Handle (objects.Class class))
result_of_target (targets.Host kind) = Some (vars.Handle (objects.Host kind))
result_of_target (targets.Array of) = Some (vars.Handle (objects.Array of))

-- An operation gives an integer of the type that is calculated with, or a truth value.
abbrev pub result_of_operation : Operation → VarType
result_of_operation (operations.Calculate calculation) = vars.Integer calculation.of
result_of_operation (operations.Compare operator operands) = vars.Bool

-- An expression gives nothing, null, or a value of a type.
pub data ValueType : Type 0 where
  no_value : ValueType
  null_value : ValueType
  value : VarType → ValueType

-- `as_value of` is the type of what is given of a type: an object is given by its handle.
abbrev pub as_value : VarType → VarType
as_value (vars.Object o) = vars.Handle o
as_value of = of

-- `value_of_result result` is what a function gives.
abbrev pub value_of_result : Option VarType → ValueType
value_of_result None = no_value
value_of_result (Some of) = value (as_value of)

abbrev pub altered_type : Change → VarType
altered_type (changes.Negate int_type) = vars.Integer int_type
altered_type (changes.Complement int_type) = vars.Integer int_type
altered_type changes.Not = vars.Bool

-- `chosen_type t u` is what `c ? a : b` gives, by its branches, which are of one type: one may be null.
abbrev pub chosen_type : ValueType → ValueType → ValueType
chosen_type null_value of = of
chosen_type of other = of

abbrev pub type_of : Expr → ValueType
type_of (Number int_type n) = value (vars.Integer int_type)
type_of (Truth b) = value vars.Bool
type_of Null = null_value
type_of (This class) = value (vars.Handle (objects.Class class))
type_of (Read place) = value (as_value (type_of_place place))
type_of (Invoke object method parameters es) = value_of_result (result_of_method method)
type_of (Convert conversion e) = value (vars.Integer conversion.to)
type_of (Cast to e) = value (vars.Handle to)
type_of (Alter change e) = value (altered_type change)
type_of (Operate operation a b) = value (result_of_operation operation)
type_of (Lazily operator a b) = value vars.Bool
type_of (Conditional c a b) = chosen_type (type_of a) (type_of b)
type_of (Assign place e) = value (as_value (type_of_place place))
type_of (Update place int_type calculation e) = value (vars.Integer int_type)
type_of (Count place int_type step) = value (vars.Integer int_type)
type_of (Call target parameters es) = value_of_result (result_of_target target)
