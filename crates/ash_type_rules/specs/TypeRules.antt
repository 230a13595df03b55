-- Types (AngelScript manual, "Data types" and "Conversions").
use Rattle.std.specs.Prelude.{ℕ, ◌^◌, Bool, true, false, ◌||◌, not, Option, Some, None, nat_eq, nat_lt, if◌then◌else◌}
use Rattle.ash_tree.specs.declared.tree.types.Primitive.{Primitive}
use Rattle.ash_tree.specs.declared.tree.types.Primitive.TheVariants as primitives
use Rattle.ash_tree.specs.declared.tree.operators.BinaryOp.{BinaryOp}
use Rattle.ash_tree.specs.declared.tree.operators.BinaryOp.TheVariants as binary
use Rattle.ash_integers.specs.declared.int_type.IntType.{IntType}
use Rattle.ash_integers.specs.declared.int_type.IntType.TheVariants.{Int, Uint, Int64, Uint64}
use Rattle.ash_typed.specs.declared.types.ObjectType.{ObjectType}
use Rattle.ash_typed.specs.declared.types.Element.{Element}
use Rattle.ash_typed.specs.declared.types.Element.TheVariants as elements
use Rattle.ash_typed.specs.declared.types.ObjectType.TheVariants.{Class, Interface, Host, Array}
use Rattle.ash_typed.specs.declared.types.VarType.{VarType}
use Rattle.ash_typed.specs.declared.types.VarType.TheVariants as vars
use Rattle.ash_type_rules.specs.declared.types.Ty.{Ty}
use Rattle.ash_type_rules.specs.declared.types.Ty.TheVariants as ty
use Rattle.ash_type_rules.specs.declared.forms.OperatorClass.{OperatorClass}
use Rattle.ash_type_rules.specs.declared.forms.OperatorClass.TheVariants as operator_class
use Rattle.ash_typed.specs.declared.tree.operations.Calculator.{Calculator}
use Rattle.ash_typed.specs.declared.tree.operations.Calculator.TheVariants as calculators
use Rattle.ash_typed.specs.declared.tree.operations.Comparator.TheVariants as comparators
use Rattle.ash_typed.specs.declared.tree.operations.Lazy.TheVariants as lazies
use Rattle.ash_type_rules.specs.declared.forms.Operator.{Operator}
use Rattle.ash_type_rules.specs.declared.forms.Operator.TheVariants as operators
use Rattle.ash_typed.specs.declared.tree.operations.Operands.{Operands}
use Rattle.ash_typed.specs.declared.tree.operations.Operands.TheVariants as operands
use Rattle.ash_typed.specs.TypeOf.{ValueType, no_value, null_value, value, as_value}

-- integer types

abbrev pub is_signed : IntType → Bool
is_signed Int = true
is_signed Uint = false
is_signed Int64 = true
is_signed Uint64 = false

abbrev pub is_wide : IntType → Bool
is_wide Int = false
is_wide Uint = false
is_wide Int64 = true
is_wide Uint64 = true

-- `integer_type_of signed wide` is the integer type with a sign or without, of 64 bits or of 32.
abbrev pub integer_type_of : (signed wide : Bool) → IntType
integer_type_of true false = Int
integer_type_of false false = Uint
integer_type_of true true = Int64
integer_type_of false true = Uint64

-- `common_integer_type j k` is the type to which operands of two integer types are converted: of the greater width, and
-- signed where either is.
abbrev pub common_integer_type : IntType → IntType → IntType
common_integer_type j k = integer_type_of (is_signed j || is_signed k) (is_wide j || is_wide k)

-- `signed k` is the signed type of the same width.
abbrev pub signed : IntType → IntType
signed k = integer_type_of true (is_wide k)

abbrev pub is_same_integer_type : IntType → IntType → Bool
is_same_integer_type Int Int = true
is_same_integer_type Uint Uint = true
is_same_integer_type Int64 Int64 = true
is_same_integer_type Uint64 Uint64 = true
is_same_integer_type _ _ = false

-- The type holds a number that is not negative.
abbrev pub holds : IntType → ℕ → Bool
holds Int n = nat_lt n (2 ^ 31)
holds Uint n = nat_lt n (2 ^ 32)
holds Int64 n = nat_lt n (2 ^ 63)
holds Uint64 n = true

-- `number_type n` is the type of a number by itself: the first that holds it.
abbrev pub number_type : ℕ → IntType
number_type n = if holds Int n then Int else (if holds Uint n then Uint else (if holds Int64 n then Int64 else Uint64))

-- objects

abbrev pub is_same_element : Element → Element → Bool
is_same_element elements.Bool elements.Bool = true
is_same_element (elements.Integer j) (elements.Integer k) = is_same_integer_type j k
is_same_element (elements.Class a) (elements.Class b) = nat_eq a b
is_same_element (elements.Interface a) (elements.Interface b) = nat_eq a b
is_same_element (elements.Host a) (elements.Host b) = nat_eq a b
is_same_element _ _ = false

abbrev pub is_same_object : ObjectType → ObjectType → Bool
is_same_object (Class a) (Class b) = nat_eq a b
is_same_object (Interface a) (Interface b) = nat_eq a b
is_same_object (Host a) (Host b) = nat_eq a b
is_same_object (Array e) (Array f) = is_same_element e f
is_same_object _ _ = false

abbrev pub is_interface : ObjectType → Bool
is_interface (Interface i) = true
is_interface _ = false

-- Objects of two types can be compared: they are of one type, or one is an interface.
abbrev pub is_comparable : ObjectType → ObjectType → Bool
is_comparable o p = is_same_object o p || (is_interface o || is_interface p)

-- `object_of of` is the type of the objects that an expression of a type gives.
abbrev pub object_of : Ty → Option ObjectType
object_of (ty.Object o) = Some o
object_of (ty.Handle o) = Some o
object_of _ = None

-- types of variables

-- Variables may be of this type: none is itself an object of an interface, but handles may refer to one.
abbrev pub is_variable : Ty → Bool
is_variable ty.Bool = true
is_variable (ty.Integer k) = true
is_variable (ty.Object o) = not (is_interface o)
is_variable (ty.Handle o) = true
is_variable _ = false

-- The type is the same as another, as far as both are known.
abbrev pub is_same : Ty → Ty → Bool
is_same ty.Unknown _ = true
is_same _ ty.Unknown = true
is_same ty.Bool ty.Bool = true
is_same (ty.Integer j) (ty.Integer k) = is_same_integer_type j k
is_same (ty.Object o) (ty.Object p) = is_same_object o p
is_same (ty.Handle o) (ty.Handle p) = is_same_object o p
is_same ty.Null ty.Null = true
is_same ty.Void ty.Void = true
is_same _ _ = false

-- `ty_of_element of` is the type of an array's elements.
abbrev pub ty_of_element : Element → Ty
ty_of_element elements.Bool = ty.Bool
ty_of_element (elements.Integer k) = ty.Integer k
ty_of_element (elements.Class c) = ty.Handle (Class c)
ty_of_element (elements.Interface i) = ty.Handle (Interface i)
ty_of_element (elements.Host kind) = ty.Handle (Host kind)

-- Functions may give this type.
abbrev pub is_result : Ty → Bool
is_result ty.Void = true
is_result of = is_variable of

-- The type of a variable, as a typed tree says it. A type that is not one of a variable gives `bool`: no tree that is
-- answered has it.
abbrev pub var_type : Ty → VarType
var_type ty.Bool = vars.Bool
var_type (ty.Integer k) = vars.Integer k
var_type (ty.Object o) = vars.Object o
var_type (ty.Handle o) = vars.Handle o
var_type _ = vars.Bool

-- `result_type of` is what a function gives, as a typed tree says it: `void` gives no value.
abbrev pub result_type : Ty → Option VarType
result_type ty.Void = None
result_type of = Some (var_type of)

abbrev pub ty_of_var : VarType → Ty
ty_of_var vars.Bool = ty.Bool
ty_of_var (vars.Integer k) = ty.Integer k
ty_of_var (vars.Object o) = ty.Object o
ty_of_var (vars.Handle o) = ty.Handle o

-- What an expression of a type gives: no value, null, or a value of a type of variables; an object is given by its
-- handle.
abbrev pub value_type : Ty → ValueType
value_type ty.Void = no_value
value_type ty.Null = null_value
value_type of = value (as_value (var_type of))

-- types that are written

abbrev pub ty_of : Primitive → Ty
ty_of primitives.Bool = ty.Bool
ty_of primitives.Int = ty.Integer Int
ty_of primitives.Int64 = ty.Integer Int64
ty_of primitives.Uint = ty.Integer Uint
ty_of primitives.Uint64 = ty.Integer Uint64

-- An expression gives an object that can be compared with one of a type.
abbrev pub agrees_object : ObjectType → Ty → Bool
agrees_object o (ty.Object p) = is_comparable o p
agrees_object o (ty.Handle p) = is_comparable o p
agrees_object o ty.Null = true
agrees_object o ty.Unknown = true
agrees_object _ _ = false

-- Two types are of objects that can be one.
abbrev pub agrees : Ty → Ty → Bool
agrees (ty.Object o) t = agrees_object o t
agrees (ty.Handle o) t = agrees_object o t
agrees ty.Null (ty.Object _) = true
agrees ty.Null (ty.Handle _) = true
agrees ty.Null ty.Null = true
agrees ty.Null ty.Unknown = true
agrees ty.Unknown (ty.Object _) = true
agrees ty.Unknown (ty.Handle _) = true
agrees ty.Unknown ty.Null = true
agrees ty.Unknown ty.Unknown = true
agrees _ _ = false

-- An expression of a type gives an object of this one, or null.
abbrev pub gives_object : ObjectType → Ty → Bool
gives_object o (ty.Object p) = is_same_object o p
gives_object o (ty.Handle p) = is_same_object o p
gives_object o ty.Null = true
gives_object o ty.Unknown = true
gives_object _ _ = false

-- `common_object o t` is the type of `c ? a : b`, from those of its branches.
abbrev pub common_object : ObjectType → Ty → Option Ty
common_object o t = if gives_object o t then Some (ty.Handle o) else None

abbrev pub common : Ty → Ty → Option Ty
common ty.Bool ty.Bool = Some ty.Bool
common ty.Bool ty.Unknown = Some ty.Bool
common (ty.Integer j) (ty.Integer k) = Some (ty.Integer (common_integer_type j k))
common (ty.Integer j) ty.Unknown = Some (ty.Integer j)
common (ty.Object o) t = common_object o t
common (ty.Handle o) t = common_object o t
common ty.Null (ty.Object o) = Some (ty.Handle o)
common ty.Null (ty.Handle o) = Some (ty.Handle o)
common ty.Null ty.Unknown = Some ty.Unknown
common ty.Unknown ty.Void = None
common ty.Unknown t = Some t
common _ _ = None

-- operators

-- `operator_class_of op` is the class of an operator between two operands.
abbrev pub operator_class_of : BinaryOp → OperatorClass
operator_class_of binary.Multiply = operator_class.Arithmetic
operator_class_of binary.Divide = operator_class.Arithmetic
operator_class_of binary.Remainder = operator_class.Arithmetic
operator_class_of binary.Add = operator_class.Arithmetic
operator_class_of binary.Subtract = operator_class.Arithmetic
operator_class_of binary.ShiftLeft = operator_class.Shift
operator_class_of binary.ShiftRight = operator_class.Shift
operator_class_of binary.ShiftRightArithmetic = operator_class.Shift
operator_class_of binary.BitAnd = operator_class.Arithmetic
operator_class_of binary.BitXor = operator_class.Arithmetic
operator_class_of binary.BitOr = operator_class.Arithmetic
operator_class_of binary.Less = operator_class.Order
operator_class_of binary.LessOrEqual = operator_class.Order
operator_class_of binary.Greater = operator_class.Order
operator_class_of binary.GreaterOrEqual = operator_class.Order
operator_class_of binary.Equal = operator_class.Equality
operator_class_of binary.NotEqual = operator_class.Equality
operator_class_of binary.Is = operator_class.Identity
operator_class_of binary.NotIs = operator_class.Identity
operator_class_of binary.Xor = operator_class.Logic
operator_class_of binary.And = operator_class.Logic
operator_class_of binary.Or = operator_class.Logic

-- `typed_operator op` is what an operator is in a typed tree.
abbrev pub typed_operator : BinaryOp → Operator
typed_operator binary.Multiply = operators.Calculate calculators.Multiply
typed_operator binary.Divide = operators.Calculate calculators.Divide
typed_operator binary.Remainder = operators.Calculate calculators.Remainder
typed_operator binary.Add = operators.Calculate calculators.Add
typed_operator binary.Subtract = operators.Calculate calculators.Subtract
typed_operator binary.ShiftLeft = operators.Calculate calculators.ShiftLeft
typed_operator binary.ShiftRight = operators.Calculate calculators.ShiftRight
typed_operator binary.ShiftRightArithmetic = operators.Calculate calculators.ShiftRightArithmetic
typed_operator binary.BitAnd = operators.Calculate calculators.BitAnd
typed_operator binary.BitXor = operators.Calculate calculators.BitXor
typed_operator binary.BitOr = operators.Calculate calculators.BitOr
typed_operator binary.Less = operators.Compare comparators.Less
typed_operator binary.LessOrEqual = operators.Compare comparators.LessOrEqual
typed_operator binary.Greater = operators.Compare comparators.Greater
typed_operator binary.GreaterOrEqual = operators.Compare comparators.GreaterOrEqual
typed_operator binary.Equal = operators.Compare comparators.Equal
typed_operator binary.NotEqual = operators.Compare comparators.NotEqual
typed_operator binary.Is = operators.Compare comparators.Is
typed_operator binary.NotIs = operators.Compare comparators.NotIs
typed_operator binary.Xor = operators.Compare comparators.Xor
typed_operator binary.And = operators.Lazy lazies.And
typed_operator binary.Or = operators.Lazy lazies.Or

-- `binary_of c` is the operator that calculates so.
abbrev pub binary_of : Calculator → BinaryOp
binary_of calculators.Multiply = binary.Multiply
binary_of calculators.Divide = binary.Divide
binary_of calculators.Remainder = binary.Remainder
binary_of calculators.Add = binary.Add
binary_of calculators.Subtract = binary.Subtract
binary_of calculators.ShiftLeft = binary.ShiftLeft
binary_of calculators.ShiftRight = binary.ShiftRight
binary_of calculators.ShiftRightArithmetic = binary.ShiftRightArithmetic
binary_of calculators.BitAnd = binary.BitAnd
binary_of calculators.BitXor = binary.BitXor
binary_of calculators.BitOr = binary.BitOr

-- `integers_in o` is the integer type of operands, where they are integers.
abbrev pub integers_in : Operands → IntType
integers_in (operands.Integers k) = k
integers_in _ = Int

-- An operator takes a type anywhere.
abbrev pub takes : OperatorClass → Ty → Bool
takes _ ty.Unknown = true
takes operator_class.Arithmetic (ty.Integer _) = true
takes operator_class.Shift (ty.Integer _) = true
takes operator_class.Order (ty.Integer _) = true
takes operator_class.Equality (ty.Integer _) = true
takes operator_class.Equality ty.Bool = true
takes operator_class.Identity (ty.Object _) = true
takes operator_class.Identity (ty.Handle _) = true
takes operator_class.Identity ty.Null = true
takes operator_class.Logic ty.Bool = true
takes _ _ = false

-- `assumed_type s other of` is what an operand of an unknown type is taken for, where the other is of another type.
abbrev pub assumed_type : OperatorClass → Ty → Ty → Ty
assumed_type operator_class.Equality ty.Bool ty.Unknown = ty.Bool
assumed_type operator_class.Identity _ ty.Unknown = ty.Null
assumed_type operator_class.Logic _ ty.Unknown = ty.Bool
assumed_type _ _ ty.Unknown = ty.Integer Int
assumed_type _ _ t = t

-- `common_operands s t u` is what an operator takes operands of these types for, where it takes them: what both become.
abbrev pub common_operands : OperatorClass → Ty → Ty → Option Operands
common_operands operator_class.Arithmetic (ty.Integer j) (ty.Integer k) =
    Some (operands.Integers (common_integer_type j k))
common_operands operator_class.Shift (ty.Integer j) (ty.Integer k) = Some (operands.Integers j)
common_operands operator_class.Order (ty.Integer j) (ty.Integer k) = Some (operands.Integers (common_integer_type j k))
common_operands operator_class.Equality (ty.Integer j) (ty.Integer k) =
    Some (operands.Integers (common_integer_type j k))
common_operands operator_class.Equality ty.Bool ty.Bool = Some operands.Bools
common_operands operator_class.Identity a b = if agrees a b then Some operands.Handles else None
common_operands operator_class.Logic ty.Bool ty.Bool = Some operands.Bools
common_operands _ _ _ = None

abbrev pub operator_result : OperatorClass → Operands → Ty
operator_result operator_class.Arithmetic (operands.Integers k) = ty.Integer k
operator_result operator_class.Shift (operands.Integers k) = ty.Integer k
operator_result _ _ = ty.Bool
