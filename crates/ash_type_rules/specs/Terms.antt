-- What an expression is typed as, and what its parts are in typed trees (AngelScript manual, "Expressions" and
-- "Conversions"), for the rules and for the walk alike.
use Rattle.std.specs.Prelude.{ℕ, List, [], ◌∷◌, Bool, true, false, Option, Some, None, nat_eq, if◌then◌else◌}
use Rattle.ash_tree.specs.declared.tree.operators.BinaryOp.{BinaryOp}
use Rattle.ash_tree.specs.declared.tree.operators.AssignOp.{AssignOp}
use Rattle.ash_tree.specs.declared.tree.operators.AssignOp.TheVariants as assigns
use Rattle.ash_integers.specs.declared.int_type.IntType.TheVariants as ints
use Rattle.ash_type_rules.specs.declared.types.Ty.{Ty}
use Rattle.ash_type_rules.specs.declared.types.Ty.TheVariants as ty
use Rattle.ash_type_rules.specs.declared.forms.OperatorClass.{OperatorClass}
use Rattle.ash_type_rules.specs.declared.forms.OperatorClass.TheVariants as operator_class
use Rattle.ash_type_rules.specs.declared.forms.Form.{Form}
use Rattle.ash_type_rules.specs.declared.forms.Form.TheVariants as form
use Rattle.ash_typed.specs.declared.tree.operations.Conversion.{Conversion}
use Rattle.ash_typed.specs.declared.tree.operations.Calculator.{Calculator}
use Rattle.ash_typed.specs.declared.tree.operations.Calculator.TheVariants as calculators
use Rattle.ash_typed.specs.declared.tree.operations.Operation.TheVariants as operations
use Rattle.ash_type_rules.specs.declared.forms.Operator.{Operator}
use Rattle.ash_type_rules.specs.declared.forms.Operator.TheVariants as operators
use Rattle.ash_typed.specs.declared.tree.operations.Method.TheVariants as methods
use Rattle.ash_type_rules.specs.declared.forms.Callable.{Callable}
use Rattle.ash_type_rules.specs.declared.forms.Callable.TheVariants as callables
use Rattle.ash_typed.specs.declared.tree.operations.Operands.{Operands}
use Rattle.ash_typed.specs.declared.tree.operations.Operands.TheVariants as operands
use Rattle.ash_typed.specs.declared.types.VarType.{VarType}
use Rattle.ash_type_rules.specs.TypeRules.{var_type, number_type, holds, is_same_integer_type, typed_operator, integers_in}
use Rattle.ash_typed.specs.TypedTree.{Expr, Number, This, Invoke, Operate, Lazily, Call, Place, Exprs, place_in}
use Rattle.ash_typed.specs.TypedTree.{converted}
use Rattle.ash_typed.specs.StatementTree.{Initialization}

-- terms

-- A term has what an expression is typed as, and what it is by itself.
pub record Term : Type 0 where
  pub ty : Ty
  pub form : Form
  pub tree : Expr

abbrev pub term : Ty → Expr → Term
term of tree = record { ty = of; form = form.Value; tree = tree }

-- What can be assigned is a place that its tree reads.
abbrev pub read_term : Ty → Expr → Term
read_term of tree = record { ty = of; form = form.Place; tree = tree }

-- A number has the first of the four integer types that holds it.
abbrev pub number_term : ℕ → Term
number_term n = record { ty = ty.Integer (number_type n); form = form.Number n; tree = Number (number_type n) n }

-- conversions

-- `conversion to from` is what a value of the second type becomes in the place of one of the first.
abbrev pub conversion : Ty → Ty → Option Conversion
conversion (ty.Integer k) (ty.Integer j) = if is_same_integer_type j k then None else Some (record { from = j; to = k })
conversion _ _ = None

-- `converted_to of t` is the term, converted to a type.
abbrev pub converted_to : Ty → Term → Expr
converted_to of t = converted (conversion of t.ty) t.tree

-- operators between two operands

-- A number alone takes the type of the other operand, where that holds it and the other is no number.
abbrev pub adapted_number : Form → Ty → Form → Term → Term
adapted_number (form.Number m) of (form.Number n) t = t
adapted_number _ (ty.Integer k) (form.Number n) t =
    if holds k n then record { ty = ty.Integer k; form = form.Number n; tree = Number k n } else t
adapted_number _ _ _ t = t

-- `adapted_by s form of t` is the operand of an operator whose other operand has this form and type: the two of a shift
-- have a type each.
abbrev pub adapted_by : OperatorClass → Form → Ty → Term → Term
adapted_by operator_class.Shift form of t = t
adapted_by _ form of t = adapted_number form of t.form t

-- `adapted_to s other t` is the operand of an operator whose other operand is this.
abbrev pub adapted_to : OperatorClass → Term → Term → Term
adapted_to s other t = adapted_by s other.form other.ty t

abbrev pub operand_type : Operands → Ty
operand_type (operands.Integers k) = ty.Integer k
operand_type operands.Bools = ty.Bool
operand_type operands.Handles = ty.Null

-- The count of a shift has its own type, and any other right operand is converted.
abbrev pub right_by : OperatorClass → Operands → Term → Expr
right_by operator_class.Shift o u = u.tree
right_by _ o u = converted_to (operand_type o) u

-- `applied_by operator o a b` is what an operator makes of its operands.
abbrev pub applied_by : Operator → Operands → Expr → Expr → Expr
applied_by (operators.Calculate c) o a b =
    Operate (operations.Calculate (record { operator = c; of = integers_in o })) a b
applied_by (operators.Compare c) o a b = Operate (operations.Compare c o) a b
applied_by (operators.Lazy l) o a b = Lazily l a b

abbrev pub applied : BinaryOp → Operands → Expr → Expr → Expr
applied op o a b = applied_by (typed_operator op) o a b

-- places

-- `assignable form tree` is the place that can be assigned, where an expression is one.
abbrev pub assignable : Form → Expr → Option Place
assignable form.Place tree = place_in tree
assignable form.HandlePlace tree = place_in tree
assignable _ tree = None

-- A place in brackets is one; a number in brackets has its own type.
abbrev pub bracketed : Form → Form
bracketed form.Place = form.Place
bracketed _ = form.Value

-- Left of `=` a place with its sign `@` is what is written to, and its type is tested there.
abbrev pub handle_form : Form → Form
handle_form form.Place = form.HandlePlace
handle_form _ = form.Value

-- `operator_of op` is the operator of `a op= b`.
abbrev pub operator_of : AssignOp → Option Calculator
operator_of assigns.Assign = None
operator_of assigns.Add = Some calculators.Add
operator_of assigns.Subtract = Some calculators.Subtract
operator_of assigns.Multiply = Some calculators.Multiply
operator_of assigns.Divide = Some calculators.Divide
operator_of assigns.Remainder = Some calculators.Remainder
operator_of assigns.BitAnd = Some calculators.BitAnd
operator_of assigns.BitOr = Some calculators.BitOr
operator_of assigns.BitXor = Some calculators.BitXor
operator_of assigns.ShiftLeft = Some calculators.ShiftLeft
operator_of assigns.ShiftRight = Some calculators.ShiftRight
operator_of assigns.ShiftRightArithmetic = Some calculators.ShiftRightArithmetic

-- A place takes so: `=` and `op=` a primitive type, `@p =` a handle.
abbrev pub is_stored : Form → Ty → Bool
is_stored form.HandlePlace (ty.Handle o) = true
is_stored form.HandlePlace ty.Unknown = true
is_stored form.Place ty.Bool = true
is_stored form.Place (ty.Integer k) = true
is_stored form.Place ty.Unknown = true
is_stored _ _ = false

-- calls

-- A call says its parameters' types; a method is called on the object that runs.
abbrev pub call_of : Callable → List VarType → Exprs → Expr
call_of (callables.OwnMethod class method result) parameters es =
    Invoke (This class) (methods.Script class method result) parameters es
call_of (callables.Target target) parameters es = Call target parameters es

-- The construction of an array takes, of so many arguments, at most one: how many elements it has.
abbrev pub array_parameters : ℕ → List Ty
array_parameters count = if nat_eq count 0 then [] else ty.Integer ints.Uint ∷ []

-- variables

abbrev pub initialization : List ℕ → Ty → Option Expr → Initialization
initialization name of value = record { name = name; of = var_type of; value = value }
