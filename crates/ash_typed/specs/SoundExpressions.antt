-- Sound expressions, by the typed tree alone: what an expression gives, where each of its parts gives what its node
-- asks for, and each place is in range. One case for each node.
--
-- `IsWellTyped env e of`: in this environment the expression `e` is well typed, and gives a value of this type, or
-- null, or no value.
use Rattle.std.specs.Prelude.{◌≡◌, ℕ, Bool, List, [], ◌∷◌, Option, Some, slice_get}
use Rattle.ash_integers.specs.declared.int_type.IntType.{IntType}
use Rattle.ash_integers.specs.declared.int_type.IntType.TheVariants as ints
use Rattle.ash_typed.specs.declared.types.Element.{Element}
use Rattle.ash_typed.specs.declared.types.ObjectType.{ObjectType}
use Rattle.ash_typed.specs.declared.types.ObjectType.TheVariants as objects
use Rattle.ash_typed.specs.declared.types.VarType.{VarType}
use Rattle.ash_typed.specs.declared.types.VarType.TheVariants as vars
use Rattle.ash_typed.specs.declared.tree.operations.Variable.TheVariants as variables
use Rattle.ash_typed.specs.declared.tree.operations.ObjectMember.{ObjectMember}
use Rattle.ash_typed.specs.declared.tree.operations.Method.{Method}
use Rattle.ash_typed.specs.declared.tree.operations.CallTarget.{CallTarget}
use Rattle.ash_typed.specs.declared.tree.operations.Calculator.{Calculator}
use Rattle.ash_typed.specs.declared.tree.operations.Comparator.{Comparator}
use Rattle.ash_typed.specs.declared.tree.operations.Operands.{Operands}
use Rattle.ash_typed.specs.declared.tree.operations.Operation.TheVariants as operations
use Rattle.ash_typed.specs.declared.tree.operations.Lazy.{Lazy}
use Rattle.ash_typed.specs.declared.tree.operations.Change.{Change}
use Rattle.ash_typed.specs.declared.tree.operations.IncrementOp.{IncrementOp}
use Rattle.ash_typed.specs.TypedTree.{Expr, Number, Truth, Null, This, Read, Invoke, Convert, Cast, Alter, Operate}
use Rattle.ash_typed.specs.TypedTree.{Lazily}
use Rattle.ash_typed.specs.TypedTree.{Conditional, Assign, Update, Count, Call, Place, Stored, Held, Indexed, Exprs}
use Rattle.ash_typed.specs.TypedTree.{no_expr}
use Rattle.ash_typed.specs.TypedTree.{expr}
use Rattle.ash_typed.specs.TypeOf.{ValueType, null_value, value, as_value, value_of_result, type_of_element}
use Rattle.ash_typed.specs.Signatures.{ModuleSignatures, IsSubtype}
use Rattle.ash_typed.specs.SoundOperations.{IsWithin, IsSoundMember, IsMethod, IsTarget, IsShift, Compares, IsOperand}
use Rattle.ash_typed.specs.SoundOperations.{IsSoundChange, IsSoundCast, IsAssigned}

-- An expression sees what the module declares, the class of the object that runs, and the types of the locals.
pub record TypedEnvironment : Type 0 where
  pub signatures : ModuleSignatures
  pub this : Option ℕ
  pub locals : List VarType

mutual
  pub data IsWellTyped (env : TypedEnvironment) : Expr → ValueType → Type 0 where
    number : {int_type : IntType} {n : ℕ} → IsWithin int_type n
        → IsWellTyped env (Number int_type n) (value (vars.Integer int_type))
    truth : {b : Bool} → IsWellTyped env (Truth b) (value vars.Bool)
    null : IsWellTyped env Null null_value
    this : {class : ℕ}
        → env.this ≡ Some class
        → IsWellTyped env (This class) (value (vars.Handle (objects.Class class)))
    read : {place : Place} {of : VarType}
        → HasPlace env place of
        → IsWellTyped env (Read place) (value (as_value of))
    invoke : {object : Expr} {o : ObjectType} {method : Method} {parameters : List VarType} {result : Option VarType}
        {es : Exprs}
        → IsWellTyped env object (value (vars.Handle o))
        → IsMethod env.signatures o method parameters result
        → AreSoundArguments env parameters es
        → IsWellTyped env (Invoke object method parameters es) (value_of_result result)
    convert : {from to : IntType} {e : Expr}
        → IsWellTyped env e (value (vars.Integer from))
        → IsWellTyped env (Convert (record { from = from; to = to }) e) (value (vars.Integer to))
    cast : {to from : ObjectType} {e : Expr}
        → IsSoundCast env.signatures to
        → IsWellTyped env e (value (vars.Handle from))
        → IsWellTyped env (Cast to e) (value (vars.Handle to))
    alter : {change : Change} {of : VarType} {e : Expr}
        → IsSoundChange change of
        → IsWellTyped env e (value of)
        → IsWellTyped env (Alter change e) (value of)
    calculate : {operator : Calculator} {of : IntType} {a b : Expr}
        → IsWellTyped env a (value (vars.Integer of))
        → IsWellTyped env b (value (vars.Integer of))
        → IsWellTyped env (Operate (operations.Calculate (record { operator = operator; of = of })) a b)
        (value (vars.Integer of))
    shift : {operator : Calculator} {of count : IntType} {a b : Expr}
        → IsShift operator
        → IsWellTyped env a (value (vars.Integer of))
        → IsWellTyped env b (value (vars.Integer count))
        → IsWellTyped env (Operate (operations.Calculate (record { operator = operator; of = of })) a b)
        (value (vars.Integer of))
    compare : {operator : Comparator} {of : Operands} {a b : Expr} {x y : ValueType}
        → Compares operator of
        → IsWellTyped env a x
        → IsOperand of x
        → IsWellTyped env b y
        → IsOperand of y
        → IsWellTyped env (Operate (operations.Compare operator of) a b) (value vars.Bool)
    lazily : {operator : Lazy} {a b : Expr}
        → IsWellTyped env a (value vars.Bool)
        → IsWellTyped env b (value vars.Bool)
        → IsWellTyped env (Lazily operator a b) (value vars.Bool)
    -- both branches are of one type, or one of them is null
    choose : {c a b : Expr} {of : VarType}
        → IsWellTyped env c (value vars.Bool)
        → IsWellTyped env a (value of)
        → IsWellTyped env b (value of)
        → IsWellTyped env (Conditional c a b) (value of)
    choose_or_null : {c a b : Expr} {o : ObjectType}
        → IsWellTyped env c (value vars.Bool)
        → IsWellTyped env a (value (vars.Handle o))
        → IsWellTyped env b null_value
        → IsWellTyped env (Conditional c a b) (value (vars.Handle o))
    null_or_choose : {c a b : Expr} {o : ObjectType}
        → IsWellTyped env c (value vars.Bool)
        → IsWellTyped env a null_value
        → IsWellTyped env b (value (vars.Handle o))
        → IsWellTyped env (Conditional c a b) (value (vars.Handle o))
    assign : {place : Place} {of : VarType} {e : Expr}
        → HasPlace env place of
        → IsAssigned of
        → Fits env of e
        → IsWellTyped env (Assign place e) (value (as_value of))
    update : {place : Place} {int_type of : IntType} {operator : Calculator} {e : Expr}
        → HasPlace env place (vars.Integer int_type)
        → IsWellTyped env e (value (vars.Integer of))
        → IsWellTyped env (Update place int_type (record { operator = operator; of = of }) e)
        (value (vars.Integer int_type))
    update_by_shift : {place : Place} {int_type of count : IntType} {operator : Calculator} {e : Expr}
        → IsShift operator
        → HasPlace env place (vars.Integer int_type)
        → IsWellTyped env e (value (vars.Integer count))
        → IsWellTyped env (Update place int_type (record { operator = operator; of = of }) e)
        (value (vars.Integer int_type))
    count : {place : Place} {int_type : IntType} {step : IncrementOp}
        → HasPlace env place (vars.Integer int_type)
        → IsWellTyped env (Count place int_type step) (value (vars.Integer int_type))
    call : {target : CallTarget} {parameters : List VarType} {result : Option VarType} {es : Exprs}
        → IsTarget env.signatures target parameters result
        → AreSoundArguments env parameters es
        → IsWellTyped env (Call target parameters es) (value_of_result result)

  -- The place is of this type.
  pub data HasPlace (env : TypedEnvironment) : Place → VarType → Type 0 where
    local : {slot : ℕ} {of : VarType}
        → slice_get env.locals slot ≡ Some of
        → HasPlace env (Stored (variables.Local slot of)) of
    global : {place : ℕ} {of : VarType}
        → slice_get env.signatures.globals place ≡ Some of
        → HasPlace env (Stored (variables.Global place of)) of
    member : {object : Expr} {o : ObjectType} {held : ObjectMember} {of : VarType}
        → IsWellTyped env object (value (vars.Handle o))
        → IsSoundMember env.signatures o held of
        → HasPlace env (Held object held) of
    element : {array index : Expr} {of : Element}
        → IsWellTyped env array (value (vars.Handle (objects.Array of)))
        → IsWellTyped env index (value (vars.Integer ints.Uint))
        → HasPlace env (Indexed array index of) (type_of_element of)

  -- What the expression gives may be stored in a variable of the type.
  pub data Fits (env : TypedEnvironment) : VarType → Expr → Type 0 where
    fits : {of : VarType} {actual : ValueType} {e : Expr}
        → IsWellTyped env e actual
        → IsSubtype env.signatures actual (value (as_value of))
        → Fits env of e

  -- There are as many arguments as parameters, and each fits its parameter.
  pub data AreSoundArguments (env : TypedEnvironment) : List VarType → Exprs → Type 0 where
    no_arguments : AreSoundArguments env [] no_expr
    argument : {of : VarType} {parameters : List VarType} {e : Expr} {es : Exprs}
        → Fits env of e
        → AreSoundArguments env parameters es
        → AreSoundArguments env (of ∷ parameters) (expr e es)
