-- The rules of typing of expressions and of variables (AngelScript manual, "Expressions", "Conversions" and
-- "Variables"), one case for each, where every type that is named is known. A rule says when a phrase has a type, and
-- by which typed tree; it says neither in which order its parts are walked nor what is reported where it does not hold.
--
-- `HasType env left e t`: the expression `e` has the type of the term `t`, and its tree. `left` says that `e` is
-- left of `=`, where `@e` is what is written to.
use Rattle.std.specs.Prelude.{◌≡◌, ℕ, length, List, [], ◌∷◌, Bool, true, false, Option, Some, None, map}
use Rattle.std.specs.List.{AllByRecursion}
use Rattle.ash_tree.specs.declared.tree.places.Position as place
use Rattle.ash_tree.specs.declared.tree.types.Primitive.{Primitive}
use Rattle.ash_tree.specs.declared.tree.operators.UnaryOp.TheVariants as unary
use Rattle.ash_tree.specs.declared.tree.operators.BinaryOp.{BinaryOp}
use Rattle.ash_tree.specs.declared.tree.operators.AssignOp.{AssignOp}
use Rattle.ash_tree.specs.declared.tree.operators.AssignOp.TheVariants as assigns
use Rattle.ash_tree.specs.Tree as written
use Rattle.ash_integers.specs.declared.int_type.IntType.{IntType}
use Rattle.ash_integers.specs.declared.int_type.IntType.TheVariants.{Uint}
use Rattle.ash_typed.specs.declared.types.Element.{Element}
use Rattle.ash_typed.specs.declared.types.ObjectType.{ObjectType}
use Rattle.ash_typed.specs.declared.types.ObjectType.TheVariants as objects
use Rattle.ash_type_rules.specs.declared.types.Ty.{Ty}
use Rattle.ash_type_rules.specs.declared.types.Ty.TheVariants as ty
use Rattle.ash_type_rules.specs.declared.forms.Form.{Form}
use Rattle.ash_type_rules.specs.declared.forms.Form.TheVariants as form
use Rattle.ash_typed.specs.declared.tree.operations.Change.TheVariants as changes
use Rattle.ash_typed.specs.declared.tree.operations.CallTarget.TheVariants as targets
use Rattle.ash_typed.specs.declared.tree.operations.ObjectMember.{ObjectMember}
use Rattle.ash_typed.specs.declared.tree.operations.Calculator.{Calculator}
use Rattle.ash_typed.specs.declared.tree.operations.Operands.{Operands}
use Rattle.ash_typed.specs.declared.tree.operations.Operands.TheVariants as operands
use Rattle.ash_typed.specs.declared.tree.operations.IncrementOp.TheVariants as steps
use Rattle.ash_type_rules.specs.TypeRules.{is_variable, is_result, var_type, signed, common, object_of, ty_of}
use Rattle.ash_type_rules.specs.TypeRules.{ty_of_element}
use Rattle.ash_type_rules.specs.TypeRules.{operator_class_of, binary_of, common_operands, operator_result}
use Rattle.ash_typed.specs.TypedTree.{Expr, Truth, Null, This, Read, Invoke, Cast, Call, Alter, Conditional, Assign}
use Rattle.ash_typed.specs.TypedTree.{Update}
use Rattle.ash_typed.specs.TypedTree.{Count, Place, Held, Indexed, Exprs, no_expr, expr}
use Rattle.ash_type_rules.specs.Coercions.{fits}
use Rattle.ash_type_rules.specs.ModuleDeclarations.{object_named, element_named}
use Rattle.ash_type_rules.specs.Environment.{Environment, Declared, FunctionSignature, InterfaceSignature, ClassSignature}
use Rattle.ash_type_rules.specs.Environment.{Known, Callee, Invoked}
use Rattle.ash_type_rules.specs.Environment.{variable_in, callee_in, member_in, method_in, construction}
use Rattle.ash_typed.specs.StatementTree.{Initialization}
use Rattle.ash_type_rules.specs.Terms.{operand_type, applied, operator_of, is_stored, call_of, assignable, bracketed}
use Rattle.ash_type_rules.specs.Terms.{handle_form, array_parameters, initialization, Term, term, read_term, number_term}
use Rattle.ash_type_rules.specs.Terms.{converted_to, adapted_to, right_by}

-- an environment whose types are known

abbrev pub is_known : Ty → Bool
is_known ty.Unknown = false
is_known _ = true

abbrev pub IsKnownType : Ty → Type 0
IsKnownType of = is_known of ≡ true

-- Variables may be of this type.
abbrev pub IsVariableType : Ty → Type 0
IsVariableType of = is_variable of ≡ true

-- A function may give this.
abbrev pub IsTypeOfResult : Ty → Type 0
IsTypeOfResult of = is_result of ≡ true

abbrev pub IsKnownVariable : Declared → Type 0
IsKnownVariable v = IsVariableType v.of

pub record IsKnownFunction (f : FunctionSignature) : Type 0 where
  pub result : IsTypeOfResult f.result
  pub parameters : AllByRecursion IsVariableType f.parameters

pub record IsKnownInterface (i : InterfaceSignature) : Type 0 where
  pub methods : AllByRecursion IsKnownFunction i.methods

pub record IsKnownClass (c : ClassSignature) : Type 0 where
  pub fields : AllByRecursion IsKnownVariable c.fields
  pub methods : AllByRecursion IsKnownFunction c.methods
  pub parameters : AllByRecursion IsVariableType c.parameters

pub record IsKnown (env : Environment) : Type 0 where
  pub interfaces : AllByRecursion IsKnownInterface env.declarations.interfaces
  pub classes : AllByRecursion IsKnownClass env.declarations.classes
  pub functions : AllByRecursion IsKnownFunction env.declarations.functions
  pub globals : AllByRecursion IsKnownVariable env.declarations.globals
  pub locals : AllByRecursion IsKnownVariable env.locals

-- terms

-- The operator takes the two terms, each adapted to the other, for these operands.
abbrev pub AreUnified : BinaryOp → Term → Term → Operands → Type 0
AreUnified op t u o =
    common_operands (operator_class_of op) (adapted_to (operator_class_of op) u t).ty
    (adapted_to (operator_class_of op) t u).ty
    ≡ Some o

-- `left_of` is what becomes of the left operand.
abbrev pub left_of : BinaryOp → Operands → Term → Term → Expr
left_of op o t u = converted_to (operand_type o) (adapted_to (operator_class_of op) u t)

-- `right_of` is what becomes of the right operand.
abbrev pub right_of : BinaryOp → Operands → Term → Term → Expr
right_of op o t u = right_by (operator_class_of op) o (adapted_to (operator_class_of op) t u)

-- As many arguments as parameters, each of which fits its parameter and is converted to its type.
pub data AreTypedArguments (classes : List ClassSignature) : List Ty → List Term → Exprs → Type 0 where
  no_arguments : AreTypedArguments classes [] [] no_expr
  argument : {of : Ty} {t : Term} {parameters : List Ty} {ts : List Term} {trees : Exprs}
      → fits classes of t.ty ≡ true
      → AreTypedArguments classes parameters ts trees
      → AreTypedArguments classes (of ∷ parameters) (t ∷ ts) (expr (converted_to of t) trees)

-- The type that `cast` makes: a class or an interface.
pub data IsCastType : ObjectType → Type 0 where
  to_class : {class : ℕ} → IsCastType (objects.Class class)
  to_interface : {interface : ℕ} → IsCastType (objects.Interface interface)

mutual
  pub data HasType (env : Environment) : Bool → written.Expr → Term → Type 0 where
    number : {left : Bool} {p : place.Position} {n : ℕ} → HasType env left (written.Number p n) (number_term n)
    truth : {left : Bool} {p : place.Position} {b : Bool}
        → HasType env left (written.Truth p b) (term ty.Bool (Truth b))
    null : {left : Bool} {p : place.Position} → HasType env left (written.Null p) (term ty.Null Null)
    this : {left : Bool} {p : place.Position} {class : ℕ}
        → env.this ≡ Some class
        → HasType env left (written.This p) (term (ty.Handle (objects.Class class)) (This class))
    name : {left : Bool} {p : place.Position} {text : List ℕ} {known : Known}
        → variable_in env text ≡ Some known
        → HasType env left (written.Name p text) (read_term known.1 known.0)
    call : {left : Bool} {p : place.Position} {text : List ℕ} {es : written.Exprs} {callee : Callee}
        {parameters : List Ty} {ts : List Term} {trees : Exprs}
        → callee_in env text ≡ Some callee
        → callee.parameters ≡ Some parameters
        → AllHaveType env es ts
        → AreTypedArguments env.declarations.classes parameters ts trees
        → HasType env left (written.Call p text es)
        (term callee.result (call_of callee.target (map var_type parameters) trees))
    -- (e), which is no number alone; what can be assigned still can
    brackets : {left : Bool} {p : place.Position} {e : written.Expr} {t : Term}
        → HasType env false e t
        → HasType env left (written.Brackets p e) (record { ty = t.ty; form = bracketed t.form; tree = t.tree })
    -- `prim(e)`, which can't be assigned
    to_integer : {left : Bool} {p : place.Position} {to : Primitive} {e : written.Expr} {t : Term} {j k : IntType}
        → HasType env false e t
        → ty_of to ≡ ty.Integer k
        → t.ty ≡ ty.Integer j
        → HasType env left (written.Convert p to e) (term (ty.Integer k) (converted_to (ty.Integer k) t))
    to_bool : {left : Bool} {p : place.Position} {to : Primitive} {e : written.Expr} {t : Term}
        → HasType env false e t
        → ty_of to ≡ ty.Bool
        → t.ty ≡ ty.Bool
        → HasType env left (written.Convert p to e) (term ty.Bool t.tree)
    -- `array<T>(e ..)`, of none or one argument
    new_array : {left : Bool} {p : place.Position} {of : written.Element} {es : written.Exprs} {elements : Element}
        {ts : List Term} {trees : Exprs}
        → element_named env.registered env.declarations of ≡ Some elements
        → AllHaveType env es ts
        → AreTypedArguments env.declarations.classes (array_parameters (length ts)) ts trees
        → HasType env left (written.NewArray p of es)
        (term (ty.Handle (objects.Array elements))
        (Call (targets.Array elements) (map var_type (array_parameters (length ts))) trees))
    -- `cast<T>(e)`, of an object or a handle
    cast : {left : Bool} {p : place.Position} {to : written.TypeName} {e : written.Expr} {t : Term}
        {o from : ObjectType} → object_named env.registered env.declarations to.name ≡ Some o
        → IsCastType o
        → HasType env false e t
        → object_of t.ty ≡ Some from
        → HasType env left (written.Cast p to e) (term (ty.Handle o) (Cast o t.tree))
    -- e with suffixes
    postfix : {left : Bool} {p : place.Position} {e : written.Expr} {ss : written.Suffixes} {t u : Term}
        → HasType env false e t
        → SuffixesHaveType env t ss u
        → HasType env left (written.Postfix p e ss) u
    -- + e, which can't be assigned, - e, ~ e
    plus : {left : Bool} {p : place.Position} {e : written.Expr} {t : Term} {k : IntType}
        → HasType env false e t
        → t.ty ≡ ty.Integer k
        → HasType env left (written.Unary p unary.Plus e) (term (ty.Integer k) t.tree)
    minus : {left : Bool} {p : place.Position} {e : written.Expr} {t : Term} {k : IntType}
        → HasType env false e t
        → t.ty ≡ ty.Integer k
        → HasType env left (written.Unary p unary.Minus e)
        (term (ty.Integer (signed k)) (Alter (changes.Negate (signed k)) (converted_to (ty.Integer (signed k)) t)))
    complement : {left : Bool} {p : place.Position} {e : written.Expr} {t : Term} {k : IntType}
        → HasType env false e t
        → t.ty ≡ ty.Integer k
        → HasType env left (written.Unary p unary.BitNot e) (term (ty.Integer k) (Alter (changes.Complement k) t.tree))
    -- ! e
    not : {left : Bool} {p : place.Position} {e : written.Expr} {t : Term}
        → HasType env false e t
        → t.ty ≡ ty.Bool
        → HasType env left (written.Unary p unary.Not e) (term ty.Bool (Alter changes.Not t.tree))
    -- ++ e, -- e
    increment : {left : Bool} {p : place.Position} {e : written.Expr} {t : Term} {at : Place} {k : IntType}
        → HasType env false e t
        → assignable t.form t.tree ≡ Some at
        → t.ty ≡ ty.Integer k
        → HasType env left (written.Unary p unary.Increment e) (term (ty.Integer k) (Count at k steps.Increment))
    decrement : {left : Bool} {p : place.Position} {e : written.Expr} {t : Term} {at : Place} {k : IntType}
        → HasType env false e t
        → assignable t.form t.tree ≡ Some at
        → t.ty ≡ ty.Integer k
        → HasType env left (written.Unary p unary.Decrement e) (term (ty.Integer k) (Count at k steps.Decrement))
    -- @ e, of an object or a handle; left of `=` a place with this sign is what is written to
    handle : {p : place.Position} {e : written.Expr} {t : Term} {o : ObjectType}
        → HasType env false e t
        → object_of t.ty ≡ Some o
        → HasType env false (written.Unary p unary.Handle e) (term (ty.Handle o) t.tree)
    handle_written : {p : place.Position} {e : written.Expr} {t : Term}
        → HasType env false e t
        → HasType env true (written.Unary p unary.Handle e)
        (record { ty = t.ty; form = handle_form t.form; tree = t.tree })
    -- operators of one level, which group to the left
    binary : {left : Bool} {p : place.Position} {e : written.Expr} {ls : written.Links} {t u : Term}
        → HasType env false e t
        → LinksHaveType env t ls u
        → HasType env left (written.Binary p e ls) u
    -- c ? a : b
    conditional : {left : Bool} {p : place.Position} {c a b : written.Expr} {t x y : Term} {of : Ty}
        → HasType env false c t
        → t.ty ≡ ty.Bool
        → HasType env false a x
        → HasType env false b y
        → common x.ty y.ty ≡ Some of
        → HasType env left (written.Conditional p c a b)
        (term of (Conditional t.tree (converted_to of x) (converted_to of y)))
    -- e = v, where e is a place of a primitive type, or `@` with a place of a handle
    assign : {left : Bool} {p : place.Position} {e v : written.Expr} {t u : Term} {at : Place}
        → HasType env true e t
        → assignable t.form t.tree ≡ Some at
        → is_stored t.form t.ty ≡ true
        → HasType env false v u
        → fits env.declarations.classes t.ty u.ty ≡ true
        → HasType env left (written.Assign p e assigns.Assign v) (term t.ty (Assign at (converted_to t.ty u)))
    -- e op= v, where e is a place of an integer type: what is there is an operand of its type
    update : {left : Bool} {p : place.Position} {op : AssignOp} {c : Calculator} {e v : written.Expr} {t u : Term}
        {at : Place} {j k : IntType}
        → operator_of op ≡ Some c
        → HasType env false e t
        → assignable t.form t.tree ≡ Some at
        → is_stored t.form t.ty ≡ true
        → t.ty ≡ ty.Integer k
        → HasType env false v u
        → AreUnified (binary_of c) (term t.ty Null) u (operands.Integers j)
        → HasType env left (written.Assign p e op v)
        (term t.ty (Update at k (record { operator = c; of = j })
        (right_of (binary_of c) (operands.Integers j) (term t.ty Null) u)))

  -- Each of the arguments has the type of its term.
  pub data AllHaveType (env : Environment) : written.Exprs → List Term → Type 0 where
    none_left : AllHaveType env written.no_expr []
    each : {e : written.Expr} {es : written.Exprs} {t : Term} {ts : List Term}
        → HasType env false e t
        → AllHaveType env es ts
        → AllHaveType env (written.expr e es) (t ∷ ts)

  -- Operators of one level have the type of the term, with what is before the first.
  pub data LinksHaveType (env : Environment) : Term → written.Links → Term → Type 0 where
    no_more : {t : Term} → LinksHaveType env t written.no_link t
    operated : {op : BinaryOp} {e : written.Expr} {ls : written.Links} {t u v : Term} {o : Operands}
        → HasType env false e u
        → AreUnified op t u o
        → LinksHaveType env
        (term (operator_result (operator_class_of op) o) (applied op o (left_of op o t u) (right_of op o t u))) ls v
        → LinksHaveType env t (written.link op e ls) v

  -- Suffixes have the type of the term, with what is before the first.
  pub data SuffixesHaveType (env : Environment) : Term → written.Suffixes → Term → Type 0 where
    no_suffixes : {t : Term} → SuffixesHaveType env t written.no_suffix t
    suffixed : {s : written.Suffix} {ss : written.Suffixes} {t u v : Term}
        → SuffixHasType env t s u
        → SuffixesHaveType env u ss v
        → SuffixesHaveType env t (written.suffix s ss) v

  pub data SuffixHasType (env : Environment) : Term → written.Suffix → Term → Type 0 where
    -- .name
    field : {p : place.Position} {text : List ℕ} {t : Term} {o : ObjectType} {found : ObjectMember × Ty}
        → object_of t.ty ≡ Some o
        → member_in env o text ≡ Some found
        → SuffixHasType env t (written.Field p text) (read_term found.1 (Read (Held t.tree found.0)))
    -- .name(e ..)
    method : {p : place.Position} {text : List ℕ} {es : written.Exprs} {t : Term} {o : ObjectType} {m : Invoked}
        {ts : List Term} {trees : Exprs}
        → object_of t.ty ≡ Some o
        → method_in env o text ≡ Some m
        → AllHaveType env es ts
        → AreTypedArguments env.declarations.classes m.parameters ts trees
        → SuffixHasType env t (written.Method p text es)
        (term m.result (Invoke t.tree m.method (map var_type m.parameters) trees))
    -- [e], of an array
    index : {e : written.Expr} {t u : Term} {elements : Element} {k : IntType}
        → object_of t.ty ≡ Some (objects.Array elements)
        → HasType env false e u
        → u.ty ≡ ty.Integer k
        → SuffixHasType env t (written.Index e)
        (read_term (ty_of_element elements) (Read (Indexed t.tree (converted_to (ty.Integer Uint) u) elements)))
    -- ++
    increment_after : {t : Term} {at : Place} {k : IntType}
        → assignable t.form t.tree ≡ Some at
        → t.ty ≡ ty.Integer k
        → SuffixHasType env t written.Increment (term (ty.Integer k) (Count at k steps.IncrementAfter))
    -- --
    decrement_after : {t : Term} {at : Place} {k : IntType}
        → assignable t.form t.tree ≡ Some at
        → t.ty ≡ ty.Integer k
        → SuffixHasType env t written.Decrement (term (ty.Integer k) (Count at k steps.DecrementAfter))

-- variables

abbrev pub is_object : Ty → Bool
is_object (ty.Object o) = true
is_object _ = false

-- An object is constructed.
pub data IsConstructed (env : Environment) : ObjectType → List Term → Expr → Type 0 where
  construct : {o : ObjectType} {callee : Callee} {parameters : List Ty} {ts : List Term} {trees : Exprs}
      → construction env o (length ts) ≡ Some callee
      → callee.parameters ≡ Some parameters
      → AreTypedArguments env.declarations.classes parameters ts trees
      → IsConstructed env o ts (call_of callee.target (map var_type parameters) trees)

-- A variable of a type begins with this: where nothing is named, with zero, `false` or null.
pub data IsTypedBeginning (env : Environment) : Ty → written.Initializer → Option Expr → Type 0 where
  -- T x
  empty : {of : Ty}
      → is_object of ≡ false
      → IsTypedBeginning env of written.Default None
  default : {o : ObjectType} {tree : Expr}
      → IsConstructed env o [] tree
      → IsTypedBeginning env (ty.Object o) written.Default (Some tree)
  -- T x = e, but of objects
  value : {of : Ty} {e : written.Expr} {t : Term}
      → is_object of ≡ false
      → HasType env false e t
      → fits env.declarations.classes of t.ty ≡ true
      → IsTypedBeginning env of (written.Value e) (Some (converted_to of t))
  -- T x(e), of a primitive type
  one : {of : Ty} {e : written.Expr} {t : Term}
      → object_of of ≡ None
      → HasType env false e t
      → fits env.declarations.classes of t.ty ≡ true
      → IsTypedBeginning env of (written.Arguments (e ∷ [])) (Some (converted_to of t))
  -- T x(e ..), of objects
  built_by : {o : ObjectType} {es : List written.Expr} {ts : List Term} {tree : Expr}
      → AllHaveType env (written.exprs es) ts
      → IsConstructed env o ts tree
      → IsTypedBeginning env (ty.Object o) (written.Arguments es) (Some tree)

-- A variable of a type is declared.
pub data IsDeclaredType (env : Environment) : Ty → written.Decl → Initialization → Type 0 where
  declared : {of : Ty} {d : written.Decl} {value : Option Expr}
      → IsTypedBeginning env of d.initializer value
      → IsDeclaredType env of d (initialization d.name of value)

-- what can be assigned has the tree of a read

abbrev pub IsReadOfPlace : Expr → Type 0
IsReadOfPlace tree = (at : Place) × (tree ≡ Read at)

abbrev pub IsReadWherePlace : Form → Expr → Type 0
IsReadWherePlace form.Place tree = IsReadOfPlace tree
IsReadWherePlace form.HandlePlace tree = IsReadOfPlace tree
IsReadWherePlace _ tree = Unit {0}
