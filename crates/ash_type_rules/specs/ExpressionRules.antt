-- The typing of expressions (AngelScript manual, "Expressions"), as a function whose order is that of the walk: the
-- parts of a phrase in the order of the text, then the phrase. Of several faults of one phrase the one at the earliest
-- token is reported.
use Rattle.std.specs.Prelude.{ℕ, List, [], ◌∷◌, Bool, true, false, Option, Some, None, Ok, map, length, nat_eq}
use Rattle.std.specs.Prelude.{if◌then◌else◌}
use Rattle.ash_tree.specs.declared.tree.types.Primitive.{Primitive}
use Rattle.ash_tree.specs.declared.tree.operators.UnaryOp.{UnaryOp}
use Rattle.ash_tree.specs.declared.tree.operators.UnaryOp.TheVariants as unary
use Rattle.ash_tree.specs.declared.tree.operators.BinaryOp.{BinaryOp}
use Rattle.ash_tree.specs.declared.tree.operators.AssignOp.{AssignOp}
use Rattle.ash_tree.specs.declared.tree.operators.AssignOp.TheVariants as assigns
use Rattle.ash_tree.specs.Tree as written
use Rattle.ash_type_rules.specs.declared.fault.Rule.TheVariants.{UnknownName, UnknownType, TypeMismatch, WrongArgumentCount}
use Rattle.ash_type_rules.specs.declared.fault.Rule.TheVariants.{NotAssignable, Misplaced, NoFactory}
use Rattle.ash_integers.specs.declared.int_type.IntType.{IntType}
use Rattle.ash_integers.specs.declared.int_type.IntType.TheVariants as ints
use Rattle.ash_typed.specs.declared.types.Element.{Element}
use Rattle.ash_typed.specs.declared.types.Element.TheVariants as elements
use Rattle.ash_typed.specs.declared.types.ObjectType.{ObjectType}
use Rattle.ash_typed.specs.declared.types.ObjectType.TheVariants as objects
use Rattle.ash_type_rules.specs.declared.types.Ty.{Ty}
use Rattle.ash_type_rules.specs.declared.types.Ty.TheVariants as ty
use Rattle.ash_type_rules.specs.declared.forms.OperatorClass.{OperatorClass}
use Rattle.ash_type_rules.specs.declared.forms.Form.{Form}
use Rattle.ash_typed.specs.declared.tree.operations.Change.{Change}
use Rattle.ash_typed.specs.declared.tree.operations.Change.TheVariants as changes
use Rattle.ash_typed.specs.declared.tree.operations.Calculator.{Calculator}
use Rattle.ash_typed.specs.declared.tree.operations.ObjectMember.{ObjectMember}
use Rattle.ash_typed.specs.declared.tree.operations.ObjectMember.TheVariants as members
use Rattle.ash_typed.specs.declared.tree.operations.Operands.{Operands}
use Rattle.ash_typed.specs.declared.tree.operations.IncrementOp.{IncrementOp}
use Rattle.ash_typed.specs.declared.tree.operations.IncrementOp.TheVariants as steps
use Rattle.ash_type_rules.specs.TypingResult.{TypingResult, ◌>>=◌, broken}
use Rattle.ash_type_rules.specs.TypeRules.{var_type, signed, common, ty_of, ty_of_element, operator_class_of, binary_of}
use Rattle.ash_type_rules.specs.TypeRules.{integers_in}
use Rattle.ash_type_rules.specs.TypeRules.{takes, assumed_type, common_operands, operator_result}
use Rattle.ash_typed.specs.TypedTree.{Expr, Truth, Null, This, Read, Invoke, Cast, Alter, Conditional, Assign, Update}
use Rattle.ash_typed.specs.TypedTree.{Count}
use Rattle.ash_typed.specs.TypedTree.{Place, Held, Indexed, Exprs, no_expr, expr}
use Rattle.ash_type_rules.specs.Coercions.{fits}
use Rattle.ash_type_rules.specs.ModuleDeclarations.{object_named, element_named}
use Rattle.ash_type_rules.specs.Environment.{Environment, ClassSignature, Known, Callee, Invoked, variable_in, callee_in}
use Rattle.ash_type_rules.specs.Environment.{member_in}
use Rattle.ash_type_rules.specs.Environment.{method_in, array_built}
use Rattle.ash_type_rules.specs.Terms.{operand_type, applied, assignable, bracketed, handle_form, operator_of, is_stored}
use Rattle.ash_type_rules.specs.Terms.{call_of, array_parameters, Term, term, read_term, number_term, converted_to}
use Rattle.ash_type_rules.specs.Terms.{right_by, adapted_by}

-- A typed expression has the offset of its first token, and what it is by itself.
pub record TypedExpr : Type 0 where
  pub at : ℕ
  pub ty : Ty
  pub form : Form
  pub tree : Expr

-- `placed at t` is a term of an expression whose first token is at this offset.
abbrev pub placed : ℕ → Term → TypedExpr
placed at t = record { at = at; ty = t.ty; form = t.form; tree = t.tree }

abbrev pub term_of : TypedExpr → Term
term_of t = record { ty = t.ty; form = t.form; tree = t.tree }

abbrev pub term_at : ℕ → Ty → Expr → TypedExpr
term_at at of tree = placed at (term of tree)

abbrev pub read_at : ℕ → Ty → Expr → TypedExpr
read_at at of tree = placed at (read_term of tree)

-- conversions

abbrev pub coerced : Ty → TypedExpr → Expr
coerced to t = converted_to to (term_of t)

-- The expression is converted as in an assignment to a variable of this type.
unfoldable pub coerced_for_assignment : List ClassSignature → Ty → TypedExpr → TypingResult Expr
coerced_for_assignment classes to t = if fits classes to t.ty then Ok (coerced to t) else broken TypeMismatch t.at

-- what an operand has to be

abbrev pub integer_of : ℕ → Ty → TypingResult IntType
integer_of at (ty.Integer k) = Ok k
integer_of at ty.Unknown = Ok ints.Int
integer_of at _ = broken TypeMismatch at

abbrev pub bool_of : ℕ → Ty → TypingResult Bool
bool_of at ty.Bool = Ok true
bool_of at ty.Unknown = Ok true
bool_of at _ = broken TypeMismatch at

-- `handle_of at of` is the type of a handle of what an expression gives.
abbrev pub handle_of : ℕ → Ty → TypingResult Ty
handle_of at (ty.Object o) = Ok (ty.Handle o)
handle_of at (ty.Handle o) = Ok (ty.Handle o)
handle_of at ty.Unknown = Ok ty.Unknown
handle_of at _ = broken TypeMismatch at

-- `adapted s other of t` is the operand of an operator, where the other operand has this form and type.
unfoldable pub adapted : OperatorClass → Form → Ty → TypedExpr → TypedExpr
adapted s other of t = placed t.at (adapted_by s other of (term_of t))

-- operators between two operands

-- Two operands are taken for operands of a class by an operator.
pub record UnifiedOperands : Type 0 where
  pub left : TypedExpr
  pub operands : Operands
  pub right : Expr

abbrev pub unified_as : OperatorClass → TypedExpr → TypedExpr → Option Operands → TypingResult UnifiedOperands
unified_as s a b (Some o) = Ok (record { left = a; operands = o; right = right_by s o (term_of b) })
unified_as s a b None = broken TypeMismatch (if takes s a.ty then b.at else a.at)

abbrev pub unified_by : OperatorClass → TypedExpr → TypedExpr → TypingResult UnifiedOperands
unified_by s a b = unified_as s a b (common_operands s (assumed_type s b.ty a.ty) (assumed_type s a.ty b.ty))

unfoldable pub unify_operands : BinaryOp → TypedExpr → TypedExpr → TypingResult UnifiedOperands
unify_operands op a b =
    unified_by (operator_class_of op) (adapted (operator_class_of op) b.form b.ty a)
    (adapted (operator_class_of op) a.form a.ty b)

abbrev pub operated : BinaryOp → UnifiedOperands → TypedExpr
operated op m =
    term_at m.left.at (operator_result (operator_class_of op) m.operands)
    (applied op m.operands (coerced (operand_type m.operands) m.left) m.right)

unfoldable pub operate : BinaryOp → TypedExpr → TypedExpr → TypingResult TypedExpr
operate op a b = unify_operands op a b >>= λ m. Ok (operated op m)

-- operators before an operand

unfoldable pub counted : ℕ → IncrementOp → TypedExpr → Option Place → TypingResult TypedExpr
counted at step t None = broken NotAssignable t.at
counted at step t (Some p) = integer_of t.at t.ty >>= λ k. Ok (term_at at (ty.Integer k) (Count p k step))

abbrev pub altered : ℕ → IntType → Change → TypedExpr → TypedExpr
altered at k change t = term_at at (ty.Integer k) (Alter change (coerced (ty.Integer k) t))

-- `integer_at at k t` is the value alone, which can't be assigned.
abbrev pub integer_at : ℕ → IntType → TypedExpr → TypedExpr
integer_at at k t = term_at at (ty.Integer k) (coerced (ty.Integer k) t)

abbrev pub handle_at : Bool → ℕ → TypedExpr → TypingResult TypedExpr
handle_at true at t = Ok (record { at = at; ty = t.ty; form = handle_form t.form; tree = t.tree })
handle_at false at t = handle_of t.at t.ty >>= λ h. Ok (term_at at h t.tree)

unfoldable pub unary_at : Bool → ℕ → UnaryOp → TypedExpr → TypingResult TypedExpr
unary_at left at unary.Plus t = integer_of t.at t.ty >>= λ k. Ok (integer_at at k t)
unary_at left at unary.Minus t = integer_of t.at t.ty >>= λ k. Ok (altered at (signed k) (changes.Negate (signed k)) t)
unary_at left at unary.BitNot t = integer_of t.at t.ty >>= λ k. Ok (altered at k (changes.Complement k) t)
unary_at left at unary.Not t = bool_of t.at t.ty >>= λ yes. Ok (term_at at ty.Bool (Alter changes.Not t.tree))
unary_at left at unary.Increment t = counted at steps.Increment t (assignable t.form t.tree)
unary_at left at unary.Decrement t = counted at steps.Decrement t (assignable t.form t.tree)
unary_at left at unary.Handle t = handle_at left at t

-- `prim(e)` converts so.
abbrev pub converting : ℕ → Ty → TypedExpr → TypingResult TypedExpr
converting at (ty.Integer k) t = integer_of t.at t.ty >>= λ j. Ok (integer_at at k t)
converting at _ t = bool_of t.at t.ty >>= λ yes. Ok (term_at at ty.Bool t.tree)

unfoldable pub convert_at : ℕ → Primitive → TypedExpr → TypingResult TypedExpr
convert_at at to t = converting at (ty_of to) t

-- `c ? a : b`

abbrev pub is_void : Ty → Bool
is_void ty.Void = true
is_void _ = false

abbrev pub chosen : TypedExpr → TypedExpr → TypedExpr → Option Ty → TypingResult TypedExpr
chosen c a b (Some t) = Ok (term_at c.at t (Conditional c.tree (coerced t a) (coerced t b)))
chosen c a b None = broken TypeMismatch (if is_void a.ty then a.at else b.at)

unfoldable pub choice : TypedExpr → TypedExpr → TypedExpr → TypingResult TypedExpr
choice c a b = bool_of c.at c.ty >>= λ yes. chosen c a b (common a.ty b.ty)

-- assignments

-- What is at a place is an operand of its type.
abbrev pub updated : ℕ → Ty → Place → Calculator → TypedExpr → TypingResult TypedExpr
updated at of p c v =
    unify_operands (binary_of c) (term_at at of Null) v >>= λ m. integer_of at of
    >>= λ k. Ok (term_at at (ty.Integer k) (Update p k (record { operator = c; of = integers_in m.operands }) m.right))

unfoldable pub stored : List ClassSignature → ℕ → Ty → Place → Option Calculator → TypedExpr → TypingResult TypedExpr
stored classes at of p None v = coerced_for_assignment classes of v >>= λ e. Ok (term_at at of (Assign p e))
stored classes at of p (Some op) v = updated at of p op v

abbrev pub assigned_to : List ClassSignature → TypedExpr → AssignOp → TypedExpr → Option Place → TypingResult TypedExpr
assigned_to classes t op v None = broken NotAssignable t.at
assigned_to classes t op v (Some p) =
    if is_stored t.form t.ty then stored classes t.at t.ty p (operator_of op) v else broken NotAssignable t.at

unfoldable pub assigned : List ClassSignature → TypedExpr → AssignOp → TypedExpr → TypingResult TypedExpr
assigned classes t op v = assigned_to classes t op v (assignable t.form t.tree)

abbrev pub is_assign : AssignOp → Bool
is_assign assigns.Assign = true
is_assign _ = false

-- calls

abbrev pub all_coerced : List ClassSignature → List Ty → List TypedExpr → TypingResult Exprs
all_coerced classes (p ∷ ps) (t ∷ ts) =
    coerced_for_assignment classes p t >>= λ e. all_coerced classes ps ts >>= λ es. Ok (expr e es)
all_coerced classes _ _ = Ok no_expr

unfoldable pub arguments_at : List ClassSignature → ℕ → List Ty → List TypedExpr → TypingResult Exprs
arguments_at classes at parameters ts =
    if nat_eq (length parameters) (length ts) then all_coerced classes parameters ts else broken WrongArgumentCount at

unfoldable pub called : List ClassSignature → ℕ → Callee → List TypedExpr → Option (List Ty) → TypingResult TypedExpr
called classes at callee ts None = broken NoFactory at
called classes at callee ts (Some parameters) =
    arguments_at classes at parameters ts
    >>= λ es. Ok (term_at at callee.result (call_of callee.target (map var_type parameters) es))

abbrev pub callee_at : ℕ → Option Callee → TypingResult Callee
callee_at at None = broken UnknownName at
callee_at at (Some callee) = Ok callee

-- names

abbrev pub known_at : ℕ → Option Known → TypingResult TypedExpr
known_at at None = broken UnknownName at
known_at at (Some known) = Ok (read_at at known.1 known.0)

abbrev pub this_at : ℕ → Option ℕ → TypingResult TypedExpr
this_at at None = broken Misplaced at
this_at at (Some class) = Ok (term_at at (ty.Handle (objects.Class class)) (This class))

-- suffixes

abbrev pub member_at : TypedExpr → ℕ → Option (ObjectMember × Ty) → TypingResult TypedExpr
member_at t at None = broken UnknownName at
member_at t at (Some (member, of)) = Ok (read_at t.at of (Read (Held t.tree member)))

unfoldable pub field_of : Environment → TypedExpr → Ty → ℕ → List ℕ → TypingResult TypedExpr
field_of env t (ty.Object o) at name = member_at t at (member_in env o name)
field_of env t (ty.Handle o) at name = member_at t at (member_in env o name)
field_of env t ty.Unknown at name =
    Ok (read_at t.at ty.Unknown (Read (Held t.tree (members.Field 0 0 (var_type ty.Unknown)))))
field_of env t _ at name = broken TypeMismatch t.at

-- `invoked_at at found` is the method, or nothing where the type of the object is unknown.
abbrev pub invoked_at : ℕ → Option Invoked → TypingResult (Option Invoked)
invoked_at at None = broken UnknownName at
invoked_at at (Some m) = Ok (Some m)

unfoldable pub method_of : Environment → TypedExpr → Ty → ℕ → List ℕ → TypingResult (Option Invoked)
method_of env t (ty.Object o) at name = invoked_at at (method_in env o name)
method_of env t (ty.Handle o) at name = invoked_at at (method_in env o name)
method_of env t ty.Unknown at name = Ok None
method_of env t _ at name = broken TypeMismatch t.at

unfoldable pub invoked : List ClassSignature → TypedExpr → ℕ → List TypedExpr → Option Invoked → TypingResult TypedExpr
invoked classes t at ts None = Ok (term_at t.at ty.Unknown Null)
invoked classes t at ts (Some m) =
    arguments_at classes at m.parameters ts
    >>= λ es. Ok (term_at t.at m.result (Invoke t.tree m.method (map var_type m.parameters) es))

abbrev pub in_brackets : ℕ → TypedExpr → TypedExpr
in_brackets at t = record { at = at; ty = t.ty; form = bracketed t.form; tree = t.tree }

-- A call, whose arguments are walked once its name is known.
abbrev pub check_call : Environment → ℕ → List ℕ → TypingResult (List TypedExpr) → TypingResult TypedExpr
check_call env at name arguments =
    callee_at at (callee_in env name) >>= λ callee. arguments
    >>= λ ts. called env.declarations.classes at callee ts callee.parameters

abbrev pub check_invocation : Environment → TypedExpr → ℕ → List ℕ → TypingResult (List TypedExpr)
    → TypingResult TypedExpr
check_invocation env t at name arguments =
    method_of env t t.ty at name >>= λ m. arguments >>= λ ts. invoked env.declarations.classes t at ts m

-- arrays

-- `index_in i` is an index, which is converted to `uint`.
abbrev pub index_in : TypedExpr → TypingResult Expr
index_in i = integer_of i.at i.ty >>= λ k. Ok (coerced (ty.Integer ints.Uint) i)

abbrev pub indexed_at : TypedExpr → TypedExpr → Ty → Element → TypingResult TypedExpr
indexed_at t i of e = index_in i >>= λ index. Ok (read_at t.at of (Read (Indexed t.tree index e)))

abbrev pub indexed_object : TypedExpr → TypedExpr → ObjectType → TypingResult TypedExpr
indexed_object t i (objects.Array e) = indexed_at t i (ty_of_element e) e
indexed_object t i _ = broken TypeMismatch t.at

unfoldable pub indexed : TypedExpr → Ty → TypedExpr → TypingResult TypedExpr
indexed t (ty.Object o) i = indexed_object t i o
indexed t (ty.Handle o) i = indexed_object t i o
indexed t ty.Unknown i = indexed_at t i ty.Unknown elements.Bool
indexed t _ i = broken TypeMismatch t.at

abbrev pub at_element : written.Element → ℕ
at_element (written.PrimElement p primitive) = p.at
at_element (written.HandleElement p name) = p.at

abbrev pub known_element : ℕ → Option Element → TypingResult Element
known_element at None = broken UnknownType at
known_element at (Some e) = Ok e

-- `array<T>(e ..)` is typed so.
abbrev pub check_array : Environment → ℕ → written.Element → TypingResult (List TypedExpr) → TypingResult TypedExpr
check_array env at of arguments =
    known_element (at_element of) (element_named env.registered env.declarations of) >>= λ e. arguments
    >>= λ ts. called env.declarations.classes at (array_built e (length ts)) ts (Some (array_parameters (length ts)))

-- `cast<T>(e)`

-- `cast_type at named` is a class or an interface, whose name is at this offset.
abbrev pub cast_type : ℕ → Option ObjectType → TypingResult ObjectType
cast_type at (Some (objects.Class class)) = Ok (objects.Class class)
cast_type at (Some (objects.Interface interface)) = Ok (objects.Interface interface)
cast_type at (Some _) = broken TypeMismatch at
cast_type at None = broken UnknownType at

-- An object or a handle is cast.
unfoldable pub cast_at : ℕ → ObjectType → TypedExpr → TypingResult TypedExpr
cast_at at to t = handle_of t.at t.ty >>= λ h. Ok (term_at at (ty.Handle to) (Cast to t.tree))

-- The walk. `left` is whether the expression is left of `=`.
abbrev mutual
  pub check_expr : Environment → Bool → written.Expr → TypingResult TypedExpr
  check_expr env left (written.Number p n) = Ok (placed p.at (number_term n))
  check_expr env left (written.Truth p b) = Ok (term_at p.at ty.Bool (Truth b))
  check_expr env left (written.Null p) = Ok (term_at p.at ty.Null Null)
  check_expr env left (written.This p) = this_at p.at env.this
  check_expr env left (written.Name p name) = known_at p.at (variable_in env name)
  check_expr env left (written.Call p name es) = check_call env p.at name (check_exprs env es)
  check_expr env left (written.Brackets p e) = check_expr env false e >>= λ t. Ok (in_brackets p.at t)
  check_expr env left (written.Convert p to e) = check_expr env false e >>= λ t. convert_at p.at to t
  check_expr env left (written.NewArray p of es) = check_array env p.at of (check_exprs env es)
  check_expr env left (written.Cast p to e) =
      cast_type to.place.at (object_named env.registered env.declarations to.name) >>= λ o. check_expr env false e
      >>= λ t. cast_at p.at o t
  check_expr env left (written.Postfix p e ss) = check_expr env false e >>= λ t. check_suffixes env t ss
  check_expr env left (written.Unary p op e) = check_expr env false e >>= λ t. unary_at left p.at op t
  check_expr env left (written.Binary p e ls) = check_expr env false e >>= λ t. check_links env t ls
  check_expr env left (written.Conditional p c a b) =
      check_expr env false c >>= λ t. check_expr env false a >>= λ x. check_expr env false b >>= λ y. choice t x y
  check_expr env left (written.Assign p e op v) =
      check_expr env (is_assign op) e >>= λ target. check_expr env false v
      >>= λ value. assigned env.declarations.classes target op value

  -- arguments, each in its turn
  pub check_exprs : Environment → written.Exprs → TypingResult (List TypedExpr)
  check_exprs env written.no_expr = Ok []
  check_exprs env (written.expr e es) = check_expr env false e >>= λ t. check_exprs env es >>= λ ts. Ok (t ∷ ts)

  -- operators of one level, each with what is before it
  pub check_links : Environment → TypedExpr → written.Links → TypingResult TypedExpr
  check_links env t written.no_link = Ok t
  check_links env t (written.link op e ls) =
      check_expr env false e >>= λ operand. operate op t operand >>= λ both. check_links env both ls

  pub check_suffixes : Environment → TypedExpr → written.Suffixes → TypingResult TypedExpr
  check_suffixes env t written.no_suffix = Ok t
  check_suffixes env t (written.suffix s ss) = check_suffix env t s >>= λ next. check_suffixes env next ss

  pub check_suffix : Environment → TypedExpr → written.Suffix → TypingResult TypedExpr
  check_suffix env t (written.Field p name) = field_of env t t.ty p.at name
  check_suffix env t (written.Method p name es) = check_invocation env t p.at name (check_exprs env es)
  check_suffix env t (written.Index e) = check_expr env false e >>= λ i. indexed t t.ty i
  check_suffix env t written.Increment = counted t.at steps.IncrementAfter t (assignable t.form t.tree)
  check_suffix env t written.Decrement = counted t.at steps.DecrementAfter t (assignable t.form t.tree)

-- offsets

-- `first_at e` is where the first token of an expression is.
abbrev pub first_at : written.Expr → ℕ
first_at (written.Postfix p e ss) = first_at e
first_at (written.Binary p e ls) = first_at e
first_at (written.Conditional p c a b) = first_at c
first_at (written.Assign p e op v) = first_at e
first_at e = (written.place_of e).at

-- `all_placed es ts` is what the walk gives of terms.
abbrev pub all_placed : written.Exprs → List Term → List TypedExpr
all_placed (written.expr e es) (t ∷ ts) = placed (first_at e) t ∷ all_placed es ts
all_placed _ _ = []
