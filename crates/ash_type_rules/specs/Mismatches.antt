-- Where the types of a phrase of a module do not fit: the parts of the phrase have types, and one of them is none that
-- the phrase takes. Types that are unknown fit, since the fault is at the type.
use Rattle.std.specs.Prelude.{◌≡◌, ℕ, List, [], ◌∷◌, Bool, true, false, Option, Some, None, Ok, length, nat_eq}
use Rattle.std.specs.Prelude.{if◌then◌else◌}
use Rattle.ash_registrations.specs.Registrations.{Registration}
use Rattle.ash_tree.specs.Tree as written
use Rattle.ash_tree.specs.declared.tree.places.Position.{Position}
use Rattle.ash_tree.specs.declared.tree.types.Primitive.{Primitive}
use Rattle.ash_tree.specs.declared.tree.operators.UnaryOp.{UnaryOp}
use Rattle.ash_tree.specs.declared.tree.operators.UnaryOp.TheVariants as unary
use Rattle.ash_tree.specs.declared.tree.operators.BinaryOp.{BinaryOp}
use Rattle.ash_tree.specs.declared.tree.operators.AssignOp.{AssignOp}
use Rattle.ash_typed.specs.declared.types.ObjectType.{ObjectType}
use Rattle.ash_typed.specs.declared.types.ObjectType.TheVariants as objects
use Rattle.ash_typed.specs.declared.tree.operations.Calculator.{Calculator}
use Rattle.ash_typed.specs.TypedTree.{Null}
use Rattle.ash_type_rules.specs.declared.fault.Rule.TheVariants.{TypeMismatch}
use Rattle.ash_type_rules.specs.declared.types.Ty.{Ty}
use Rattle.ash_type_rules.specs.declared.types.Ty.TheVariants as ty
use Rattle.ash_type_rules.specs.TypingResult.{broken}
use Rattle.ash_type_rules.specs.TypeRules.{object_of, ty_of, common, binary_of}
use Rattle.ash_type_rules.specs.Coercions.{fits}
use Rattle.ash_type_rules.specs.Environment.{Environment, ClassSignature, Callee, Invoked, callee_in, method_in}
use Rattle.ash_type_rules.specs.Environment.{construction}
use Rattle.ash_type_rules.specs.ModuleDeclarations.{declarations, object_named}
use Rattle.ash_type_rules.specs.Typing.{is_object}
use Rattle.ash_type_rules.specs.ExpressionRules.{TypedExpr, term_at, is_void, is_assign, unify_operands, check_expr}
use Rattle.ash_type_rules.specs.ExpressionRules.{check_exprs}
use Rattle.ash_type_rules.specs.Terms.{operator_of, array_parameters}
use Rattle.ash_type_rules.specs.Scopes.{Scope, block_of, after}
use Rattle.ash_type_rules.specs.StatementRules.{gives_nothing}
use Rattle.ash_type_rules.specs.Implementations.{implemented}
use Rattle.ash_type_rules.specs.Phrases.{Expression, Statement, Interfaces, Occurs, Links, Suffixes, Initializer}

-- what a part may be

abbrev pub may_be_integer : Ty → Bool
may_be_integer (ty.Integer k) = true
may_be_integer ty.Unknown = true
may_be_integer _ = false

abbrev pub may_be_bool : Ty → Bool
may_be_bool ty.Bool = true
may_be_bool ty.Unknown = true
may_be_bool _ = false

abbrev pub may_be_object : Ty → Bool
may_be_object (ty.Object o) = true
may_be_object (ty.Handle o) = true
may_be_object ty.Unknown = true
may_be_object _ = false

abbrev pub is_array_object : ObjectType → Bool
is_array_object (objects.Array e) = true
is_array_object _ = false

abbrev pub may_be_array : Ty → Bool
may_be_array (ty.Object o) = is_array_object o
may_be_array (ty.Handle o) = is_array_object o
may_be_array ty.Unknown = true
may_be_array _ = false

-- A `cast` makes an object of this type.
abbrev pub is_cast_type : ObjectType → Bool
is_cast_type (objects.Class class) = true
is_cast_type (objects.Interface interface) = true
is_cast_type _ = false

-- An operator before an operand takes this type.
abbrev pub takes_operand : UnaryOp → Ty → Bool
takes_operand unary.Not t = may_be_bool t
takes_operand unary.Handle t = may_be_object t
takes_operand _ t = may_be_integer t

-- A value of the second type becomes one of the first, which is primitive.
abbrev pub converts : Ty → Ty → Bool
converts (ty.Integer k) t = may_be_integer t
converts _ t = may_be_bool t

-- The suffix is `++` or `--`.
abbrev pub counts_after : written.Suffix → Bool
counts_after written.Increment = true
counts_after written.Decrement = true
counts_after _ = false

-- The suffix names a member of an object.
abbrev pub names_member : written.Suffix → Bool
names_member (written.Field p text) = true
names_member (written.Method p text es) = true
names_member _ = false

-- `condition_of s` is the condition of a statement that has one, but of a `for`.
abbrev pub condition_of : written.Stmt → Option written.Expr
condition_of (written.If p c s) = Some c
condition_of (written.IfElse p c s t) = Some c
condition_of (written.While p c s) = Some c
condition_of (written.DoWhile p s c) = Some c
condition_of _ = None

-- An argument, whose first token has this offset, does not fit its parameter.
pub data IsUnfit (classes : List ClassSignature) : List Ty → List TypedExpr → ℕ → Type 0 where
  this_one : {of : Ty} {t : TypedExpr} {parameters : List Ty} {ts : List TypedExpr}
      → fits classes of t.ty ≡ false
      → IsUnfit classes (of ∷ parameters) (t ∷ ts) t.at
  later_one : {of : Ty} {t : TypedExpr} {parameters : List Ty} {ts : List TypedExpr} {at : ℕ}
      → IsUnfit classes parameters ts at
      → IsUnfit classes (of ∷ parameters) (t ∷ ts) at

-- Types do not fit at this offset: in the module of this script, with these registrations.
pub data Mismatches (registrations : List Registration) (script : List written.Item) : ℕ → Type 0 where
  -- an argument does not fit its parameter
  of_call : {env : Environment} {p : Position} {text : List ℕ} {es : written.Exprs} {callee : Callee}
      {parameters : List Ty} {ts : List TypedExpr} {at : ℕ}
      → Occurs registrations script (Expression env (written.Call p text es))
      → callee_in env text ≡ Some callee
      → callee.parameters ≡ Some parameters
      → check_exprs env es ≡ Ok ts
      → IsUnfit env.declarations.classes parameters ts at
      → Mismatches registrations script at
  of_method : {env : Environment} {t : TypedExpr} {p : Position} {text : List ℕ} {es : written.Exprs}
      {ss : written.Suffixes}
      {o : ObjectType} {m : Invoked} {ts : List TypedExpr} {at : ℕ}
      → Occurs registrations script (Suffixes env t (written.suffix (written.Method p text es) ss))
      → object_of t.ty ≡ Some o
      → method_in env o text ≡ Some m
      → check_exprs env es ≡ Ok ts
      → IsUnfit env.declarations.classes m.parameters ts at
      → Mismatches registrations script at
  of_array : {env : Environment} {p : Position} {of : written.Element} {es : written.Exprs} {ts : List TypedExpr}
      {at : ℕ} → Occurs registrations script (Expression env (written.NewArray p of es))
      → check_exprs env es ≡ Ok ts
      → IsUnfit env.declarations.classes (array_parameters (length ts)) ts at
      → Mismatches registrations script at
  of_variable : {env : Environment} {of_at at : ℕ} {o : ObjectType} {es : List written.Expr} {callee : Callee}
      {parameters : List Ty} {ts : List TypedExpr} {arg_at : ℕ}
      → Occurs registrations script (Initializer env of_at at (ty.Object o) (written.Arguments es))
      → check_exprs env (written.exprs es) ≡ Ok ts
      → construction env o (length ts) ≡ Some callee
      → callee.parameters ≡ Some parameters
      → IsUnfit env.declarations.classes parameters ts arg_at
      → Mismatches registrations script arg_at
  -- an operand is of no type that its operator takes; of two operands the fault is at the one that the operator takes
  -- nowhere
  operand : {env : Environment} {p : Position} {op : UnaryOp} {e : written.Expr} {t : TypedExpr}
      → Occurs registrations script (Expression env (written.Unary p op e))
      → check_expr env false e ≡ Ok t
      → takes_operand op t.ty ≡ false
      → Mismatches registrations script t.at
  operand_before : {env : Environment} {t : TypedExpr} {s : written.Suffix} {ss : written.Suffixes}
      → Occurs registrations script (Suffixes env t (written.suffix s ss))
      → counts_after s ≡ true
      → may_be_integer t.ty ≡ false
      → Mismatches registrations script t.at
  operands : {env : Environment} {t u : TypedExpr} {op : BinaryOp} {e : written.Expr} {ls : written.Links} {at : ℕ}
      → Occurs registrations script (Links env t (written.link op e ls))
      → check_expr env false e ≡ Ok u
      → unify_operands op t u ≡ broken TypeMismatch at
      → Mismatches registrations script at
  converted : {env : Environment} {p : Position} {to : Primitive} {e : written.Expr} {t : TypedExpr}
      → Occurs registrations script (Expression env (written.Convert p to e))
      → check_expr env false e ≡ Ok t
      → converts (ty_of to) t.ty ≡ false
      → Mismatches registrations script t.at
  -- `cast`, of an object to a class or an interface
  cast_from : {env : Environment} {p : Position} {to : written.TypeName} {e : written.Expr} {t : TypedExpr}
      → Occurs registrations script (Expression env (written.Cast p to e))
      → check_expr env false e ≡ Ok t
      → may_be_object t.ty ≡ false
      → Mismatches registrations script t.at
  cast_to : {env : Environment} {p : Position} {to : written.TypeName} {e : written.Expr} {o : ObjectType}
      → Occurs registrations script (Expression env (written.Cast p to e))
      → object_named registrations (declarations registrations script) to.name ≡ Some o
      → is_cast_type o ≡ false
      → Mismatches registrations script to.place.at
  -- c ? a : b
  choice_condition : {env : Environment} {p : Position} {c a b : written.Expr} {t : TypedExpr}
      → Occurs registrations script (Expression env (written.Conditional p c a b))
      → check_expr env false c ≡ Ok t
      → may_be_bool t.ty ≡ false
      → Mismatches registrations script t.at
  branches : {env : Environment} {p : Position} {c a b : written.Expr} {x y : TypedExpr}
      → Occurs registrations script (Expression env (written.Conditional p c a b))
      → check_expr env false a ≡ Ok x
      → check_expr env false b ≡ Ok y
      → common x.ty y.ty ≡ None
      → Mismatches registrations script (if is_void x.ty then x.at else y.at)
  -- what is assigned does not fit the place, or the operator of `op=` takes no such operands
  assigned : {env : Environment} {p : Position} {op : AssignOp} {e v : written.Expr} {t u : TypedExpr}
      → Occurs registrations script (Expression env (written.Assign p e op v))
      → check_expr env (is_assign op) e ≡ Ok t
      → check_expr env false v ≡ Ok u
      → operator_of op ≡ None
      → fits env.declarations.classes t.ty u.ty ≡ false
      → Mismatches registrations script u.at
  updated : {env : Environment} {p : Position} {op : AssignOp} {c : Calculator} {e v : written.Expr} {t u : TypedExpr}
      {at : ℕ}
      → Occurs registrations script (Expression env (written.Assign p e op v))
      → check_expr env (is_assign op) e ≡ Ok t
      → check_expr env false v ≡ Ok u
      → operator_of op ≡ Some c
      → unify_operands (binary_of c) (term_at t.at t.ty Null) u ≡ broken TypeMismatch at
      → Mismatches registrations script at
  updated_place : {env : Environment} {p : Position} {op : AssignOp} {c : Calculator} {e v : written.Expr}
      {t : TypedExpr} → Occurs registrations script (Expression env (written.Assign p e op v))
      → check_expr env (is_assign op) e ≡ Ok t
      → operator_of op ≡ Some c
      → may_be_integer t.ty ≡ false
      → Mismatches registrations script t.at
  -- members and elements of what is no object, and of what is no array; and an index
  no_object : {env : Environment} {t : TypedExpr} {s : written.Suffix} {ss : written.Suffixes}
      → Occurs registrations script (Suffixes env t (written.suffix s ss))
      → names_member s ≡ true
      → may_be_object t.ty ≡ false
      → Mismatches registrations script t.at
  no_array : {env : Environment} {t : TypedExpr} {e : written.Expr} {ss : written.Suffixes}
      → Occurs registrations script (Suffixes env t (written.suffix (written.Index e) ss))
      → may_be_array t.ty ≡ false
      → Mismatches registrations script t.at
  no_index : {env : Environment} {t u : TypedExpr} {e : written.Expr} {ss : written.Suffixes}
      → Occurs registrations script (Suffixes env t (written.suffix (written.Index e) ss))
      → check_expr env false e ≡ Ok u
      → may_be_integer u.ty ≡ false
      → Mismatches registrations script u.at
  -- what a variable begins with; but of objects, its brackets have one value, and of a handle it has none
  initial_value : {env : Environment} {of_at at : ℕ} {of : Ty} {e : written.Expr} {t : TypedExpr}
      → Occurs registrations script (Initializer env of_at at of (written.Value e))
      → check_expr env false e ≡ Ok t
      → fits env.declarations.classes of t.ty ≡ false
      → Mismatches registrations script t.at
  initial_argument : {env : Environment} {of_at at : ℕ} {of : Ty} {es : List written.Expr} {t : TypedExpr}
      → Occurs registrations script (Initializer env of_at at of (written.Arguments es))
      → check_exprs env (written.exprs es) ≡ Ok (t ∷ [])
      → fits env.declarations.classes of t.ty ≡ false
      → Mismatches registrations script t.at
  brackets : {env : Environment} {of_at at : ℕ} {of : Ty} {es : List written.Expr} {ts : List TypedExpr}
      → Occurs registrations script (Initializer env of_at at of (written.Arguments es))
      → is_object of ≡ false
      → check_exprs env (written.exprs es) ≡ Ok ts
      → nat_eq (length ts) 1 ≡ false
      → Mismatches registrations script at
  handle_brackets : {env : Environment} {of_at at : ℕ} {o : ObjectType} {es : List written.Expr}
      → Occurs registrations script (Initializer env of_at at (ty.Handle o) (written.Arguments es))
      → Mismatches registrations script at
  -- conditions, and the value of a `switch`
  condition : {scope : Scope} {s : written.Stmt} {c : written.Expr} {t : TypedExpr}
      → Occurs registrations script (Statement scope s)
      → condition_of s ≡ Some c
      → check_expr scope.env false c ≡ Ok t
      → may_be_bool t.ty ≡ false
      → Mismatches registrations script t.at
  for_condition : {scope : Scope} {p : Position} {f s : written.Stmt} {c : written.Expr} {es : List written.Expr}
      {t : TypedExpr}
      → Occurs registrations script (Statement scope (written.For p f (Some c) es s))
      → check_expr (after (block_of scope) f).env false c ≡ Ok t
      → may_be_bool t.ty ≡ false
      → Mismatches registrations script t.at
  switch_value : {scope : Scope} {p : Position} {e : written.Expr} {cs : written.Cases} {t : TypedExpr}
      → Occurs registrations script (Statement scope (written.Switch p e cs))
      → check_expr scope.env false e ≡ Ok t
      → may_be_integer t.ty ≡ false
      → Mismatches registrations script t.at
  -- `return`: a value that does not fit, one where none is given, and none where one is
  returned : {scope : Scope} {p : Position} {e : written.Expr} {t : TypedExpr}
      → Occurs registrations script (Statement scope (written.Return p (Some e)))
      → check_expr scope.env false e ≡ Ok t
      → fits scope.env.declarations.classes scope.result t.ty ≡ false
      → Mismatches registrations script t.at
  returned_value : {scope : Scope} {p : Position} {e : written.Expr}
      → Occurs registrations script (Statement scope (written.Return p (Some e)))
      → is_void scope.result ≡ true
      → Mismatches registrations script p.at
  returned_nothing : {scope : Scope} {p : Position}
      → Occurs registrations script (Statement scope (written.Return p None))
      → gives_nothing scope.result ≡ false
      → Mismatches registrations script p.at
  -- a class lacks a method of an interface that it lists, or has it with other types
  lacks_method : {env : Environment} {place interface : ℕ} {before : List written.TypeName} {n : written.TypeName}
      {ns : List written.TypeName}
      → Occurs registrations script (Interfaces env place before (n ∷ ns))
      → object_named registrations (declarations registrations script) n.name ≡ Some (objects.Interface interface)
      → implemented env place interface ≡ None
      → Mismatches registrations script n.place.at
