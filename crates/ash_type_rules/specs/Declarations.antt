-- Variables, and what they begin with (AngelScript manual, "Variables"): an initialiser is walked, then the variable.
use Rattle.std.specs.Prelude.{ℕ, length, false, List, [], ◌∷◌, Option, Some, None, Ok}
use Rattle.ash_tree.specs.Tree as written
use Rattle.ash_type_rules.specs.declared.fault.Rule.TheVariants.{UnknownType, TypeMismatch, NotAssignable, Misplaced}
use Rattle.ash_type_rules.specs.declared.fault.Rule.TheVariants.{NoFactory}
use Rattle.ash_typed.specs.declared.types.ObjectType.TheVariants.{Interface as OfInterface}
use Rattle.ash_type_rules.specs.declared.types.Ty.{Ty}
use Rattle.ash_type_rules.specs.declared.types.Ty.TheVariants as ty
use Rattle.ash_type_rules.specs.TypingResult.{TypingResult, ◌>>=◌, broken}
use Rattle.ash_typed.specs.TypedTree.{Expr}
use Rattle.ash_type_rules.specs.Environment.{Environment, ClassSignature, Callee, construction}
pub use Rattle.ash_typed.specs.StatementTree.{Initialization}
use Rattle.ash_type_rules.specs.ExpressionRules.{TypedExpr, check_expr, check_exprs, coerced_for_assignment, called}
use Rattle.ash_type_rules.specs.ExpressionRules.{at_element}
use Rattle.ash_type_rules.specs.Terms.{initialization}

-- the type of variables

abbrev pub at_type : written.Named → ℕ
at_type of = (written.place_of_type of).at

-- The name in a type is here: in an array, it is that of its elements' type.
abbrev pub at_type_name : written.Named → ℕ
at_type_name (written.Array p of) = at_element of
at_type_name (written.ArrayHandle p of) = at_element of
at_type_name of = at_type of

-- Variables may be of this type: none is itself an object of an interface.
unfoldable pub known_ty : written.Named → Ty → TypingResult Ty
known_ty of ty.Unknown = broken UnknownType (at_type_name of)
known_ty of (ty.Object (OfInterface i)) = broken Misplaced (at_type of)
known_ty of t = Ok t

-- objects are constructed

abbrev pub built : TypedExpr → Option Expr
built t = Some t.tree

-- An object is constructed, by the type at this offset.
unfoldable pub constructed : List ClassSignature → ℕ → List TypedExpr → Option Callee → TypingResult (Option Expr)
constructed classes at ts None = broken NoFactory at
constructed classes at ts (Some callee) = called classes at callee ts callee.parameters >>= λ t. Ok (built t)

-- `T x` begins so.
unfoldable pub begun : Environment → ℕ → Ty → TypingResult (Option Expr)
begun env at (ty.Object o) = constructed env.declarations.classes at [] (construction env o 0)
begun env at _ = Ok None

abbrev pub stored_first : List ClassSignature → Ty → TypedExpr → TypingResult (Option Expr)
stored_first classes of t = coerced_for_assignment classes of t >>= λ e. Ok (Some e)

-- `T x = e`, with x at this offset, begins so: objects are not assigned.
unfoldable pub begun_with : List ClassSignature → ℕ → Ty → TypedExpr → TypingResult (Option Expr)
begun_with classes at (ty.Object o) t = broken NotAssignable at
begun_with classes at of t = stored_first classes of t

-- `T x(e)` is `T x = e` for a primitive type.
unfoldable pub begun_by_one : List ClassSignature → ℕ → Ty → List TypedExpr → TypingResult (Option Expr)
begun_by_one classes at of (t ∷ []) = stored_first classes of t
begun_by_one classes at of _ = broken TypeMismatch at

-- `T x(e ..)`, with the type and x at these offsets, begins so.
unfoldable pub begun_by : Environment → ℕ → ℕ → Ty → List TypedExpr → TypingResult (Option Expr)
begun_by env of_at at (ty.Object o) ts = constructed env.declarations.classes of_at ts (construction env o (length ts))
begun_by env of_at at (ty.Handle o) ts = broken TypeMismatch at
begun_by env of_at at of ts = begun_by_one env.declarations.classes at of ts

unfoldable pub initialized : Environment → ℕ → ℕ → Ty → written.Initializer → TypingResult (Option Expr)
initialized env of_at at of written.Default = begun env of_at of
initialized env of_at at of (written.Value e) = check_expr env false e >>= λ t. begun_with env.declarations.classes
    at of t
initialized env of_at at of (written.Arguments es) =
    check_exprs env (written.exprs es) >>= λ ts. begun_by env of_at at of ts

-- A variable is of this type, which is written at this offset.
unfoldable pub check_decl : Environment → ℕ → Ty → written.Decl → TypingResult Initialization
check_decl env at of d = initialized env at d.place.at of d.initializer >>= λ value. Ok (initialization d.name of value)
