-- The typing of statements (AngelScript manual, "Statements"), as a function whose order is that of the walk: the parts
-- of a statement in the order of the text, then the statement. So a condition that is no `bool` is reported after the
-- faults of what it governs.
use Rattle.std.specs.Prelude.{ℕ, List, [], ◌∷◌, ◌++◌, Bool, true, false, ◌||◌, Option, Some, None, Ok, map, option_map}
use Rattle.std.specs.Prelude.{if◌then◌else◌}
use Rattle.ash_tree.specs.declared.tree.places.Position.{Position}
use Rattle.ash_tree.specs.declared.tree.statements.Label.{Label}
use Rattle.ash_tree.specs.Tree as written
use Rattle.ash_type_rules.specs.declared.fault.Rule.TheVariants.{NameTaken, TypeMismatch, Misplaced}
use Rattle.ash_integers.specs.declared.int_type.IntType.{IntType}
use Rattle.ash_type_rules.specs.declared.types.Ty.{Ty}
use Rattle.ash_type_rules.specs.declared.types.Ty.TheVariants as ty
use Rattle.ash_type_rules.specs.TypingResult.{TypingResult, ◌>>=◌, broken}
use Rattle.ash_typed.specs.declared.tree.statements.Test.TheVariants.{First, Last}
use Rattle.ash_typed.specs.TypedTree.{Expr}
use Rattle.ash_typed.specs.StatementTree.{Initialization, Body, Stmt, Empty, Declare, Evaluate, Block, If, no_branch}
use Rattle.ash_typed.specs.StatementTree.{branch, Head, no_head, declared_head, evaluated_head, Repeat, For, repeated}
use Rattle.ash_typed.specs.StatementTree.{Switch, Break, Continue, Return, Stmts, no_stmt, stmt, labelled, Cases}
use Rattle.ash_typed.specs.StatementTree.{no_case, next_case}
use Rattle.ash_type_rules.specs.Environment.{Declared, ClassSignature, Environment}
use Rattle.ash_type_rules.specs.ExpressionRules.{TypedExpr, check_expr, check_exprs, coerced_for_assignment}
use Rattle.ash_type_rules.specs.ExpressionRules.{integer_of, bool_of, is_void}
use Rattle.ash_type_rules.specs.ModuleDeclarations.{declared, ty_in}
use Rattle.ash_type_rules.specs.Declarations.{at_type, known_ty, check_decl}
use Rattle.ash_type_rules.specs.Switches.{integer_type_in, check_label}
use Rattle.ash_type_rules.specs.Scopes.{Scope, block_of, loop_of, switch_of, with_variables, after, is_taken, body_scope}
use Rattle.ash_type_rules.specs.Labels.{is_last}

-- variables

-- The name of the variable is not taken in its block.
unfoldable pub fresh : Scope → Ty → written.Decl → TypingResult Declared
fresh scope of d = if is_taken scope d.name then broken NameTaken d.place.at else Ok (declared of d)

-- Variables of the type at this offset are each seen from the end of their own on.
abbrev pub check_decls : Scope → ℕ → Ty → List written.Decl → TypingResult (List Initialization)
check_decls scope at of [] = Ok []
check_decls scope at of (d ∷ ds) =
    fresh scope of d >>= λ v. check_decl scope.env at of d
    >>= λ value. check_decls (with_variables scope (v ∷ [])) at of ds >>= λ values. Ok (value ∷ values)

unfoldable pub check_vars : Scope → written.Vars → TypingResult (List Initialization)
check_vars scope v = known_ty v.of (ty_in scope.env v.of) >>= λ of. check_decls scope (at_type v.of) of v.decls

-- The head of a `for` is nothing, variables or an expression, and no other statement.
unfoldable pub check_head : Scope → written.Stmt → TypingResult Head
check_head scope (written.Empty p) = Ok no_head
check_head scope (written.Declare p v) = check_vars scope v >>= λ values. Ok (declared_head values)
check_head scope (written.Evaluate p e) = check_expr scope.env false e >>= λ t. Ok (evaluated_head t.tree)
check_head scope (written.Block p ss) = broken Misplaced p.at
check_head scope (written.If p c s) = broken Misplaced p.at
check_head scope (written.IfElse p c s t) = broken Misplaced p.at
check_head scope (written.While p c s) = broken Misplaced p.at
check_head scope (written.DoWhile p s c) = broken Misplaced p.at
check_head scope (written.For p f c es s) = broken Misplaced p.at
check_head scope (written.Switch p e cs) = broken Misplaced p.at
check_head scope (written.Break p) = broken Misplaced p.at
check_head scope (written.Continue p) = broken Misplaced p.at
check_head scope (written.Return p e) = broken Misplaced p.at

-- statements, once their parts are walked

abbrev pub condition_is : TypedExpr → TypingResult Bool
condition_is t = bool_of t.at t.ty

unfoldable pub check_if : ℕ → TypingResult TypedExpr → TypingResult Stmt → TypingResult Stmt
check_if line condition inner =
    condition >>= λ c. inner >>= λ s. condition_is c >>= λ yes. Ok (If line c.tree s no_branch)

unfoldable pub check_if_else : ℕ → TypingResult TypedExpr → TypingResult Stmt → TypingResult Stmt → TypingResult Stmt
check_if_else line condition inner other =
    condition >>= λ c. inner >>= λ s. other >>= λ t. condition_is c >>= λ yes. Ok (If line c.tree s (branch t))

unfoldable pub check_while : ℕ → TypingResult TypedExpr → TypingResult Stmt → TypingResult Stmt
check_while line condition body =
    condition >>= λ c. body >>= λ s. condition_is c >>= λ yes. Ok (Repeat line (repeated First (Some c.tree) [] s))

unfoldable pub check_do_while : ℕ → TypingResult Stmt → TypingResult TypedExpr → TypingResult Stmt
check_do_while line body condition =
    body >>= λ s. condition >>= λ c. condition_is c >>= λ yes. Ok (Repeat line (repeated Last (Some c.tree) [] s))

-- The head of a `for` may have no condition.
abbrev pub check_optional : Environment → Option written.Expr → TypingResult (Option TypedExpr)
check_optional env None = Ok None
check_optional env (Some e) = check_expr env false e >>= λ t. Ok (Some t)

abbrev pub maybe_condition_is : Option TypedExpr → TypingResult Bool
maybe_condition_is None = Ok true
maybe_condition_is (Some t) = condition_is t

abbrev pub tree_of : TypedExpr → Expr
tree_of t = t.tree

unfoldable pub check_for : ℕ → TypingResult Head → TypingResult (Option TypedExpr) → TypingResult (List TypedExpr)
    → TypingResult Stmt
    → TypingResult Stmt
check_for line head condition steps body =
    head >>= λ h. condition >>= λ c. steps >>= λ ts. body >>= λ s. maybe_condition_is c
    >>= λ yes. Ok (For line h (repeated First (option_map tree_of c) (map tree_of ts) s))

-- A `break` must have something that it leaves.
unfoldable pub check_break : Bool → Position → TypingResult Stmt
check_break leaves p = if leaves then Ok (Break p.line) else broken Misplaced p.at

unfoldable pub check_continue : Bool → Position → TypingResult Stmt
check_continue leaves p = if leaves then Ok (Continue p.line) else broken Misplaced p.at

-- A function of this type returns without a value.
abbrev pub gives_nothing : Ty → Bool
gives_nothing ty.Void = true
gives_nothing ty.Unknown = true
gives_nothing _ = false

-- A value is returned at this offset.
unfoldable pub returned : List ClassSignature → Ty → ℕ → TypedExpr → TypingResult Expr
returned classes of at t = if is_void of then broken TypeMismatch at else coerced_for_assignment classes of t

unfoldable pub check_return : Scope → Position → Option written.Expr → TypingResult Stmt
check_return scope p None = if gives_nothing scope.result then Ok (Return p.line None) else broken TypeMismatch p.at
check_return scope p (Some e) =
    check_expr scope.env false e >>= λ t. returned scope.env.declarations.classes scope.result p.at t
    >>= λ value. Ok (Return p.line (Some value))

-- the walk
abbrev mutual
  pub check_stmt : Scope → written.Stmt → TypingResult Stmt
  check_stmt scope (written.Empty p) = Ok (Empty p.line)
  check_stmt scope (written.Declare p v) = check_vars scope v >>= λ values. Ok (Declare p.line values)
  check_stmt scope (written.Evaluate p e) = check_expr scope.env false e >>= λ t. Ok (Evaluate p.line t.tree)
  check_stmt scope (written.Block p ss) = check_stmts (block_of scope) ss >>= λ body. Ok (Block p.line body)
  check_stmt scope (written.If p c s) = check_if p.line (check_expr scope.env false c) (check_stmt scope s)
  check_stmt scope (written.IfElse p c s t) =
      check_if_else p.line (check_expr scope.env false c) (check_stmt scope s) (check_stmt scope t)
  check_stmt scope (written.While p c s) = check_while p.line (check_expr scope.env false c)
      (check_stmt (loop_of scope) s)
  check_stmt scope (written.DoWhile p s c) =
      check_do_while p.line (check_stmt (loop_of scope) s) (check_expr scope.env false c)
  check_stmt scope (written.For p f c es s) =
      check_for p.line (check_head (block_of scope) f) (check_optional (after (block_of scope) f).env c)
      (check_exprs (after (block_of scope) f).env (written.exprs es))
      (check_stmt (loop_of (after (block_of scope) f)) s)
  check_stmt scope (written.Switch p e cs) =
      check_expr scope.env false e >>= λ v. check_cases (switch_of scope) (integer_type_in v.ty) [] cs
      >>= λ rows. integer_of v.at v.ty >>= λ int_type. Ok (Switch p.line int_type v.tree rows)
  check_stmt scope (written.Break p) = check_break (scope.in_loop || scope.in_switch) p
  check_stmt scope (written.Continue p) = check_continue scope.in_loop p
  check_stmt scope (written.Return p e) = check_return scope p e

  -- statements, each with the variables of those before it
  pub check_stmts : Scope → written.Stmts → TypingResult Stmts
  check_stmts scope written.no_stmt = Ok no_stmt
  check_stmts scope (written.stmt s ss) =
      check_stmt scope s >>= λ t. check_stmts (after scope s) ss >>= λ ts. Ok (stmt t ts)

  -- labels, each after those before it, with the statements after them
  pub check_cases : Scope → Option IntType → List Label → written.Cases → TypingResult Cases
  check_cases scope int_type before written.no_case = Ok no_case
  check_cases scope int_type before (written.next_case (written.labelled p l ss) cs) =
      check_label int_type before (is_last cs) p.at l >>= λ label. check_stmts scope ss
      >>= λ body. check_cases scope int_type (before ++ l ∷ []) cs >>= λ rest. Ok (next_case (labelled label body) rest)

-- The body of a function that gives this type is typed so; its parameters are the locals.
unfoldable pub check_body : Environment → Ty → List written.Stmt → TypingResult Body
check_body env of body = check_stmts (body_scope env of) (written.stmts body)
