-- Typed nodes that hold an optional node.
use Rattle.std.proofs.Common.{◌≡◌, ℕ, Some, None, rules}
use Rattle.std.specs.declared.boxed.Box.{Box}
use Rattle.std.specs.declared.alloc.Global.{Global}
use Rattle.ash_typed.specs.declared.tree.expressions.Expr as code_expr
use Rattle.ash_typed.specs.declared.tree.statements.Stmt as code_stmt
use Rattle.ash_typed.specs.declared.tree.statements.StmtKind.TheViews as views
use Rattle.ash_typed.specs.StatementTree.{If, no_branch, branch}
use Rattle.ash_typed.specs.TypedTreeViews.{expr_of}
use Rattle.ash_typed.specs.BodyViews.{stmt_at, stmt_of}

pub if_is : (line : ℕ) (c : code_expr.Expr) (s : Box code_stmt.Stmt Global) → stmt_at line (views.If c s None) ≡ If line (expr_of c) (stmt_of s.value) no_branch
if_is line c s = search (rules, views.the_lemmas)

pub if_else_is : (line : ℕ) (c : code_expr.Expr) (s t : Box code_stmt.Stmt Global) → stmt_at line (views.If c s (Some t)) ≡ If line (expr_of c) (stmt_of s.value) (branch (stmt_of t.value))
if_else_is line c s t = search (rules, views.the_lemmas)
