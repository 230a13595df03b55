-- The statements of a block and the labels of a `switch`, read from their rows in memory or from the lists of a `Vec`.
use Rattle.std.proofs.Common.{◌≡◌, ℕ, ap, refl, rules, map}
use Rattle.std.specs.declared.vec.Vec.{Vec}
use Rattle.std.specs.declared.alloc.Global.{Global}
use Rattle.ash_typed.specs.declared.tree.statements.StmtKind.{Row_of-Stmt, end_of-Stmt, more_of-Stmt}
use Rattle.ash_typed.specs.declared.tree.statements.StmtKind.{items-the_row-Stmt, Row_of-Case, end_of-Case}
use Rattle.ash_typed.specs.declared.tree.statements.StmtKind.{more_of-Case, items-the_row-Case}
use Rattle.ash_typed.specs.declared.tree.statements.StmtKind.TheViews as views
use Rattle.ash_integers.specs.declared.int_type.IntType.{IntType}
use Rattle.ash_typed.specs.declared.tree.statements.Stmt as code_stmt
use Rattle.ash_typed.specs.declared.tree.statements.Case as code_case
use Rattle.ash_typed.specs.declared.tree.expressions.Expr as code_expr
use Rattle.ash_typed.specs.StatementTree.{Block, Switch, stmt, stmts, next_case, cases}
use Rattle.ash_typed.specs.TypedTreeViews.{expr_of}
use Rattle.ash_typed.specs.BodyViews.{stmt_at, stmt_of, stmts_of, case_of, cases_of, body_of}

pub stmts_of-row : {n : _} (row : Row_of-Stmt n) → stmts_of row ≡ stmts (map stmt_of (items-the_row-Stmt n row))
stmts_of-row end_of-Stmt = refl
stmts_of-row (more_of-Stmt line k rest) = ap (stmt (stmt_at line k)) (stmts_of-row rest)

pub cases_of-row : {n : _} (row : Row_of-Case n) → cases_of row ≡ cases (map case_of (items-the_row-Case n row))
cases_of-row end_of-Case = refl
cases_of-row (more_of-Case c rest) = ap (next_case (case_of c)) (cases_of-row rest)

pub block_is : (line : ℕ) (ss : Vec code_stmt.Stmt Global)
    → stmt_at line (views.Block ss) ≡ Block line (body_of ss.items)
block_is line ss = search (rules, views.the_lemmas, stmts_of-row)

pub switch_is : (line : ℕ) (of : IntType) (e : code_expr.Expr) (cs : Vec code_case.Case Global)
    → stmt_at line (views.Switch of e cs) ≡ Switch line of (expr_of e) (cases (map case_of cs.items))
switch_is line of e cs = search (rules, views.the_lemmas, cases_of-row)
