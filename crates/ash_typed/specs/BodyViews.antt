-- These definitions say what the code's typed statements represent.
use Rattle.std.specs.Prelude.{ℕ, List, map, option_map, string_bytes}
use Rattle.ash_typed.specs.declared.tree.statements.StmtKind as stmt_kind
use Rattle.ash_typed.specs.declared.tree.statements.StmtKind.TheVariants as kinds
use Rattle.ash_typed.specs.declared.tree.statements.Stmt as stmt_code
use Rattle.ash_typed.specs.declared.tree.statements.Case as case_code
use Rattle.ash_typed.specs.declared.tree.statements.Loop as loop_code
use Rattle.ash_typed.specs.declared.tree.statements.Head as head_code
use Rattle.ash_typed.specs.declared.tree.statements.Head.TheVariants as heads
use Rattle.ash_typed.specs.declared.tree.statements.Initialization as initialization_code
use Rattle.ash_typed.specs.StatementTree.{Initialization, Stmt, Empty, Declare, Evaluate, Block, If, Branch, no_branch}
use Rattle.ash_typed.specs.StatementTree.{branch, Head, no_head, declared_head, evaluated_head, Repeat, For, Loop}
use Rattle.ash_typed.specs.StatementTree.{repeated, Switch, Break, Continue, Return, Stmts, no_stmt, stmt, stmts, Case}
use Rattle.ash_typed.specs.StatementTree.{labelled, Cases, no_case, next_case}
use Rattle.ash_typed.specs.TypedTreeViews.{expr_of}

-- `value_of v` is the variable that the code's represents.
abbrev pub value_of : initialization_code.Initialization → Initialization
value_of v = record { name = string_bytes v.name; of = v.of; value = option_map expr_of v.value }

-- `head_of head` is the head of a `for` that the code's represents.
abbrev pub head_of : head_code.Head → Head
head_of heads.Empty = no_head
head_of (heads.Declare values) = declared_head (map value_of values.items)
head_of (heads.Evaluate e) = evaluated_head (expr_of e)

abbrev mutual
  pub stmt_at : ℕ → stmt_kind.StmtKind → Stmt
  stmt_at line kinds.Empty = Empty line
  stmt_at line (kinds.Declare values) = Declare line (map value_of values.items)
  stmt_at line (kinds.Evaluate e) = Evaluate line (expr_of e)
  stmt_at line (kinds.Block' shape ss) = Block line (stmts_of ss)
  stmt_at line (kinds.If' c a l k other) = If line (expr_of c) (stmt_at l k) (branch_of other)
  stmt_at line (kinds.Repeat inside) = Repeat line (loop_of inside)
  stmt_at line (kinds.For head inside) = For line (head_of head) (loop_of inside)
  stmt_at line (kinds.Switch' of e shape cs) = Switch line of (expr_of e) (cases_of cs)
  stmt_at line kinds.Break = Break line
  stmt_at line kinds.Continue = Continue line
  stmt_at line (kinds.Return e) = Return line (option_map expr_of e)

  pub branch_of : stmt_kind.Held-StmtKind-If-2 → Branch
  branch_of stmt_kind.None' = no_branch
  branch_of (stmt_kind.Some' a l k) = branch (stmt_at l k)

  pub loop_of : loop_code.Loop → Loop
  loop_of (loop_code.Loop' test c es a l k) = repeated test (option_map expr_of c) (map expr_of es.items) (stmt_at l k)

  pub stmts_of : {n : _} → stmt_kind.Row_of-Stmt n → Stmts
  stmts_of stmt_kind.end_of-Stmt = no_stmt
  stmts_of (stmt_kind.more_of-Stmt line k rest) = stmt (stmt_at line k) (stmts_of rest)

  pub cases_of : {n : _} → stmt_kind.Row_of-Case n → Cases
  cases_of stmt_kind.end_of-Case = no_case
  cases_of (stmt_kind.more_of-Case c rest) = next_case (case_of c) (cases_of rest)

  pub case_of : case_code.Case → Case
  case_of (case_code.Case' l shape ss) = labelled l (stmts_of ss)

-- `stmt_of s` is the statement that the code's represents.
abbrev pub stmt_of : stmt_code.Stmt → Stmt
stmt_of s = stmt_at s.line s.kind

-- `body_of ss` are the statements of a body.
abbrev pub body_of : List stmt_code.Stmt → Stmts
body_of ss = stmts (map stmt_of ss)
