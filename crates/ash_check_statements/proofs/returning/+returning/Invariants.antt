use Rattle.std.proofs.Common.{◌≡◌, drop, map}
use Rattle.ash_tree.specs.Tree.{stmts}
use Rattle.ash_tree.specs.TreeViews.{stmt_of}
use Rattle.ash_type_rules.specs.Returning.{any_returns}
use Rattle.ash_check_statements.proofs.returning.+returning.Given as goal

abbrev pub invariant-any_returns-loop-stmt : goal.invariant-any_returns-loop-stmt
invariant-any_returns-loop-stmt l = any_returns (stmts (map stmt_of (drop l.stmt-index l.body))) ≡ any_returns (stmts (map stmt_of l.body))
