use Rattle.std.proofs.Common.{◌≡◌, drop, map}
use Rattle.ash_tree.specs.Tree.{stmts}
use Rattle.ash_tree.specs.TreeViews.{stmt_of}
use Rattle.ash_type_rules.specs.Returning.{any_breaks}
use Rattle.ash_check_statements.proofs.returning.+breaking.Given as goal

abbrev pub invariant-any_breaks-loop-stmt : goal.invariant-any_breaks-loop-stmt
invariant-any_breaks-loop-stmt l = any_breaks (stmts (map stmt_of (drop l.stmt-index l.body))) ≡ any_breaks (stmts (map stmt_of l.body))
