use Rattle.std.proofs.Common.{rules}
use Rattle.ash_tree.specs.declared.tree.statements.StmtKind.TheViews as stmt_views
use Rattle.ash_tree.proofs.Rows.{stmts_of-row}
use Rattle.ash_tree.proofs.nodes.case.Goals as goal

pub returns : goal.returns
returns c = record { body_after_label = search (rules, stmt_views.the_lemmas, stmts_of-row) }
