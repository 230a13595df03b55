use Rattle.std.proofs.Common.{rules}
use Rattle.ash_typed.specs.declared.tree.statements.StmtKind.TheViews as views
use Rattle.ash_typed.proofs.StatementRows.{stmts_of-row}
use Rattle.ash_typed.proofs.nodes.case.Goals as goal

pub returns : goal.returns
returns c = record { label_first = search (rules, views.the_lemmas, stmts_of-row) }
