use Rattle.std.proofs.Common.{◌≡◌, ◌∙◌, ap, sym, List, map}
use Rattle.ash_tree.specs.declared.tree.statements.Stmt as code_stmt
use Rattle.ash_tree.specs.Tree.{stmts}
use Rattle.ash_tree.specs.TreeViews.{stmt_at, stmt_of}
use Rattle.ash_tree.proofs.Rows.{block_is}
use Rattle.ash_type_rules.specs.Returning as definition
use Rattle.ash_check_statements.proofs.returning.+breaking.Goals as goal

pub breaks-returns-in-Block : goal.breaks-returns-in-Block
breaks-returns-in-Block t c = record {
  value =
      let s = c.args.stmt.now in
      c.any_breaks.ensures.value ∙ ap (λ (xs : List code_stmt.Stmt). definition.any_breaks (stmts (map stmt_of xs))) c.deref-in-Block.ensures.value ∙ ap definition.breaks (sym (ap (stmt_at s.place) (sym c.deref.ensures ∙ c.in-Block.is) ∙ block_is s.place c.in-Block.body));
}
