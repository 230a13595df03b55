use Rattle.std.proofs.Common.{◌≡◌, ◌∙◌, ap, sym, List, map}
use Rattle.ash_tree.specs.declared.tree.statements.Stmt as code_stmt
use Rattle.ash_tree.specs.Tree.{stmts}
use Rattle.ash_tree.specs.TreeViews.{stmt_of}
use Rattle.ash_type_rules.specs.Returning as definition
use Rattle.ash_check_statements.proofs.ReturnLaws.{labels_at, here, later}
use Rattle.ash_check_statements.proofs.returning.breaks_out.Goals as goal

pub returns-then-any_breaks : goal.returns-then-any_breaks
returns-then-any_breaks c = record {
  value =
      let leaves = c.any_breaks.ensures.value ∙ ap (λ (xs : List code_stmt.Stmt). definition.any_breaks (stmts (map stmt_of xs))) c.deref.ensures.value in
      here _ _ (sym leaves ∙ c.if-any_breaks.true) ∙ sym (ap definition.breaks_out (labels_at c.args.labels.now c.loop-case.case-index c.case-item.result c.loop-case-test.true c.case-item.is)) ∙ c.loop-case.invariant;
}

pub loop-case-preserved : goal.loop-case-preserved
loop-case-preserved c =
    let leaves = c.any_breaks.ensures.value ∙ ap (λ (xs : List code_stmt.Stmt). definition.any_breaks (stmts (map stmt_of xs))) c.deref.ensures.value in
    later _ _ (sym leaves ∙ c.if-any_breaks.false) ∙ sym (ap definition.breaks_out (labels_at c.args.labels.now c.loop-case.case-index c.case-item.result c.loop-case-test.true c.case-item.is)) ∙ c.loop-case.invariant
