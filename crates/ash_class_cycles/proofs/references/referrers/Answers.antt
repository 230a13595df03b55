use Rattle.std.proofs.Common.{◌≡◌, ◌+◌, ◌∙◌, ℕ, List, sym, subst, arith, Some, slice_get, ap}
use Rattle.ash_tree.specs.TreeViews.{class_of}
use Rattle.ash_class_cycles.specs.Marking.{rows_of}
use Rattle.ash_class_cycles.specs.ClassReferences.{borrowed_classes}
use Rattle.ash_class_cycles.proofs.ReferenceLaws.{AreRowsBefore, rows_more, rows_end, rows_of-push, borrowed_at, length-borrowed_classes}
use Rattle.ash_class_cycles.proofs.references.referrers.Goals as goal

pub loop-to-preserved : goal.loop-to-preserved
loop-to-preserved c =
    let classes = borrowed_classes c.args.classes.now in
    let other = class_of c.to-item.result.now in
    let i : ℕ = c.loop-to.to-index in
    let at : slice_get classes i ≡ Some other =
    borrowed_at c.args.classes.now i c.to-item.result c.loop-to-test.true c.to-item.is in
    subst (λ (rs : List (List ℕ)). AreRowsBefore classes (i + 1) rs)
    (sym (ap rows_of c.in_ok-push.ensures.items ∙ rows_of-push c.loop-to.rows.items c.in_ok-row_of.field-0))
    (rows_more classes other i (rows_of c.loop-to.rows.items) c.in_ok-row_of.field-0.items at c.in_ok-row_of.ensures.exact
    c.loop-to.invariant)

pub returns-clause-rows : goal.returns-clause-rows
returns-clause-rows c =
    rows_end (borrowed_classes c.args.classes.now) c.loop-to.to-index (rows_of c.loop-to.rows.items)
    (omega (arith, length-borrowed_classes c.args.classes.now, c.loop-to-test.false)) c.loop-to.invariant
