use Rattle.std.proofs.Common.{◌≡◌, ◌+◌, ◌∙◌, ℕ, List, sym, subst, arith, Some, slice_get, true, false, ap}
use Rattle.ash_tree.specs.TreeViews.{class_of}
use Rattle.ash_class_cycles.specs.ClassReferences.{borrowed_classes}
use Rattle.ash_class_cycles.proofs.ReferenceLaws.{IsRowBefore, row_more, row_same, row_end, borrowed_at, length-borrowed_classes}
use Rattle.ash_class_cycles.proofs.references.row_of.Goals as goal
use Rattle.ash_class_cycles.proofs.references.row_of.Goals.{then-refers+in_ok-push, else-refers}

pub loop-place-preserved : goal.loop-place-preserved
loop-place-preserved c =
    let classes = borrowed_classes c.args.classes.now in
    let one = class_of c.index-classes-place.result.now in
    let other = class_of c.args.to.now in
    let i : ℕ = c.loop-place.place in
    let at : slice_get classes i ≡ Some one =
    borrowed_at c.args.classes.now i c.index-classes-place.result c.loop-place-test.true c.index-classes-place.is in
    elim c.if-refers.branch [
      | then-refers+in_ok-push w ↦
          subst (λ (r : List ℕ). IsRowBefore classes other (i + 1) r)
          (sym (ap (λ v. v.items) w.row-is ∙ w.in_ok-push.ensures.items))
          (row_more classes one other i c.loop-place.row.items at (c.refers.ensures.exact.0 w.if-refers.true)
          c.loop-place.invariant)
      | else-refers w ↦
          subst (λ (r : List ℕ). IsRowBefore classes other (i + 1) r) (sym (ap (λ v. v.items) w.row-is))
          (row_same classes one other i c.loop-place.row.items at
          (λ r. let e : c.refers.result ≡ true = c.refers.ensures.exact.1 r in let f : c.refers.result ≡ false =
          w.if-refers.false in cc) c.loop-place.invariant)
    ]

pub returns : goal.returns
returns c = record {
  exact =
      row_end (borrowed_classes c.args.classes.now) (class_of c.args.to.now) c.loop-place.place c.loop-place.row.items
      (omega (arith, length-borrowed_classes c.args.classes.now, c.loop-place-test.false)) c.loop-place.invariant;
}
