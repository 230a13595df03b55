use Rattle.ash_tree.specs.TreeViews.{class_of}
use Rattle.ash_class_cycles.specs.ClassReferences.{borrowed_classes}
use Rattle.ash_class_cycles.proofs.ReferenceLaws.{IsRowBefore}
use Rattle.ash_class_cycles.proofs.references.row_of.Given as goal

abbrev pub invariant-loop-place : goal.invariant-loop-place
invariant-loop-place l = IsRowBefore (borrowed_classes l.classes) (class_of l.to) l.place l.row.items
