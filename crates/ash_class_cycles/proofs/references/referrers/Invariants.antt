use Rattle.ash_class_cycles.specs.ClassReferences.{borrowed_classes}
use Rattle.ash_class_cycles.specs.Marking.{rows_of}
use Rattle.ash_class_cycles.proofs.ReferenceLaws.{AreRowsBefore}
use Rattle.ash_class_cycles.proofs.references.referrers.Given as goal

abbrev pub invariant-loop-to : goal.invariant-loop-to
invariant-loop-to l = AreRowsBefore (borrowed_classes l.classes) l.to-index (rows_of l.rows.items)
