use Rattle.std.proofs.Common.{◌≡◌, ◌++◌, drop, map}
use Rattle.ash_tree.specs.TreeViews.{item_of}
use Rattle.ash_class_cycles.specs.ClassReferences.{classes_of, borrowed_classes}
use Rattle.ash_class_cycles.proofs.references.classes.Given as goal

abbrev pub invariant-loop-item : goal.invariant-loop-item
invariant-loop-item l =
    borrowed_classes l.classes.items ++ classes_of (map item_of (drop l.item-index l.items)) ≡ classes_of (map item_of l.items)
