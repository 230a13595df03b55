use Rattle.std.proofs.Common.{◌≡◌, ◌++◌, map, drop}
use Rattle.ash_tree.specs.TreeViews.{item_of}
use Rattle.ash_type_rules.specs.ModuleDeclarations.{named_class}
use Rattle.ash_tree.specs.Items.{classes_of}
use Rattle.ash_check_names.specs.EnvironmentViews.{class_signature_of}
use Rattle.ash_check.proofs.type_names.named_classes.Given as goal

abbrev pub invariant-loop-item : goal.invariant-loop-item
invariant-loop-item l = map class_signature_of l.all.items ++ map named_class (classes_of (map item_of (drop l.item-index l.items))) ≡ map named_class (classes_of (map item_of l.items))
