use Rattle.std.proofs.Common.{◌≡◌, ◌++◌, map, drop}
use Rattle.ash_registrations.specs.Registered.{registered}
use Rattle.ash_tree.specs.TreeViews.{item_of}
use Rattle.ash_type_rules.specs.ModuleDeclarations.{class_declaration}
use Rattle.ash_tree.specs.Items.{classes_of}
use Rattle.ash_check_names.specs.EnvironmentViews.{class_signature_of, signatures_of}
use Rattle.ash_check.proofs.signatures.class_signatures.Given as goal

abbrev pub invariant-loop-item : goal.invariant-loop-item
invariant-loop-item l = map class_signature_of l.all.items ++ map (class_declaration (registered l.registry) (signatures_of l.type_names)) (classes_of (map item_of (drop l.item-index l.items))) ≡ map (class_declaration (registered l.registry) (signatures_of l.type_names)) (classes_of (map item_of l.items))
