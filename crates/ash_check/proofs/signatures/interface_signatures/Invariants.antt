use Rattle.std.proofs.Common.{◌≡◌, ◌++◌, map, drop}
use Rattle.ash_registrations.specs.Registered.{registered}
use Rattle.ash_tree.specs.TreeViews.{item_of}
use Rattle.ash_type_rules.specs.ModuleDeclarations.{interface_declaration}
use Rattle.ash_tree.specs.Items.{interfaces_of}
use Rattle.ash_check_names.specs.EnvironmentViews.{interface_signature_of, signatures_of}
use Rattle.ash_check.proofs.signatures.interface_signatures.Given as goal

abbrev pub invariant-loop-item : goal.invariant-loop-item
invariant-loop-item l = map interface_signature_of l.all.items ++ map (interface_declaration (registered l.registry) (signatures_of l.type_names)) (interfaces_of (map item_of (drop l.item-index l.items))) ≡ map (interface_declaration (registered l.registry) (signatures_of l.type_names)) (interfaces_of (map item_of l.items))
