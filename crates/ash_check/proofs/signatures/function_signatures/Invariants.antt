use Rattle.std.proofs.Common.{◌≡◌, ◌++◌, map, drop}
use Rattle.ash_registrations.specs.Registered.{registered}
use Rattle.ash_tree.specs.TreeViews.{item_of}
use Rattle.ash_type_rules.specs.ModuleDeclarations.{function_declaration}
use Rattle.ash_tree.specs.Items.{functions_of}
use Rattle.ash_check_names.specs.EnvironmentViews.{function_signature_of, signatures_of}
use Rattle.ash_check.proofs.signatures.function_signatures.Given as goal

abbrev pub invariant-loop-item : goal.invariant-loop-item
invariant-loop-item l = map function_signature_of l.all.items ++ map (function_declaration (registered l.registry) (signatures_of l.type_names)) (functions_of (map item_of (drop l.item-index l.items))) ≡ map (function_declaration (registered l.registry) (signatures_of l.type_names)) (functions_of (map item_of l.items))
