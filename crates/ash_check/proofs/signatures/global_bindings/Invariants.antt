use Rattle.std.proofs.Common.{◌≡◌, ◌++◌, map, drop}
use Rattle.ash_registrations.specs.Registered.{registered}
use Rattle.ash_tree.specs.TreeViews.{item_of}
use Rattle.ash_type_rules.specs.ModuleDeclarations.{all_variables}
use Rattle.ash_tree.specs.Items.{globals_of}
use Rattle.ash_check_names.specs.EnvironmentViews.{binding_of, signatures_of}
use Rattle.ash_check.proofs.signatures.global_bindings.Given as goal

abbrev pub invariant-loop-item : goal.invariant-loop-item
invariant-loop-item l = map binding_of l.all.items ++ all_variables (registered l.registry) (signatures_of l.type_names) (globals_of (map item_of (drop l.item-index l.items))) ≡ all_variables (registered l.registry) (signatures_of l.type_names) (globals_of (map item_of l.items))
