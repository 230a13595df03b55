use Rattle.std.proofs.Common.{◌≡◌, map, drop}
use Rattle.ash_tree.specs.TreeViews.{interface_method_of}
use Rattle.ash_type_rules.specs.ItemRules.{check_signatures}
use Rattle.ash_check_names.specs.EnvironmentViews.{environment_of}
use Rattle.ash_check.specs.WalkViews.{interface_parts_of}
use Rattle.ash_check.proofs.interfaces.check_interface.Given as goal

-- the outcome of what is left is that of the whole
abbrev pub invariant-loop-method : goal.invariant-loop-method
invariant-loop-method l = check_signatures (environment_of l.env) (interface_parts_of l.parts) (map interface_method_of (drop l.method-index l.interface.methods.items)) ≡ check_signatures (environment_of l.env) (interface_parts_of l.initial.parts) (map interface_method_of l.interface.methods.items)
