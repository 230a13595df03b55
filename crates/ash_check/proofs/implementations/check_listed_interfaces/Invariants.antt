use Rattle.std.proofs.Common.{◌≡◌, map, drop}
use Rattle.ash_tree.specs.TreeViews.{type_name_of}
use Rattle.ash_type_rules.specs.ItemRules as definition
use Rattle.ash_check_names.specs.EnvironmentViews.{environment_of}
use Rattle.ash_check.specs.WalkViews.{listed_interfaces_of}
use Rattle.ash_check.proofs.implementations.check_listed_interfaces.Given as goal

-- the outcome of what is left is that of the whole
abbrev pub invariant-loop-name : goal.invariant-loop-name
invariant-loop-name l = definition.all_listed (environment_of l.env) l.class (listed_interfaces_of l.listed) (map type_name_of (drop l.name-index l.names)) ≡ definition.all_listed (environment_of l.env) l.class (listed_interfaces_of l.initial.listed) (map type_name_of l.names)
