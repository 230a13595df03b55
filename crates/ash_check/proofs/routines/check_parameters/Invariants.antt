use Rattle.std.proofs.Common.{◌≡◌, [], map, drop}
use Rattle.ash_tree.specs.TreeViews.{parameter_of}
use Rattle.ash_type_rules.specs.ItemRules as definition
use Rattle.ash_check_names.specs.EnvironmentViews.{binding_of, environment_of}
use Rattle.ash_check.proofs.routines.check_parameters.Given as goal

-- the outcome of what is left is that of the whole
abbrev pub invariant-loop-parameter : goal.invariant-loop-parameter
invariant-loop-parameter l = definition.check_parameters (environment_of l.env) (map binding_of l.all.items) (map parameter_of (drop l.parameter-index l.parameters)) ≡ definition.check_parameters (environment_of l.env) [] (map parameter_of l.parameters)
