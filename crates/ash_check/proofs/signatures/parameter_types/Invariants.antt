use Rattle.std.proofs.Common.{◌≡◌, ◌++◌, map, drop}
use Rattle.ash_registrations.specs.Registered.{registered}
use Rattle.ash_tree.specs.TreeViews.{parameter_of}
use Rattle.ash_type_rules.specs.ModuleDeclarations.{parameter_ty}
use Rattle.ash_check_names.specs.EnvironmentViews.{signatures_of}
use Rattle.ash_check.proofs.signatures.parameter_types.Given as goal

abbrev pub invariant-loop-parameter : goal.invariant-loop-parameter
invariant-loop-parameter l = l.types.items ++ map (parameter_ty (registered l.registry) (signatures_of l.type_names)) (map parameter_of (drop l.parameter-index l.parameters)) ≡ map (parameter_ty (registered l.registry) (signatures_of l.type_names)) (map parameter_of l.parameters)
