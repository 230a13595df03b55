use Rattle.std.proofs.Common.{◌≡◌, ◌++◌, map, drop}
use Rattle.ash_type_rules.specs.TypeRules.{var_type}
use Rattle.ash_check_names.proofs.parameters.script_types.Given as goal

abbrev pub invariant-loop-of : goal.invariant-loop-of
invariant-loop-of l = l.types.items ++ map var_type (drop l.of-index l.all) ≡ map var_type l.all
