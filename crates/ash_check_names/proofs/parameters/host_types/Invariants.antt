use Rattle.std.proofs.Common.{◌≡◌, ◌++◌, map, drop}
use Rattle.ash_type_rules.specs.TypeRules.{var_type, ty_of}
use Rattle.ash_check_names.proofs.parameters.host_types.Given as goal

abbrev pub invariant-loop-primitive : goal.invariant-loop-primitive
invariant-loop-primitive l = l.types.items ++ map var_type (map ty_of (drop l.primitive-index l.primitives)) ≡ map var_type (map ty_of l.primitives)
