use Rattle.std.proofs.Common.{◌≡◌, ◌++◌, map, drop}
use Rattle.ash_type_rules.specs.Environment.{type_declared}
use Rattle.ash_check_names.specs.EnvironmentViews.{binding_of}
use Rattle.ash_check.proofs.routines.types_of.Given as goal

abbrev pub invariant-loop-declared : goal.invariant-loop-declared
invariant-loop-declared l = l.types.items ++ map type_declared (map binding_of (drop l.declared-index l.all)) ≡ map type_declared (map binding_of l.all)
