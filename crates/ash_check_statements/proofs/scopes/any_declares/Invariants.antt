use Rattle.std.proofs.Common.{◌≡◌, map, drop}
use Rattle.std.specs.List.{list_any}
use Rattle.ash_type_rules.specs.Environment.{declares}
use Rattle.ash_check_names.specs.EnvironmentViews.{binding_of}
use Rattle.ash_check_statements.proofs.scopes.any_declares.Given as goal

abbrev pub invariant-loop-declared : goal.invariant-loop-declared
invariant-loop-declared l = list_any (declares l.name) (map binding_of (drop l.declared-index l.all)) ≡ list_any (declares l.name) (map binding_of l.all)
