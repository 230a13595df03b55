use Rattle.std.proofs.Common.{◌≡◌, map, drop}
use Rattle.ash_type_rules.specs.Environment.{first_from, declares}
use Rattle.ash_check_names.specs.EnvironmentViews.{binding_of}
use Rattle.ash_check_names.proofs.lookup.first_binding.Given as goal

abbrev pub invariant-loop-i : goal.invariant-loop-i
invariant-loop-i l = first_from (declares l.name) l.i (map binding_of (drop l.i l.all)) ≡ first_from (declares l.name) 0 (map binding_of l.all)
