use Rattle.std.proofs.Common.{◌≡◌, map, drop}
use Rattle.ash_type_rules.specs.Environment.{first_from, is_called}
use Rattle.ash_check_names.specs.EnvironmentViews.{function_signature_of}
use Rattle.ash_check_names.proofs.lookup.first_function.Given as goal

abbrev pub invariant-loop-i : goal.invariant-loop-i
invariant-loop-i l = first_from (is_called l.name) l.i (map function_signature_of (drop l.i l.all)) ≡ first_from (is_called l.name) 0 (map function_signature_of l.all)
