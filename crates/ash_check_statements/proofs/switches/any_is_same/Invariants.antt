use Rattle.std.proofs.Common.{◌≡◌, drop}
use Rattle.std.specs.List.{list_any}
use Rattle.ash_type_rules.specs.Labels.{is_same_constant}
use Rattle.ash_check_statements.proofs.switches.any_is_same.Given as goal

abbrev pub invariant-loop-other : goal.invariant-loop-other
invariant-loop-other l = list_any (is_same_constant l.label) (drop l.other-index l.before) ≡ list_any (is_same_constant l.label) l.before
