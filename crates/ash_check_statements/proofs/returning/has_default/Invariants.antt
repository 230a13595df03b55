use Rattle.std.proofs.Common.{◌≡◌, drop, map}
use Rattle.ash_tree.specs.Tree.{cases}
use Rattle.ash_tree.specs.TreeViews.{case_of}
use Rattle.ash_type_rules.specs.Returning as definition
use Rattle.ash_check_statements.proofs.returning.has_default.Given as goal

abbrev pub invariant-loop-case : goal.invariant-loop-case
invariant-loop-case l = definition.has_default (cases (map case_of (drop l.case-index l.labels))) ≡ definition.has_default (cases (map case_of l.labels))
