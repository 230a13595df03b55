use Rattle.std.proofs.Common.{◌≡◌, ◌++◌, map}
use Rattle.std.specs.Vec.Iter.{into_iter_items}
use Rattle.ash_typed.specs.TypedTreeViews.{expr_of}
use Rattle.ash_type_rules.specs.StatementRules.{tree_of}
use Rattle.ash_check_expressions.specs.TypedExprViews.{typed_of, all_typed_of}
use Rattle.ash_check_statements.proofs.loops.trees_of.Given as goal

abbrev pub invariant-loop-one : goal.invariant-loop-one
invariant-loop-one l = map expr_of l.trees.items ++ map tree_of (map typed_of (into_iter_items l.one-iterator)) ≡ map tree_of (all_typed_of l.fn.typed)
