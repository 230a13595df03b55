use Rattle.std.proofs.Common.{◌≡◌, map}
use Rattle.std.specs.Vec.Iter.{into_iter_items}
use Rattle.ash_typed.specs.TypedTreeViews.{expr_of}
use Rattle.ash_type_rules.specs.ExpressionRules.{all_coerced}
use Rattle.ash_check_names.specs.EnvironmentViews.{parameters_of, classes_of}
use Rattle.ash_check_expressions.specs.TypedExprViews.{typed_of}
use Rattle.ash_check_expressions.proofs.Loops.{coerced_after}
use Rattle.ash_check_expressions.proofs.calls.coerce_arguments.Given as goal

abbrev pub invariant-loop-argument : goal.invariant-loop-argument
invariant-loop-argument l =
    coerced_after (classes_of l.env) (map expr_of l.coerced.items) (parameters_of l.rest) (map typed_of (into_iter_items l.argument-iterator)) ≡ all_coerced (classes_of l.env) (parameters_of l.parameters) (map typed_of l.fn.arguments.items)
