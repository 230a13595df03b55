use Rattle.std.proofs.Common.{◌≡◌, ◌+◌, ◌*◌, false, map, drop, max}
use denote.Param.Weighed.{most}
use Rattle.ash_tree.specs.declared.tree.expressions.Expr.{size-Expr}
use Rattle.ash_tree.specs.declared.tree.expressions.Link.{size-Link}
use Rattle.ash_tree.specs.declared.tree.expressions.Suffix.{size-Suffix}
use Rattle.ash_tree.specs.Tree as written
use Rattle.ash_tree.specs.TreeViews as views
use Rattle.ash_type_rules.specs.TypingResult.{◌>>=◌}
use Rattle.ash_type_rules.specs.ExpressionRules.{check_expr, check_exprs, check_links, check_suffixes}
use Rattle.ash_check_names.specs.EnvironmentViews.{environment_of}
use Rattle.ash_check_expressions.specs.TypedExprViews.{typed_of}
use Rattle.ash_check_expressions.proofs.Loops.{typed_after}
use Rattle.ash_check_expressions.proofs.expressions.+expressions.Given as goal

-- the depth that a function descends, and how near it is to the next expression

abbrev pub decreases-check_expr : goal.decreases-check_expr
decreases-check_expr l = 3 * size-Expr l.source.now

abbrev pub decreases-check_brackets : goal.decreases-check_brackets
decreases-check_brackets l = 3 * size-Expr l.inner.now + 1

abbrev pub decreases-check_conversion : goal.decreases-check_conversion
decreases-check_conversion l = 3 * size-Expr l.value.now + 1

abbrev pub decreases-check_cast : goal.decreases-check_cast
decreases-check_cast l = 3 * size-Expr l.value.now + 1

abbrev pub decreases-check_new_array : goal.decreases-check_new_array
decreases-check_new_array l = 3 * most size-Expr l.arguments.now + 2

abbrev pub decreases-check_unary : goal.decreases-check_unary
decreases-check_unary l = 3 * size-Expr l.operand.now + 1

abbrev pub decreases-check_binary : goal.decreases-check_binary
decreases-check_binary l = 3 * max (size-Expr l.first.now) (most size-Link l.operators.now) + 1

abbrev pub decreases-check_conditional : goal.decreases-check_conditional
decreases-check_conditional l =
    3 * max (size-Expr l.condition.now) (max (size-Expr l.then.now) (size-Expr l.otherwise.now)) + 1

abbrev pub decreases-check_assignment : goal.decreases-check_assignment
decreases-check_assignment l = 3 * max (size-Expr l.target.now) (size-Expr l.value.now) + 1

abbrev pub decreases-check_postfix : goal.decreases-check_postfix
decreases-check_postfix l = 3 * max (size-Expr l.operand.now) (most size-Suffix l.rest.now) + 1

abbrev pub decreases-check_suffix : goal.decreases-check_suffix
decreases-check_suffix l = 3 * size-Suffix l.suffix.now

abbrev pub decreases-check_index : goal.decreases-check_index
decreases-check_index l = 3 * size-Expr l.value.now + 1

abbrev pub decreases-check_method_call : goal.decreases-check_method_call
decreases-check_method_call l = 3 * most size-Expr l.arguments.now + 2

abbrev pub decreases-check_call : goal.decreases-check_call
decreases-check_call l = 3 * most size-Expr l.arguments.now + 2

abbrev pub decreases-check_exprs : goal.decreases-check_exprs
decreases-check_exprs l = 3 * most size-Expr l.arguments.now + 1

-- the results so far, with those of the rest, are those of the whole

abbrev pub invariant-check_exprs-loop-argument : goal.invariant-check_exprs-loop-argument
invariant-check_exprs-loop-argument l =
    typed_after (map typed_of l.typed.items) (check_exprs (environment_of l.env) (written.exprs (map views.expr_of (drop l.argument-index l.arguments)))) ≡ check_exprs (environment_of l.env) (written.exprs (map views.expr_of l.arguments))

abbrev pub invariant-check_binary-loop-link : goal.invariant-check_binary-loop-link
invariant-check_binary-loop-link l =
    check_links (environment_of l.env) (typed_of l.typed) (written.links (map views.operation_of (drop l.link-index l.operators))) ≡ (check_expr (environment_of l.env) false (views.expr_of l.fn.first) >>= λ t. check_links (environment_of l.env) t (written.links (map views.operation_of l.operators)))

abbrev pub invariant-check_postfix-loop-suffix : goal.invariant-check_postfix-loop-suffix
invariant-check_postfix-loop-suffix l =
    check_suffixes (environment_of l.env) (typed_of l.typed) (written.suffixes (map views.suffix_of (drop l.suffix-index l.rest))) ≡ (check_expr (environment_of l.env) false (views.expr_of l.fn.operand) >>= λ t. check_suffixes (environment_of l.env) t (written.suffixes (map views.suffix_of l.rest)))
