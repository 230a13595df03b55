use Rattle.std.proofs.Common.{◌≡◌, ◌+◌, ◌*◌, map, drop, max}
use denote.Param.Weighed.{most}
use Rattle.ash_typed.specs.declared.tree.expressions.Expr.{size-Expr}
use Rattle.ash_typed.specs.declared.tree.expressions.Place.{size-Place}
use Rattle.ash_typed.specs.declared.tree.expressions.Link.{size-Link}
use Rattle.ash_typed.specs.declared.tree.expressions.Operand.{size-Operand}
use Rattle.ash_typed.specs.TypedTree.{exprs}
use Rattle.ash_typed.specs.TypedTreeViews.{expr_of}
use Rattle.ash_meaning.specs.ExpressionMeaning.{arguments}
use Rattle.ash_plain_world.specs.ActivityViews.{activity_seen}
use Rattle.ash_plain_scripts.specs.EvaluatorViews.{calls_seen}
use Rattle.ash_walked_phrases.specs.WalkedPhrases.{operands_run, links_run, lazies_run, arguments_after}
use Rattle.ash_plain_scripts.proofs.evaluator.Evaluator.+expressions.Given as goal

-- the depth of what a function goes down, and how near it is to the next expression

abbrev pub decreases-expression : goal.decreases-expression
decreases-expression g l = 4 * size-Expr l.expr.now

abbrev pub decreases-conditional : goal.decreases-conditional
decreases-conditional g l =
    4 * max (size-Expr l.condition.now) (max (size-Expr l.then.now) (size-Expr l.otherwise.now)) + 1

abbrev pub decreases-update : goal.decreases-update
decreases-update g l = 4 * max (size-Place l.place.now) (size-Expr l.value.now) + 1

abbrev pub decreases-links : goal.decreases-links
decreases-links g l = 4 * most size-Link l.links.now + 1

abbrev pub decreases-link : goal.decreases-link
decreases-link g l = 4 * size-Link l.link.now

abbrev pub decreases-path : goal.decreases-path
decreases-path g l = 4 * max (size-Expr l.base.now) (most size-Link l.links.now) + 2

abbrev pub decreases-chain : goal.decreases-chain
decreases-chain g l = 4 * max (size-Expr l.first.now) (most size-Operand l.operands.now) + 2

abbrev pub decreases-lazy_row : goal.decreases-lazy_row
decreases-lazy_row g l = 4 * max (size-Expr l.first.now) (most size-Expr l.others.now) + 3

abbrev pub decreases-target_call : goal.decreases-target_call
decreases-target_call g l = 4 * most size-Expr l.exprs.now + 2

abbrev pub decreases-invocation : goal.decreases-invocation
decreases-invocation g l = 4 * most size-Expr l.exprs.now + 2

abbrev pub decreases-arguments : goal.decreases-arguments
decreases-arguments g l = 4 * most size-Expr l.all.now + 1

abbrev pub decreases-operands : goal.decreases-operands
decreases-operands g l = 4 * most size-Operand l.operands.now + 1

abbrev pub decreases-operand : goal.decreases-operand
decreases-operand g l = 4 * size-Operand l.operand.now

abbrev pub decreases-lazies : goal.decreases-lazies
decreases-lazies g l = 4 * most size-Expr l.others.now + 2

abbrev pub decreases-lazily : goal.decreases-lazily
decreases-lazily g l = 4 * size-Expr l.right.now + 1

abbrev pub decreases-location : goal.decreases-location
decreases-location g l = 4 * size-Place l.place.now

-- what is left gives what the whole gives

abbrev pub invariant-links-loop-link : goal.invariant-links-loop-link
invariant-links-loop-link g l =
    links_run (calls_seen l.self) (drop l.link-index l.links) l.handle (activity_seen l.activity) ≡ links_run (calls_seen l.self) l.links l.fn.base (activity_seen l.fn.activity)

abbrev pub invariant-arguments-loop-expr : goal.invariant-arguments-loop-expr
invariant-arguments-loop-expr g l =
    arguments_after (calls_seen l.self) l.words.items (exprs (map expr_of (drop l.expr-index l.all))) (activity_seen l.activity) ≡ arguments (calls_seen l.self) (exprs (map expr_of l.all)) (activity_seen l.fn.activity)

abbrev pub invariant-operands-loop-operand : goal.invariant-operands-loop-operand
invariant-operands-loop-operand g l =
    operands_run (calls_seen l.self) (drop l.operand-index l.operands) l.left (activity_seen l.activity) ≡ operands_run (calls_seen l.self) l.operands l.fn.first (activity_seen l.fn.activity)

abbrev pub invariant-lazies-loop-other : goal.invariant-lazies-loop-other
invariant-lazies-loop-other g l =
    lazies_run (calls_seen l.self) l.operator (drop l.other-index l.others) l.left (activity_seen l.activity) ≡ lazies_run (calls_seen l.self) l.operator l.others l.fn.first (activity_seen l.fn.activity)
