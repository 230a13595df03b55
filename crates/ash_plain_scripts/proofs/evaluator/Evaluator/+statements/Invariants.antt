use Rattle.std.proofs.Common.{◌≡◌, ◌+◌, ◌-◌, ◌*◌, drop}
use denote.Param.Weighed.{most}
use Rattle.ash_typed.specs.declared.tree.statements.Stmt.{size-Stmt}
use Rattle.ash_typed.specs.declared.tree.statements.Loop.{size-Loop}
use Rattle.ash_typed.specs.declared.tree.statements.Case.{size-Case}
use Rattle.ash_typed.specs.BodyViews.{body_of}
use Rattle.ash_meaning.specs.StatementMeaning.{statements, turns}
use Rattle.ash_plain_world.specs.ActivityViews.{activity_seen}
use Rattle.ash_plain_scripts.specs.EvaluatorViews.{calls_seen}
use Rattle.ash_walked_phrases.specs.WalkedPhrases.{fall_run, turn_seen}
use Rattle.ash_plain_scripts.proofs.evaluator.Evaluator.+statements.Given as goal

-- the depth of what a function goes down, and how near it is to the next statement

abbrev pub decreases-statement : goal.decreases-statement
decreases-statement g l = 5 * size-Stmt l.stmt.now

abbrev pub decreases-statements : goal.decreases-statements
decreases-statements g l = 5 * most size-Stmt l.body.now + 1

abbrev pub decreases-block : goal.decreases-block
decreases-block g l = 5 * most size-Stmt l.body.now + 2

abbrev pub decreases-fall_through : goal.decreases-fall_through
decreases-fall_through g l = 5 * most size-Case l.cases.now + 1

abbrev pub decreases-switch : goal.decreases-switch
decreases-switch g l = 5 * most size-Case l.cases.now + 2

abbrev pub decreases-for_loop : goal.decreases-for_loop
decreases-for_loop g l = 5 * size-Loop l.inside.now + 4

abbrev pub decreases-repeat : goal.decreases-repeat
decreases-repeat g l = 5 * size-Loop l.inside.now + 3

abbrev pub decreases-turns : goal.decreases-turns
decreases-turns g l = 5 * size-Loop l.inside.now + 2

abbrev pub decreases-next_turn : goal.decreases-next_turn
decreases-next_turn g l = 5 * size-Loop l.inside.now + 1

abbrev pub decreases-turn : goal.decreases-turn
decreases-turn g l = 5 * size-Loop l.inside.now

-- what is left gives what the whole gives

abbrev pub invariant-statements-loop-stmt : goal.invariant-statements-loop-stmt
invariant-statements-loop-stmt g l =
    statements (calls_seen l.self) l.self.depth (body_of (drop l.stmt-index l.body)) (activity_seen l.activity) ≡ statements (calls_seen l.self) l.self.depth (body_of l.body) (activity_seen l.fn.activity)

abbrev pub invariant-turns-loop : goal.invariant-turns-loop
invariant-turns-loop g l =
    let t = turn_seen (calls_seen l.self) l.self.depth l.line l.inside in
    turns (l.self.depth - l.counter) t (activity_seen l.activity) ≡ turns l.self.depth t (activity_seen l.fn.activity)

abbrev pub invariant-fall_through-loop-case : goal.invariant-fall_through-loop-case
invariant-fall_through-loop-case g l =
    fall_run (calls_seen l.self) l.self.depth (drop l.case-index l.cases) (activity_seen l.activity) ≡ fall_run (calls_seen l.self) l.self.depth l.cases (activity_seen l.fn.activity)
