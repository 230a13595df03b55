use Rattle.std.proofs.Common.{◌≡◌, ◌≤◌, ◌+◌, ◌*◌, drop, map, max}
use denote.Param.Weighed.{most}
use Rattle.ash_typed.specs.declared.tree.statements.Stmt.{size-Stmt}
use Rattle.ash_typed.specs.declared.tree.statements.Loop.{size-Loop}
use Rattle.ash_typed.specs.declared.tree.statements.Case.{size-Case}
use Rattle.ash_typed.specs.StatementTree.{cases as case_list}
use Rattle.ash_typed.specs.BodyViews.{body_of, case_of}
use Rattle.ash_compile.specs.Emission.{end_of}
use Rattle.ash_compile.specs.EmittedStatements.{Draft, draft, EmitsStatements, EmitsLabels, with_count}
use Rattle.ash_compile.proofs.builder.CodeBuilder.+statements.Given as goal

-- the depth of what a function goes down, and how near it is to the next statement

abbrev pub decreases-statement : goal.decreases-statement
decreases-statement l = 5 * size-Stmt l.stmt.now

abbrev pub decreases-listed : goal.decreases-listed
decreases-listed l = 5 * size-Stmt l.stmt.now + 1

abbrev pub decreases-statements : goal.decreases-statements
decreases-statements l = 5 * most size-Stmt l.stmts.now + 2

abbrev pub decreases-block : goal.decreases-block
decreases-block l = 5 * most size-Stmt l.stmts.now + 3

abbrev pub decreases-if_only : goal.decreases-if_only
decreases-if_only l = 5 * size-Stmt l.then.now + 1

abbrev pub decreases-if_else : goal.decreases-if_else
decreases-if_else l = 5 * max (size-Stmt l.then.now) (size-Stmt l.otherwise.now) + 1

abbrev pub decreases-loop_body : goal.decreases-loop_body
decreases-loop_body l = 5 * size-Stmt l.body.now + 1

abbrev pub decreases-turns : goal.decreases-turns
decreases-turns l = 5 * size-Loop l.inside.now

abbrev pub decreases-repeat : goal.decreases-repeat
decreases-repeat l = 5 * size-Loop l.inside.now + 1

abbrev pub decreases-for_loop : goal.decreases-for_loop
decreases-for_loop l = 5 * size-Loop l.inside.now + 1

abbrev pub decreases-label : goal.decreases-label
decreases-label l = 5 * size-Case l.case.now

abbrev pub decreases-labels : goal.decreases-labels
decreases-labels l = 5 * most size-Case l.cases.now + 1

abbrev pub decreases-switch : goal.decreases-switch
decreases-switch l = 5 * most size-Case l.cases.now + 2

-- With the code of the labels that are left, it is the code of all.
abbrev pub invariant-labels-loop-case : goal.invariant-labels-loop-case
invariant-labels-loop-case l =
    (l.test ≡ l.tests + l.case-index)
    × (end_of l.fn.self ≤ end_of l.self)
    × ((end : Draft)
    → EmitsLabels (draft l.self l.jumps) end l.test (case_list (map case_of (drop l.case-index l.cases))) l.scope
    → EmitsLabels (draft l.fn.self l.fn.jumps) end l.tests (case_list (map case_of l.cases)) l.scope)

-- With the code of the statements that are left, it is the code of all.
abbrev pub invariant-statements-loop-stmt : goal.invariant-statements-loop-stmt
invariant-statements-loop-stmt l =
    (end : Draft) → EmitsStatements (draft l.self l.jumps) end (body_of (drop l.stmt-index l.stmts)) (with_count l.scope l.locals)
    → EmitsStatements (draft l.fn.self l.fn.jumps) end (body_of l.stmts) l.scope
