use Rattle.std.proofs.Common.{◌≡◌, ◌+◌, ◌*◌, [], map, drop, max}
use denote.Param.Weighed.{most}
use Rattle.ash_tree.specs.declared.tree.statements.Stmt.{size-Stmt}
use Rattle.ash_tree.specs.declared.tree.statements.Case.{size-Case}
use Rattle.ash_tree.specs.Tree.{stmts, cases}
use Rattle.ash_tree.specs.TreeViews as written
use Rattle.ash_typed.specs.BodyViews.{stmt_of, case_of}
use Rattle.ash_type_rules.specs.StatementRules as definition
use Rattle.ash_check_statements.specs.StatementViews.{locals_of, scope_of}
use Rattle.ash_check_statements.proofs.StatementLaws.{stmts_after, cases_after, Extends}
use Rattle.ash_check_statements.proofs.statements.+statements.Given as goal

-- the depth that a function descends, and how near it is to the next statement

abbrev pub decreases-check_stmt : goal.decreases-check_stmt
decreases-check_stmt l = 3 * size-Stmt l.source.now

abbrev pub decreases-check_branch : goal.decreases-check_branch
decreases-check_branch l = 3 * size-Stmt l.source.now + 1

abbrev pub decreases-check_block : goal.decreases-check_block
decreases-check_block l = 3 * most size-Stmt l.body.now + 1

abbrev pub decreases-check_inner_block : goal.decreases-check_inner_block
decreases-check_inner_block l = 3 * most size-Stmt l.body.now + 2

abbrev pub decreases-check_if : goal.decreases-check_if
decreases-check_if l = 3 * size-Stmt l.inner.now + 2

abbrev pub decreases-check_if_else : goal.decreases-check_if_else
decreases-check_if_else l = 3 * max (size-Stmt l.branches.then.now) (size-Stmt l.branches.otherwise.now) + 2

abbrev pub decreases-check_while : goal.decreases-check_while
decreases-check_while l = 3 * size-Stmt l.inner.now + 2

abbrev pub decreases-check_do_while : goal.decreases-check_do_while
decreases-check_do_while l = 3 * size-Stmt l.inner.now + 2

abbrev pub decreases-check_for : goal.decreases-check_for
decreases-check_for l = 3 * size-Stmt l.parts.body.now + 2

abbrev pub decreases-check_switch : goal.decreases-check_switch
decreases-check_switch l = 3 * most size-Case l.labels.now + 2

abbrev pub decreases-check_cases : goal.decreases-check_cases
decreases-check_cases l = 3 * most size-Case l.labels.now + 1

-- the results so far, with those of the rest, are those of the whole

abbrev pub invariant-check_block-loop-source : goal.invariant-check_block-loop-source
invariant-check_block-loop-source l =
    (stmts_after (map stmt_of l.typed.items) (definition.check_stmts (scope_of l.scope (locals_of l.locals)) (stmts (map written.stmt_of (drop l.source-index l.body)))) ≡ definition.check_stmts (scope_of l.scope (locals_of l.initial.locals)) (stmts (map written.stmt_of l.body)))
    × Extends (locals_of l.initial.locals) (locals_of l.locals)

abbrev pub invariant-check_cases-loop-i : goal.invariant-check_cases-loop-i
invariant-check_cases-loop-i l =
    (cases_after (map case_of l.typed.items) (definition.check_cases (scope_of l.scope (locals_of l.locals)) l.int_type l.before.items (cases (map written.case_of (drop l.i l.labels)))) ≡ definition.check_cases (scope_of l.scope (locals_of l.initial.locals)) l.int_type [] (cases (map written.case_of l.labels)))
    × (locals_of l.locals ≡ locals_of l.initial.locals)
