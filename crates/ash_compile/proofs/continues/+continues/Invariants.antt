use Rattle.std.proofs.Common.{◌+◌, ◌*◌, drop}
use denote.Param.Weighed.{most}
use Rattle.ash_typed.specs.declared.tree.statements.Stmt.{size-Stmt}
use Rattle.ash_typed.specs.BodyViews.{body_of}
use Rattle.ash_compile.specs.EmittedStatements.{HaveNoContinue}
use Rattle.ash_compile.proofs.continues.+continues.Given as goal

-- the depth of what a function goes down, and how near it is to the next statement

abbrev pub decreases-has_no_continue : goal.decreases-has_no_continue
decreases-has_no_continue l = 2 * size-Stmt l.stmt.now

abbrev pub decreases-have_no_continue : goal.decreases-have_no_continue
decreases-have_no_continue l = 2 * most size-Stmt l.stmts.now + 1

-- If those that are left have none, none has one.
abbrev pub invariant-have_no_continue-loop-stmt : goal.invariant-have_no_continue-loop-stmt
invariant-have_no_continue-loop-stmt l =
    HaveNoContinue (body_of (drop l.stmt-index l.stmts)) → HaveNoContinue (body_of l.stmts)
