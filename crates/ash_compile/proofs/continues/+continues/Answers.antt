use Rattle.std.proofs.Common.{◌≡◌, ◌+◌, List, drop, map, refl, sym, ap, ◌∙◌, subst, true, false}
use Rattle.ash_typed.specs.declared.tree.statements.Stmt as stmt_code
use Rattle.ash_typed.specs.TypedTreeViews.{expr_of}
use Rattle.ash_typed.specs.StatementTree.{Stmt, Block, If, no_branch, branch}
use Rattle.ash_typed.specs.BodyViews.{stmt_at, stmt_of, body_of}
use Rattle.ash_typed.proofs.StatementRows.{block_is}
use Rattle.ash_compile.specs.EmittedStatements.{HasNoContinue, HaveNoContinue}
use Rattle.ash_compile.proofs.Remaining.{next_of, none_of}
use Rattle.ash_compile.proofs.EmittedBlocks as blocks
use Rattle.ash_compile.proofs.ContinueLaws as continues
use Rattle.ash_compile.proofs.continues.+continues.Goals as goal

pub has_no_continue-returns-in-Empty : goal.has_no_continue-returns-in-Empty
has_no_continue-returns-in-Empty t c = record {
  none = λ yes. continues.of_kind c.args.stmt.now.line c.args.stmt.now.kind _ _ c.in-Empty.is refl continues.none_in_empty;
}

pub has_no_continue-returns-in-Declare : goal.has_no_continue-returns-in-Declare
has_no_continue-returns-in-Declare t c = record {
  none = λ yes.
      continues.of_kind c.args.stmt.now.line c.args.stmt.now.kind _ _ c.in-Declare.is refl continues.none_in_declaration;
}

pub has_no_continue-returns-in-Evaluate : goal.has_no_continue-returns-in-Evaluate
has_no_continue-returns-in-Evaluate t c = record {
  none = λ yes.
      continues.of_kind c.args.stmt.now.line c.args.stmt.now.kind _ _ c.in-Evaluate.is refl continues.none_in_evaluation;
}

pub has_no_continue-returns-in-Repeat : goal.has_no_continue-returns-in-Repeat
has_no_continue-returns-in-Repeat t c = record {
  none = λ yes. continues.of_kind c.args.stmt.now.line c.args.stmt.now.kind _ _ c.in-Repeat.is refl continues.none_in_repeat;
}

pub has_no_continue-returns-in-For : goal.has_no_continue-returns-in-For
has_no_continue-returns-in-For t c = record {
  none = λ yes. continues.of_kind c.args.stmt.now.line c.args.stmt.now.kind _ _ c.in-For.is refl continues.none_in_for;
}

pub has_no_continue-returns-in-Break : goal.has_no_continue-returns-in-Break
has_no_continue-returns-in-Break t c = record {
  none = λ yes. continues.of_kind c.args.stmt.now.line c.args.stmt.now.kind _ _ c.in-Break.is refl continues.none_in_break;
}

pub has_no_continue-returns-in-Return : goal.has_no_continue-returns-in-Return
has_no_continue-returns-in-Return t c = record {
  none = λ yes. continues.of_kind c.args.stmt.now.line c.args.stmt.now.kind _ _ c.in-Return.is refl continues.none_in_return;
}

pub has_no_continue-returns-in-Block : goal.has_no_continue-returns-in-Block
has_no_continue-returns-in-Block t c = record {
  none = λ yes.
      continues.of_kind c.args.stmt.now.line c.args.stmt.now.kind _ _ c.in-Block.is
      (block_is c.args.stmt.now.line c.in-Block.stmts)
      (subst (λ (xs : List stmt_code.Stmt). HasNoContinue (Block c.args.stmt.now.line (body_of xs)))
      c.deref.ensures.value (continues.none_in_block (c.have_no_continue.ensures.none yes)));
}

pub has_no_continue-returns-in-None : goal.has_no_continue-returns-in-None
has_no_continue-returns-in-None t c = record {
  none = λ yes.
      continues.of_kind c.args.stmt.now.line c.args.stmt.now.kind _ _ c.in-If.is
      (blocks.if_only_is c.args.stmt.now.line c.in-If.condition c.in-If.then c.in-If.otherwise c.in-None.is)
      (subst (λ (x : stmt_code.Stmt). HasNoContinue (If c.args.stmt.now.line (expr_of c.in-If.condition) (stmt_of x) no_branch))
      c.deref-in-None.ensures (continues.none_in_if (c.has_no_continue.ensures.none yes)));
}

pub has_no_continue-returns-then-has_no_continue : goal.has_no_continue-returns-then-has_no_continue
has_no_continue-returns-then-has_no_continue t c = record {
  none = λ yes.
      continues.of_kind c.args.stmt.now.line c.args.stmt.now.kind _ _ c.in-If.is
      (blocks.if_else_is c.args.stmt.now.line c.in-If.condition c.in-If.then c.in-Some.otherwise c.in-If.otherwise c.in-Some.is)
      (subst (λ (y : stmt_code.Stmt). HasNoContinue (If c.args.stmt.now.line (expr_of c.in-If.condition)
      (stmt_of c.in-If.then.value) (branch (stmt_of y)))) c.deref-then-has_no_continue.ensures
      (subst (λ (x : stmt_code.Stmt). HasNoContinue (If c.args.stmt.now.line (expr_of c.in-If.condition) (stmt_of x)
      (branch (stmt_of c.deref-then-has_no_continue.result.now)))) c.deref-in-Some.ensures
      (continues.none_in_if_else (c.has_no_continue-in-Some.ensures.none c.if-has_no_continue.true)
      (c.has_no_continue-then-has_no_continue.ensures.none yes))));
}

pub have_no_continue-loop-stmt-init : goal.have_no_continue-loop-stmt-init
have_no_continue-loop-stmt-init t c = λ none. none

pub have_no_continue-loop-stmt-preserved : goal.have_no_continue-loop-stmt-preserved
have_no_continue-loop-stmt-preserved t c = λ rest.
    c.loop-stmt.invariant
    (subst (λ (xs : List stmt_code.Stmt). HaveNoContinue (body_of xs))
    (next_of c.args.stmts.now c.loop-stmt.stmt-index c.stmt-item.result c.loop-stmt-test.true c.stmt-item.is)
    (continues.none_in_more (c.has_no_continue.ensures.none c.if-not-has_no_continue.false) rest))

pub have_no_continue-returns : goal.have_no_continue-returns
have_no_continue-returns t c = record {
  none = λ yes.
      c.loop-stmt.invariant
      (subst (λ (xs : List stmt_code.Stmt). HaveNoContinue (body_of xs))
      (none_of c.args.stmts.now c.loop-stmt.stmt-index c.loop-stmt-test.false) continues.none_in_nothing);
}
