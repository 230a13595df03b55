use Rattle.std.proofs.Common.{◌≡◌, ◌∙◌, sym, map, arith, true, false}
use Rattle.std.proofs.lemmas.List.{length-map}
use Rattle.std.proofs.lemmas.Result.{err_from_is_err_and}
use Rattle.ash_tree.specs.GrammarTokens.{tokens_of, placed}
use Rattle.ash_parse.specs.ExpressionReader.{below_at}
use Rattle.ash_parse.proofs.Loop.{goes_on as go_on, ends, is_done}
use Rattle.ash_tree.specs.TreeViews.{stmt_of, case_of}
use Rattle.ash_parse.specs.StatementReader.{nested_at, goes_on, case_goes_on, case_with, cases_with, stmts_with, local_with, locals_with}
use Rattle.ash_parse.proofs.StatementLoops.{goes_on-none, case_goes_on-none, nested_shrinks, local_shrinks, case_shrinks, nested-some, nested-none}
use Rattle.ash_parse.proofs.statements.+statements.Goals as goal

pub nested-returns-then-room-eq0 : goal.nested-returns-then-room-eq0
nested-returns-then-room-eq0 t c = record { parsed = rw (nested-none c.args.room (tokens_of c.args.tokens.now) c.if-room-eq0.true) c.limit.ensures.fails }

pub nested-returns : goal.nested-returns
nested-returns t c = record { parsed = rw (nested-some c.args.room (tokens_of c.args.tokens.now) (omega arith)) c.statement.ensures.parsed }

pub cases-returns-in_err-next : goal.cases-returns-in_err-next
unfolding cases_with
cases-returns-in_err-next t c = record {
  parsed =
      let p = err_from_is_err_and c.from_residual.result c.from_residual.ensures.1 in
      let more : goes_on (tokens_of c.more.rest.now) ≡ true = sym c.goes_on.ensures.value ∙ c.more-test.true in
      rw (p.1, p.2) (ends (goes_on) (case_with (nested_at c.args.room)) (case_shrinks c.args.room c.requires.within) (goes_on-none) c.in_err-next.field-0.0 (map case_of c.more.all.items) (tokens_of c.more.rest.now) (cases_with (nested_at c.args.room) (tokens_of c.args.tokens.now)) more c.in_err-next.ensures.parsed c.more.invariant);
}

pub cases-more-smaller : goal.cases-more-smaller
cases-more-smaller t c =
    let shorter = case_shrinks c.args.room c.requires.within (tokens_of c.more.rest.now) (case_of c.in_ok-next.next) (tokens_of c.in_ok-next.after.now) c.in_ok-next.ensures.parsed in
    omega (arith, shorter, length-map c.more.rest.now placed, length-map c.in_ok-next.after.now placed)

pub cases-more-preserved : goal.cases-more-preserved
unfolding cases_with
cases-more-preserved t c =
    let more : goes_on (tokens_of c.more.rest.now) ≡ true = sym c.goes_on.ensures.value ∙ c.more-test.true in
    rw c.in_ok-push.ensures.items (go_on (goes_on) (case_with (nested_at c.args.room)) (case_shrinks c.args.room c.requires.within) (goes_on-none) case_of c.more.all.items c.in_ok-next.next (tokens_of c.more.rest.now) (tokens_of c.in_ok-next.after.now) (cases_with (nested_at c.args.room) (tokens_of c.args.tokens.now)) more c.in_ok-next.ensures.parsed c.more.invariant)

pub cases-returns : goal.cases-returns
unfolding cases_with
cases-returns t c = record {
  parsed =
      let more : goes_on (tokens_of c.more.rest.now) ≡ false = sym c.goes_on.ensures.value ∙ c.more-test.false in
      is_done (goes_on) (case_with (nested_at c.args.room)) (case_shrinks c.args.room c.requires.within) (goes_on-none) (map case_of c.more.all.items) (tokens_of c.more.rest.now) (cases_with (nested_at c.args.room) (tokens_of c.args.tokens.now)) more c.more.invariant;
}

pub statements-returns-in_err-next : goal.statements-returns-in_err-next
unfolding stmts_with
statements-returns-in_err-next t c = record {
  parsed =
      let p = err_from_is_err_and c.from_residual.result c.from_residual.ensures.1 in
      let more : case_goes_on (tokens_of c.more.rest.now) ≡ true = sym c.case_goes_on.ensures.value ∙ c.more-test.true in
      rw (p.1, p.2) (ends (case_goes_on) (nested_at c.args.room) (nested_shrinks c.args.room c.requires.within) (case_goes_on-none) c.in_err-next.field-0.0 (map stmt_of c.more.all.items) (tokens_of c.more.rest.now) (stmts_with (nested_at c.args.room) (tokens_of c.args.tokens.now)) more c.in_err-next.ensures.parsed c.more.invariant);
}

pub statements-more-smaller : goal.statements-more-smaller
statements-more-smaller t c =
    let shorter = nested_shrinks c.args.room c.requires.within (tokens_of c.more.rest.now) (stmt_of c.in_ok-next.next) (tokens_of c.in_ok-next.after.now) c.in_ok-next.ensures.parsed in
    omega (arith, shorter, length-map c.more.rest.now placed, length-map c.in_ok-next.after.now placed)

pub statements-more-preserved : goal.statements-more-preserved
unfolding stmts_with
statements-more-preserved t c =
    let more : case_goes_on (tokens_of c.more.rest.now) ≡ true = sym c.case_goes_on.ensures.value ∙ c.more-test.true in
    rw c.in_ok-push.ensures.items (go_on (case_goes_on) (nested_at c.args.room) (nested_shrinks c.args.room c.requires.within) (case_goes_on-none) stmt_of c.more.all.items c.in_ok-next.next (tokens_of c.more.rest.now) (tokens_of c.in_ok-next.after.now) (stmts_with (nested_at c.args.room) (tokens_of c.args.tokens.now)) more c.in_ok-next.ensures.parsed c.more.invariant)

pub statements-returns : goal.statements-returns
unfolding stmts_with
statements-returns t c = record {
  parsed =
      let more : case_goes_on (tokens_of c.more.rest.now) ≡ false = sym c.case_goes_on.ensures.value ∙ c.more-test.false in
      is_done (case_goes_on) (nested_at c.args.room) (nested_shrinks c.args.room c.requires.within) (case_goes_on-none) (map stmt_of c.more.all.items) (tokens_of c.more.rest.now) (stmts_with (nested_at c.args.room) (tokens_of c.args.tokens.now)) more c.more.invariant;
}

pub locals-returns-in_err-next : goal.locals-returns-in_err-next
unfolding locals_with
locals-returns-in_err-next t c = record {
  parsed =
      let p = err_from_is_err_and c.from_residual.result c.from_residual.ensures.1 in
      let more : goes_on (tokens_of c.more.rest.now) ≡ true = sym c.goes_on.ensures.value ∙ c.more-test.true in
      rw (p.1, p.2) (ends (goes_on) (local_with (below_at c.args.room) (nested_at c.args.room)) (local_shrinks c.args.room c.requires.within) (goes_on-none) c.in_err-next.field-0.0 (map stmt_of c.more.all.items) (tokens_of c.more.rest.now) (locals_with (below_at c.args.room) (nested_at c.args.room) (tokens_of c.args.tokens.now)) more c.in_err-next.ensures.parsed c.more.invariant);
}

pub locals-more-smaller : goal.locals-more-smaller
locals-more-smaller t c =
    let shorter = local_shrinks c.args.room c.requires.within (tokens_of c.more.rest.now) (stmt_of c.in_ok-next.next) (tokens_of c.in_ok-next.after.now) c.in_ok-next.ensures.parsed in
    omega (arith, shorter, length-map c.more.rest.now placed, length-map c.in_ok-next.after.now placed)

pub locals-more-preserved : goal.locals-more-preserved
unfolding locals_with
locals-more-preserved t c =
    let more : goes_on (tokens_of c.more.rest.now) ≡ true = sym c.goes_on.ensures.value ∙ c.more-test.true in
    rw c.in_ok-push.ensures.items (go_on (goes_on) (local_with (below_at c.args.room) (nested_at c.args.room)) (local_shrinks c.args.room c.requires.within) (goes_on-none) stmt_of c.more.all.items c.in_ok-next.next (tokens_of c.more.rest.now) (tokens_of c.in_ok-next.after.now) (locals_with (below_at c.args.room) (nested_at c.args.room) (tokens_of c.args.tokens.now)) more c.in_ok-next.ensures.parsed c.more.invariant)

pub locals-returns : goal.locals-returns
unfolding locals_with
locals-returns t c = record {
  parsed =
      let more : goes_on (tokens_of c.more.rest.now) ≡ false = sym c.goes_on.ensures.value ∙ c.more-test.false in
      is_done (goes_on) (local_with (below_at c.args.room) (nested_at c.args.room)) (local_shrinks c.args.room c.requires.within) (goes_on-none) (map stmt_of c.more.all.items) (tokens_of c.more.rest.now) (locals_with (below_at c.args.room) (nested_at c.args.room) (tokens_of c.args.tokens.now)) more c.more.invariant;
}
