use Rattle.std.proofs.Common.{◌≡◌, Ok, refl, sym, ap, subst, ◌∙◌, ◌+◌, length, map, drop, arith}
use Rattle.std.proofs.lemmas.List.{length-map}
use Rattle.std.proofs.lemmas.Result.{err_from_is_err_and}
use Rattle.ash_tree.specs.declared.tree.statements.Case as code_case
use Rattle.ash_tree.specs.Tree as written
use Rattle.ash_tree.specs.TreeViews.{stmt_of, case_of}
use Rattle.ash_typed.specs.BodyViews as typed_views
use Rattle.ash_type_rules.specs.Labels.{is_last}
use Rattle.ash_type_rules.specs.StatementRules as definition
use Rattle.ash_type_rules.specs.StatementRules.{check_stmts}
use Rattle.ash_type_rules.specs.Switches.{check_label}
use Rattle.ash_check_names.specs.Agreement.{Agrees, FailsWith}
use Rattle.ash_check_names.specs.EnvironmentViews.{binding_of}
use Rattle.ash_check_statements.specs.StatementViews.{locals_of, scope_of}
use Rattle.ash_check_statements.proofs.StatementLaws.{Extends, at_first, extends_itself, extends_next, locals_go, block_step}
use Rattle.ash_check_statements.proofs.StatementLaws.{block_end, block_of_source, switch_of_source}
use Rattle.ash_check_statements.proofs.StatementLaws.{block_checked, block_fails, cases_step, label_fails, labelled_fails, cases_end}
use Rattle.ash_check_statements.proofs.StatementLaws.{first_is_all, any_ok}
use Rattle.ash_check_statements.proofs.statements.+statements.Goals as goal

pub check_block-loop-source-preserved : goal.check_block-loop-source-preserved
check_block-loop-source-preserved t c =
    let before = scope_of c.args.scope.now (locals_of c.loop-source.locals) in
    let next = scope_of c.args.scope.now (locals_of c.check_stmt.new.locals) in
    let s = c.source-item.result in (
      block_step c.loop-source.typed.items c.push.new.self.items c.in_ok-check_stmt.field-0 before next c.args.body.now c.loop-source.source-index s _ c.in_ok-push.ensures.items c.loop-source-test.true c.source-item.is c.in_ok-check_stmt.ensures.typed c.in_ok-check_stmt.ensures.locals c.loop-source.invariant.0,
      extends_next (locals_of c.args.locals.now) before next (stmt_of s) c.in_ok-check_stmt.ensures.locals c.loop-source.invariant.1,
    )

pub check_block-returns-clause-typed : goal.check_block-returns-clause-typed
check_block-returns-clause-typed t c =
    block_end c.loop-source.typed.items (scope_of c.args.scope.now (locals_of c.loop-source.locals)) c.args.body.now c.loop-source.source-index _ c.loop-source-test.false c.loop-source.invariant.0

pub check_block-returns-clause-unchanged : goal.check_block-returns-clause-unchanged
check_block-returns-clause-unchanged t c =
    let k : c.len-outer.result ≡ length c.args.locals.now.items = omega (arith, c.len-outer.ensures, c.args.locals.now.ok.0) in
    locals_go c.args.locals.now.items c.loop-source.locals.items c.truncate.new.self.items c.len-outer.result k c.truncate.ensures.items c.loop-source.invariant.1

pub check_branch-returns-clause-unchanged : goal.check_branch-returns-clause-unchanged
check_branch-returns-clause-unchanged t c =
    let k : c.len-outer.result ≡ length c.args.locals.now.items = omega (arith, c.len-outer.ensures, c.args.locals.now.ok.0) in
    let before = scope_of c.args.scope.now (locals_of c.args.locals.now) in
    let next = scope_of c.args.scope.now (locals_of c.check_stmt.new.locals) in
    locals_go c.args.locals.now.items c.check_stmt.new.locals.items c.truncate.new.self.items c.len-outer.result k c.truncate.ensures.items
    (extends_next (locals_of c.args.locals.now) before next (stmt_of c.args.source.now) c.in_ok-typed.ensures.locals (extends_itself (locals_of c.args.locals.now)))

pub check_cases-returns-in_err-known-clause-typed : goal.check_cases-returns-in_err-known-clause-typed
check_cases-returns-in_err-known-clause-typed t c =
    let p = err_from_is_err_and c.from_residual-in_err-known.result c.from_residual-in_err-known.ensures.1 in
    let labels = c.args.labels.now in
    let x = c.index-labels-i.result in
    let last = is_last (written.cases (map case_of (drop (c.loop-i.i + 1) labels))) in
    let at = (code_case.out-Case x).place.at in
    let l = (code_case.out-Case x).label in
    let same_label : check_label c.args.int_type c.loop-i.before.items last at l ≡ check_label c.args.int_type c.deref.result.now c.is_last-last.result at l =
    ap (λ before. check_label c.args.int_type before last at l) (sym c.deref.ensures.value) ∙ ap (λ b. check_label c.args.int_type c.deref.result.now b at l) (sym c.is_last-last.ensures.none_after) in
    rw (p.1, p.2) (label_fails c.loop-i.typed.items (scope_of c.args.scope.now (locals_of c.loop-i.locals)) c.args.int_type c.loop-i.before.items labels c.loop-i.i x c.in_err-known.field-0.0 _ c.loop-i-test.true c.index-labels-i.is (subst (FailsWith c.in_err-known.field-0.0) (sym same_label) c.in_err-known.ensures.checked) c.loop-i.invariant.0)

pub check_cases-returns-in_err-body-clause-typed : goal.check_cases-returns-in_err-body-clause-typed
check_cases-returns-in_err-body-clause-typed t c =
    let p = err_from_is_err_and c.from_residual-in_err-body.result c.from_residual-in_err-body.ensures.1 in
    let labels = c.args.labels.now in
    let x = c.index-labels-i.result in
    let last = is_last (written.cases (map case_of (drop (c.loop-i.i + 1) labels))) in
    let at = (code_case.out-Case x).place.at in
    let l = (code_case.out-Case x).label in
    let same_label : check_label c.args.int_type c.loop-i.before.items last at l ≡ check_label c.args.int_type c.deref.result.now c.is_last-last.result at l =
    ap (λ before. check_label c.args.int_type before last at l) (sym c.deref.ensures.value) ∙ ap (λ b. check_label c.args.int_type c.deref.result.now b at l) (sym c.is_last-last.ensures.none_after) in
    let scope = scope_of c.args.scope.now (locals_of c.loop-i.locals) in
    let body : check_stmts scope (written.stmts (map stmt_of (code_case.out-Case x).body.items)) ≡ check_stmts scope (written.stmts (map stmt_of c.deref-in-loop-i.result.now)) = ap (λ xs. check_stmts scope (written.stmts (map stmt_of xs))) (sym c.deref-in-loop-i.ensures.value) in
    rw (p.1, p.2) (labelled_fails c.loop-i.typed.items scope c.args.int_type c.loop-i.before.items labels c.loop-i.i x c.in_ok-known.known c.in_err-body.field-0.0 _ c.loop-i-test.true c.index-labels-i.is (same_label ∙ c.in_ok-known.ensures.checked) (subst (FailsWith c.in_err-body.field-0.0) (sym body) c.in_err-body.ensures.typed) c.loop-i.invariant.0)

pub check_cases-loop-i-preserved : goal.check_cases-loop-i-preserved
check_cases-loop-i-preserved t c =
    let labels = c.args.labels.now in
    let x = c.index-labels-i.result in
    let last = is_last (written.cases (map case_of (drop (c.loop-i.i + 1) labels))) in
    let at = (code_case.out-Case x).place.at in
    let l = (code_case.out-Case x).label in
    let same_label : check_label c.args.int_type c.loop-i.before.items last at l ≡ check_label c.args.int_type c.deref.result.now c.is_last-last.result at l =
    ap (λ before. check_label c.args.int_type before last at l) (sym c.deref.ensures.value) ∙ ap (λ b. check_label c.args.int_type c.deref.result.now b at l) (sym c.is_last-last.ensures.none_after) in
    let scope = scope_of c.args.scope.now (locals_of c.loop-i.locals) in
    let body : check_stmts scope (written.stmts (map stmt_of (code_case.out-Case x).body.items)) ≡ check_stmts scope (written.stmts (map stmt_of c.deref-in-loop-i.result.now)) = ap (λ xs. check_stmts scope (written.stmts (map stmt_of xs))) (sym c.deref-in-loop-i.ensures.value) in
    let next = scope_of c.args.scope.now (locals_of c.check_block.new.locals) in (
      cases_step c.loop-i.typed.items c.push-in-loop-i.new.self.items c.case.result scope next c.args.int_type c.loop-i.before.items c.push.new.self.items labels c.loop-i.i x c.in_ok-known.known (typed_views.body_of c.in_ok-body.body.items) _ c.in_ok-push-2.ensures.items c.in_ok-push.ensures.items (ap (scope_of c.args.scope.now) c.in_ok-body.ensures.unchanged) c.loop-i-test.true c.index-labels-i.is (same_label ∙ c.in_ok-known.ensures.checked) (body ∙ c.in_ok-body.ensures.typed) c.case.ensures.label_first c.loop-i.invariant.0,
      c.in_ok-body.ensures.unchanged ∙ c.loop-i.invariant.1,
    )

pub check_cases-returns-clause-typed : goal.check_cases-returns-clause-typed
check_cases-returns-clause-typed t c =
    cases_end c.loop-i.typed.items (scope_of c.args.scope.now (locals_of c.loop-i.locals)) c.args.int_type c.loop-i.before.items c.args.labels.now c.loop-i.i _ c.loop-i-test.false c.loop-i.invariant.0

pub check_inner_block-returns-in_err-body-clause-typed : goal.check_inner_block-returns-in_err-body-clause-typed
check_inner_block-returns-in_err-body-clause-typed t c =
    let p = err_from_is_err_and c.from_residual.result c.from_residual.ensures.1 in
    let scope = scope_of c.args.scope.now (locals_of c.args.locals.now) in
    let k : c.len.result ≡ length (locals_of c.args.locals.now) = omega (arith, c.len.ensures, c.args.locals.now.ok.0, length-map c.args.locals.now.items binding_of) in
    rw (p.1, p.2) (block_fails scope _ _ c.args.place (written.stmts (map stmt_of c.args.body.now)) c.in_err-body.field-0.0 refl (first_is_all scope c.len.result k) c.in_err-body.ensures.typed)

pub check_inner_block-returns-clause-typed : goal.check_inner_block-returns-clause-typed
check_inner_block-returns-clause-typed t c =
    let scope = scope_of c.args.scope.now (locals_of c.args.locals.now) in
    let k : c.len.result ≡ length (locals_of c.args.locals.now) = omega (arith, c.len.ensures, c.args.locals.now.ok.0, length-map c.args.locals.now.items binding_of) in
    block_checked scope _ _ c.args.place (written.stmts (map stmt_of c.args.body.now)) _ refl (first_is_all scope c.len.result k) c.in_ok-body.ensures.typed ∙ ap Ok (sym c.block-typed.ensures.body_in_order)

pub check_stmt-returns-in-Block-clause-typed : goal.check_stmt-returns-in-Block-clause-typed
check_stmt-returns-in-Block-clause-typed t c =
    let scope = scope_of c.args.scope.now (locals_of c.args.locals.now) in
    let is = block_of_source c.args.source.now _ c.in-Block.body c.deref-in-Block.result.now c.deref.ensures c.in-Block.is c.deref-in-Block.ensures.value in
    subst (λ (x : written.Stmt). Agrees typed_views.stmt_of c.check_inner_block.result (definition.check_stmt scope x)) (sym is) c.check_inner_block.ensures.typed

pub check_stmt-returns-in-Switch-clause-typed : goal.check_stmt-returns-in-Switch-clause-typed
check_stmt-returns-in-Switch-clause-typed t c =
    let scope = scope_of c.args.scope.now (locals_of c.args.locals.now) in
    let is = switch_of_source c.args.source.now _ c.in-Switch.value c.in-Switch.cases c.deref-in-Switch.result.now c.deref.ensures c.in-Switch.is c.deref-in-Switch.ensures.value in
    subst (λ (x : written.Stmt). Agrees typed_views.stmt_of c.check_switch.result (definition.check_stmt scope x)) (sym is) c.check_switch.ensures.typed

pub check_for-returns-clause-unchanged : goal.check_for-returns-clause-unchanged
check_for-returns-clause-unchanged t c =
    let k : c.len-outer.result ≡ length c.args.locals.now.items = omega (arith, c.len-outer.ensures, c.args.locals.now.ok.0) in
    let scope = scope_of c.args.scope.now (locals_of c.args.locals.now) in
    let first : Extends (locals_of c.args.locals.now) (locals_of c.check_for_head.new.locals) = extends_next (locals_of c.args.locals.now) (at_first scope c.len-outer.result) (at_first (scope_of c.args.scope.now (locals_of c.check_for_head.new.locals)) c.len-outer.result) (stmt_of c.args.parts.first.now) c.in_ok-first.ensures.locals (extends_itself (locals_of c.args.locals.now)) in
    let go : locals_of c.truncate.new.self ≡ locals_of c.args.locals.now = locals_go c.args.locals.now.items _ c.truncate.new.self.items c.len-outer.result k c.truncate.ensures.items (first.0, c.in_ok-body.ensures.unchanged ∙ first.1) in
    any_ok _ c.build_for.result go
