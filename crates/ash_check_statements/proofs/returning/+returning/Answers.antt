use Rattle.std.proofs.Common.{◌≡◌, ◌∙◌, ap, refl, false, true, List, map, sym, Bool, not, ◌&&◌}
use Rattle.ash_tree.specs.declared.tree.statements.Stmt as code_stmt
use Rattle.ash_tree.specs.declared.tree.statements.Case as code_case
use Rattle.ash_tree.specs.Tree.{stmts, cases}
use Rattle.ash_tree.specs.TreeViews.{stmt_at, stmt_of, case_of}
use Rattle.ash_tree.proofs.Rows.{block_is, switch_is}
use Rattle.ash_type_rules.specs.Returning as definition
use Rattle.ash_check_statements.proofs.returning.+returning.Goals as goal
use Rattle.ash_check_statements.proofs.returning.+returning.Goals.{returns-then-has_default, returns-else-has_default}

not_true : (b : Bool) → not b ≡ true → b ≡ false
not_true true h = cc
not_true false h = refl

not_false : (b : Bool) → not b ≡ false → b ≡ true
not_false true h = refl
not_false false h = cc

-- what is said of a `switch`, by whether it has `default`, whether it breaks, and whether it returns at its last label

closed : (d b l : Bool) → d ≡ true → b ≡ false → l ≡ (d && (not b && l))
closed true true l e f = cc
closed true false l e f = refl
closed false b l e f = cc

leaves : (d b l : Bool) → b ≡ true → false ≡ (d && (not b && l))
leaves true true l e = refl
leaves true false l e = cc
leaves false b l e = refl

open_ended : (d b l : Bool) → d ≡ false → false ≡ (d && (not b && l))
open_ended true b l e = cc
open_ended false b l e = refl

pub returns-returns-in-Block : goal.returns-returns-in-Block
returns-returns-in-Block t c = record {
  value =
      let s = c.args.stmt.now in
      c.any_returns.ensures.value ∙ ap (λ (xs : List code_stmt.Stmt). definition.any_returns (stmts (map stmt_of xs))) c.deref-in-Block.ensures.value ∙ ap definition.returns (sym (ap (stmt_at s.place) (sym c.deref.ensures ∙ c.in-Block.is) ∙ block_is s.place c.in-Block.body));
}

pub returns-returns-then-not-breaks_out : goal.returns-returns-then-not-breaks_out
returns-returns-then-not-breaks_out t c = record {
  value =
      let s = c.args.stmt.now in
      let k = c.in-Switch in
      let labels = cases (map case_of k.labels.items) in
      let default : c.has_default.result ≡ definition.has_default labels = c.has_default.ensures.value ∙ ap (λ (xs : List code_case.Case). definition.has_default (cases (map case_of xs))) c.deref-in-Switch.ensures.value in
      let last : c.last_returns.result ≡ definition.last_returns labels = c.last_returns.ensures.value ∙ ap (λ (xs : List code_case.Case). definition.last_returns (cases (map case_of xs))) c.deref-then-not-breaks_out.ensures.value in
      elim c.if-has_default.branch [
        | returns-then-has_default w ↦
            let breaks : w.breaks_out.result ≡ definition.breaks_out labels = w.breaks_out.ensures.value ∙ ap (λ (xs : List code_case.Case). definition.breaks_out (cases (map case_of xs))) w.deref-then-has_default.ensures.value in
            let stays : w.breaks_out.result ≡ false = not_true w.breaks_out.result (sym w.value-is ∙ c.if-not-breaks_out.true) in
            last ∙ closed (definition.has_default labels) (definition.breaks_out labels) (definition.last_returns labels) (sym default ∙ w.if-has_default.true) (sym breaks ∙ stays) ∙ ap definition.returns (sym (ap (stmt_at s.place) (sym c.deref.ensures ∙ k.is) ∙ switch_is s.place k.value k.labels))
        | returns-else-has_default w ↦ (let e = w.value-is in let f = c.if-not-breaks_out.true in cc)
      ];
}

pub returns-returns-else-not-breaks_out : goal.returns-returns-else-not-breaks_out
returns-returns-else-not-breaks_out t c = record {
  value =
      let s = c.args.stmt.now in
      let k = c.in-Switch in
      let labels = cases (map case_of k.labels.items) in
      let default : c.has_default.result ≡ definition.has_default labels = c.has_default.ensures.value ∙ ap (λ (xs : List code_case.Case). definition.has_default (cases (map case_of xs))) c.deref-in-Switch.ensures.value in
      let whole = ap definition.returns (sym (ap (stmt_at s.place) (sym c.deref.ensures ∙ k.is) ∙ switch_is s.place k.value k.labels)) in
      c.if-not-breaks_out.false ∙ (elim c.if-has_default.branch [
        | returns-then-has_default w ↦
            let breaks : w.breaks_out.result ≡ definition.breaks_out labels = w.breaks_out.ensures.value ∙ ap (λ (xs : List code_case.Case). definition.breaks_out (cases (map case_of xs))) w.deref-then-has_default.ensures.value in
            let out : w.breaks_out.result ≡ true = not_false w.breaks_out.result (sym w.value-is ∙ c.if-not-breaks_out.false) in
            leaves (definition.has_default labels) (definition.breaks_out labels) (definition.last_returns labels) (sym breaks ∙ out) ∙ whole
        | returns-else-has_default w ↦ open_ended (definition.has_default labels) (definition.breaks_out labels) (definition.last_returns labels) (sym default ∙ w.if-has_default.false) ∙ whole
      ]);
}
