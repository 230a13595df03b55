use Rattle.std.proofs.Common.{◌≡◌, List, [], ◌∷◌, length, sym, ap, subst, ◌∙◌}
use Rattle.std.proofs.lemmas.Bool.{eqb-true}
use Rattle.std.specs.Prelude.{IfSome}
use Rattle.ash_typed.specs.declared.tree.expressions.Operand as operand_code
use Rattle.ash_typed.specs.TypedTreeViews.{expr_of, all_chained}
use Rattle.ash_compile.specs.Operands.{ComparesLocals}
use Rattle.ash_compile.proofs.EmittedRows.{empty_is}
use Rattle.ash_compile.proofs.operators.compared_by.Goals as goal

pub returns-then-is_empty : goal.returns-then-is_empty
returns-then-is_empty c =
    let none : length c.in-Some.rest.now ≡ 0 = eqb-true _ 0 (sym c.is_empty.ensures ∙ c.if-is_empty.true) in
    record {
      compares = subst (λ (os : List operand_code.Operand). IfSome c.compared_with.result
          (λ found. ComparesLocals (all_chained (expr_of c.args.first.now) os) found.comparison found.left found.right))
          (sym ((c.in-Some.ensures.cases).0
          ∙ ap (λ (os : List operand_code.Operand). c.in-Some.operand.now ∷ os) (sym (empty_is c.in-Some.rest.now none))))
          c.compared_with.ensures.compares;
    }
