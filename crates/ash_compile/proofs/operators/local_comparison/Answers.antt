use Rattle.std.proofs.Common.{List, sym, ap, subst, ◌∙◌}
use Rattle.std.specs.Prelude.{IfSome}
use Rattle.std.proofs.lemmas.Option.{IfSome_then}
use Rattle.ash_typed.specs.declared.tree.expressions.Operand as operand_code
use Rattle.ash_typed.specs.TypedTree.{Expr}
use Rattle.ash_typed.specs.TypedTreeViews.{expr_in, expr_of, all_chained}
use Rattle.ash_typed.proofs.Rows.{chain_is}
use Rattle.ash_compile.specs.Operands.{ComparesLocals}
use Rattle.ash_compile.proofs.operators.local_comparison.Goals as goal

pub returns-in-Chain : goal.returns-in-Chain
returns-in-Chain c = record {
  compares = IfSome_then c.compared_by.result c.compared_by.ensures.compares
      (λ found compares.
      subst (λ (e : Expr). ComparesLocals e found.comparison found.left found.right)
      (sym (ap expr_in (sym c.deref.ensures ∙ c.in-Chain.is) ∙ chain_is c.in-Chain.first c.in-Chain.operands))
      (subst (λ (os : List operand_code.Operand). ComparesLocals (all_chained (expr_of c.in-Chain.first) os) found.comparison
      found.left found.right) c.deref-in-Chain.ensures.value compares));
}
