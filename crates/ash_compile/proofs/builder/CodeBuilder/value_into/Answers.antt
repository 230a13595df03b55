use Rattle.std.proofs.Common.{◌≡◌, ℕ, List, sym, ap, ◌∙◌, subst}
use Rattle.ash_typed.proofs.Rows.{chain_is}
use Rattle.ash_typed.specs.declared.tree.expressions.ExprKind.{ExprKind}
use Rattle.ash_typed.specs.declared.tree.expressions.Operand as operand_code
use Rattle.ash_typed.specs.TypedTree.{Expr}
use Rattle.ash_typed.specs.TypedTreeViews.{expr_of, expr_in, all_chained}
use Rattle.ash_compile.specs.declared.builder.Written.{Written}
use Rattle.ash_compile.specs.Operands.{EmitsInto}
use Rattle.ash_compile.proofs.Emitted.{if_ok}
use Rattle.ash_compile.proofs.Operands as operands
use Rattle.ash_compile.proofs.builder.CodeBuilder.value_into.Goals as goal

into_of_kind : (old new : Written) (k l : ExprKind) (e : Expr) (slot to : ℕ) → k ≡ l → expr_in l ≡ e
    → EmitsInto old new e slot to → EmitsInto old new (expr_in k) slot to
into_of_kind old new k l e slot to is means emits =
    subst (λ (x : Expr). EmitsInto old new x slot to) (sym (ap expr_in is ∙ means)) emits

pub returns-in-Chain : goal.returns-in-Chain
returns-in-Chain c = record {
  emits = if_ok c.chain.result
      (λ u emits.
      into_of_kind c.args.self.now c.chain.new.self c.args.expr.now.kind.value _ _ c.args.slot c.args.to
      (sym c.deref.ensures ∙ c.in-Chain.is) (chain_is c.in-Chain.first c.in-Chain.operands)
      (subst (λ (os : List operand_code.Operand). EmitsInto c.args.self.now c.chain.new.self
      (all_chained (expr_of c.in-Chain.first) os) c.args.slot c.args.to) c.deref-in-Chain.ensures.value emits))
      c.chain.ensures.emits;
}

pub returns-in_ok-from-in_default : goal.returns-in_ok-from-in_default
returns-in_ok-from-in_default c = record {
  emits = if_ok c.put.result
      (λ u puts.
      operands.move_into c.args.self.now c.value.new.self c.put.new.self (expr_of c.args.expr.now) c.args.slot
      c.in_ok-from-in_default.from c.args.to c.in_ok-from-in_default.ensures.emits puts)
      c.put.ensures.puts;
}
