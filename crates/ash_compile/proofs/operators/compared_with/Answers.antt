use Rattle.std.proofs.Common.{subst, sym}
use Rattle.std.specs.Prelude.{Option}
use Rattle.ash_typed.specs.declared.tree.operations.Conversion.{Conversion}
use Rattle.ash_typed.specs.TypedTree.{Operate, converted}
use Rattle.ash_typed.specs.TypedTreeViews.{expr_of}
use Rattle.ash_compile.specs.Operands.{ComparesLocals}
use Rattle.ash_compile.proofs.operators.compared_with.Goals as goal

pub returns-in_ok-right-in-None : goal.returns-in_ok-right-in-None
returns-in_ok-right-in-None c = record {
  compares = subst (λ (before : Option Conversion). ComparesLocals
      (Operate c.args.operand.now.operation (converted before (expr_of c.args.first.now)) (expr_of c.args.operand.now.value))
      c.in_ok-comparison-in-None.comparison c.in_ok-left-in-None.left c.in_ok-right-in-None.right) (sym c.in-None.is)
      (ComparesLocals.compares_locals c.in_ok-comparison-in-None.ensures.compares c.in_ok-left-in-None.ensures.reads
      c.in_ok-right-in-None.ensures.reads);
}
