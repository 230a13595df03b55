use Rattle.std.proofs.Common.{sym, subst}
use Rattle.ash_integers.specs.declared.int_type.IntType.{IntType}
use Rattle.ash_compile.specs.Operands.{Calculates}
use Rattle.ash_compile.proofs.operators.calculating.Goals as goal

pub returns-in-Int : goal.returns-in-Int
returns-in-Int c = record {
  calculates = subst (λ (t : IntType). Calculates c.calculating_int.result
      (record { operator = c.args.calculation.operator; of = t }) c.args.left c.args.right c.args.to) (sym c.in-Int.is)
      c.calculating_int.ensures.calculates;
}

pub returns-in_default : goal.returns-in_default
returns-in_default c = record { calculates = Calculates.calculates }
