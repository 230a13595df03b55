use Rattle.ash_compile.specs.Operands.{Operates}
use Rattle.ash_compile.proofs.operators.operating.Goals as goal

pub returns-in-Calculate : goal.returns-in-Calculate
returns-in-Calculate c = record { operates = rw c.in-Calculate.is (Operates.calculates c.calculating.ensures.calculates) }

pub returns-in-Compare : goal.returns-in-Compare
returns-in-Compare c = record { operates = rw c.in-Compare.is Operates.compares }
