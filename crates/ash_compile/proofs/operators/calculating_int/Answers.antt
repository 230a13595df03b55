use Rattle.ash_compile.specs.Operands.{Calculates}
use Rattle.ash_compile.proofs.operators.calculating_int.Goals as goal

pub returns-in-Add : goal.returns-in-Add
returns-in-Add c = record { calculates = rw c.in-Add.is Calculates.adds }

pub returns-in-Subtract : goal.returns-in-Subtract
returns-in-Subtract c = record { calculates = rw c.in-Subtract.is Calculates.subtracts }

pub returns-in_default : goal.returns-in_default
returns-in_default c = record { calculates = Calculates.calculates }
