use Rattle.ash_compile.specs.Operands.{ComparesBy}
use Rattle.ash_compile.proofs.operators.comparison_by.Goals as goal

pub returns-in-Less : goal.returns-in-Less
returns-in-Less c = record { compares = rw c.in-Less.is ComparesBy.less }

pub returns-in-LessOrEqual : goal.returns-in-LessOrEqual
returns-in-LessOrEqual c = record { compares = rw c.in-LessOrEqual.is ComparesBy.less_or_equal }

pub returns-in-Greater : goal.returns-in-Greater
returns-in-Greater c = record { compares = rw c.in-Greater.is ComparesBy.greater }

pub returns-in-GreaterOrEqual : goal.returns-in-GreaterOrEqual
returns-in-GreaterOrEqual c = record { compares = rw c.in-GreaterOrEqual.is ComparesBy.greater_or_equal }

pub returns-in-Equal : goal.returns-in-Equal
returns-in-Equal c = record { compares = rw c.in-Equal.is ComparesBy.equal }

pub returns-in-NotEqual : goal.returns-in-NotEqual
returns-in-NotEqual c = record { compares = rw c.in-NotEqual.is ComparesBy.not_equal }
