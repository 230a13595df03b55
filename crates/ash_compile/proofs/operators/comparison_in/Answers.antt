use Rattle.std.proofs.lemmas.Option.{IfSome_then}
use Rattle.ash_compile.specs.Operands.{Compares}
use Rattle.ash_compile.proofs.operators.comparison_in.Goals as goal

pub returns-in-Integers : goal.returns-in-Integers
returns-in-Integers c = record {
  compares = rw c.in-Integers.is
      (IfSome_then c.comparison_by.result c.comparison_by.ensures.compares (λ comparison by. Compares.compares by));
}
