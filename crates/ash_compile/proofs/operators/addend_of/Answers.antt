use Rattle.std.proofs.lemmas.Option.{IfSome_then}
use Rattle.ash_compile.specs.Operands.{IsAddition}
use Rattle.ash_compile.proofs.operators.addend_of.Goals as goal

pub returns-in-Calculate : goal.returns-in-Calculate
returns-in-Calculate c = record {
  adds = rw c.in-Calculate.is
      (IfSome_then c.addend.result c.addend.ensures.adds (λ number adds. IsAddition.addition adds));
}
