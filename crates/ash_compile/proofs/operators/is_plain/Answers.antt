use Rattle.ash_compile.specs.Operands.{IsPlain}
use Rattle.ash_compile.proofs.operators.is_plain.Goals as goal

pub returns-in-Bool : goal.returns-in-Bool
returns-in-Bool c = record { plain = rw c.in-Bool.is (λ yes. IsPlain.truth) }

pub returns-in-Integer : goal.returns-in-Integer
returns-in-Integer c = record { plain = rw c.in-Integer.is (λ yes. IsPlain.integer) }
