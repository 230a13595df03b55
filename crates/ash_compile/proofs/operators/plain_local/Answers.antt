use Rattle.ash_compile.specs.Operands.{ReadsLocal}
use Rattle.ash_compile.proofs.operators.plain_local.Goals as goal

pub returns-then-is_plain : goal.returns-then-is_plain
returns-then-is_plain c = record {
  reads = rw c.in-Local.is (ReadsLocal.reads_local (c.is_plain.ensures.plain c.if-is_plain.true));
}
