use Rattle.std.proofs.Common.{sym, ◌∙◌}
use Rattle.ash_compile.proofs.operators.local_read.Goals as goal

pub returns-in-Variable : goal.returns-in-Variable
returns-in-Variable c = record { reads = rw (sym c.deref.ensures ∙ c.in-Variable.is) c.plain_local.ensures.reads }
