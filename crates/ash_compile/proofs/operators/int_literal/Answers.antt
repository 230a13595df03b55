use Rattle.std.proofs.Common.{sym, ◌∙◌}
use Rattle.ash_compile.proofs.operators.int_literal.Goals as goal

pub returns-in-Number : goal.returns-in-Number
returns-in-Number c = record { int = rw (sym c.deref.ensures ∙ c.in-Number.is) c.int_from.ensures.int }
