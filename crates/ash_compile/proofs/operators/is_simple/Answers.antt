use Rattle.std.proofs.Common.{sym, ◌∙◌}
use Rattle.ash_compile.specs.Operands.{IsSimple}
use Rattle.ash_compile.proofs.operators.is_simple.Goals as goal

pub returns-in-Number : goal.returns-in-Number
returns-in-Number c = record { simple = rw (sym c.deref.ensures ∙ c.in-Number.is) (λ yes. IsSimple.number) }

pub returns-in-Bool : goal.returns-in-Bool
returns-in-Bool c = record { simple = rw (sym c.deref.ensures ∙ c.in-Bool.is) (λ yes. IsSimple.truth) }

pub returns-in-Variable : goal.returns-in-Variable
returns-in-Variable c = record { simple = rw (sym c.deref.ensures ∙ c.in-Variable.is) c.is_local.ensures.simple }
