use Rattle.ash_compile.proofs.operators.comparison_of.Goals as goal

pub returns-in-Compare : goal.returns-in-Compare
returns-in-Compare c = record { compares = rw c.in-Compare.is c.comparison_in.ensures.compares }
