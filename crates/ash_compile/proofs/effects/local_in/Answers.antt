use Rattle.ash_compile.proofs.effects.local_in.Goals as goal

pub returns-in-Variable : goal.returns-in-Variable
returns-in-Variable c = record { local = rw c.in-Variable.is c.slot_of.ensures.local }
