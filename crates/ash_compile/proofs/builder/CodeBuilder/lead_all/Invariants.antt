use Rattle.std.proofs.Common.{take}
use Rattle.ash_compile.specs.EmittedStatements.{LeadsAll}
use Rattle.ash_compile.proofs.builder.CodeBuilder.lead_all.Given as goal

-- The jumps so far lead there.
abbrev pub invariant-loop-at : goal.invariant-loop-at
invariant-loop-at l = LeadsAll l.fn.self l.self (take l.at-index l.places) l.to
