use Rattle.std.proofs.Common.{inl, refl}
use Rattle.ash_compile.proofs.builder.CodeBuilder.conversion_before.Goals as goal

pub returns-in-None : goal.returns-in-None
returns-in-None c = record { emits = rw c.in-None.is (λ start e first. first); there = inl refl }

pub returns-in-Some : goal.returns-in-Some
returns-in-Some c = record { emits = rw c.in-Some.is c.converted.ensures.emits; there = c.converted.ensures.there }
