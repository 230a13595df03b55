use Rattle.std.proofs.Common.{refl, rules}
use Rattle.ash_lines.proofs.ReaderLemmas.{reads_end, reads_byte}
use Rattle.ash_lines.proofs.reader.read_more.Goals as goal

pub returns-in-Ok-eq0 : goal.returns-in-Ok-eq0
returns-in-Ok-eq0 g c = record { byte = reads_end _ _ _ _ _ _ c.tries.invariant c.read.ensures.bytes c.in-Ok-eq0.is c.in-Ok-eq0.field-0-test (search rules) }

pub returns-in-Ok : goal.returns-in-Ok
returns-in-Ok g c = record { byte = reads_byte _ _ _ _ _ _ _ c.tries.invariant c.read.ensures.bytes c.in-Ok.is c.in-Ok.field-0-test.1 c.in-Ok.ensures.bound.0 (search rules) refl }
