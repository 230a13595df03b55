use Rattle.std.proofs.Common.{[], refl}
use Rattle.ash_lines.proofs.WriterLemmas.{keeps_none}
use Rattle.ash_lines.proofs.writer.Writer.flush_writer.Goals as goal

pub returns-in-Ok : goal.returns-in-Ok
returns-in-Ok g c = record { flushed = ((keeps_none _ _ c.flush.ensures.bytes, refl, refl), refl, refl) }

pub returns-in-Err : goal.returns-in-Err
returns-in-Err g c = record { flushed = ([], [], (keeps_none _ _ c.flush.ensures.bytes, refl, refl), refl) }
