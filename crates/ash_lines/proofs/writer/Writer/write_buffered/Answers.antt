use Rattle.std.proofs.Common.{take, drop, refl}
use Rattle.ash_lines.proofs.WriterLemmas.{split_prefix}
use Rattle.ash_lines.proofs.writer.Writer.write_buffered.Goals as goal

pub returns-in-Err : goal.returns-in-Err
returns-in-Err g c = record {
  written = (take c.in-Err.field-0 c.args.self.now.buffer.items, drop c.in-Err.field-0 c.args.self.now.buffer.items, (rw c.as_slice.ensures.value at c.in-Err.ensures.written, refl, refl), split_prefix c.in-Err.field-0 c.args.self.now.buffer.items);
}
