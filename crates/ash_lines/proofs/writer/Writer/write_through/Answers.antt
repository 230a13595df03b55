use Rattle.std.proofs.Common.{take, drop, refl}
use Rattle.ash_lines.proofs.WriterLemmas.{split_prefix}
use Rattle.ash_lines.proofs.writer.Writer.write_through.Goals as goal

pub returns-in-Err : goal.returns-in-Err
returns-in-Err g c = record {
  written = (take c.in-Err.field-0 c.args.bytes.now, drop c.in-Err.field-0 c.args.bytes.now, (c.in-Err.ensures.written, refl, refl), split_prefix c.in-Err.field-0 c.args.bytes.now);
}
