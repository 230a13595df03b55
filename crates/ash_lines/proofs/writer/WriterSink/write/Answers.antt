use Rattle.std.proofs.lemmas.Result.{err_from_is_err_and}
use Rattle.ash_lines.specs.Writer.{writer_outlet, writer_is_outlet}
use Rattle.ash_lines.proofs.WriterLemmas.{buffered_fault, through_after}
use Rattle.ash_lines.proofs.writer.WriterSink.write.Goals as goal

pub returns-in_err-write_buffered : goal.returns-in_err-write_buffered
returns-in_err-write_buffered g c =
    let p = err_from_is_err_and c.from_residual.result c.from_residual.ensures.1 in
    record { written = rw p.1 (buffered_fault (writer_outlet g.W.Write.contents) c.args.self.now c.write_buffered.new.self c.args.bytes.now c.in_err-write_buffered.ensures.written) }

pub returns : goal.returns
returns g c = record {
  written = through_after (writer_outlet g.W.Write.contents) (writer_is_outlet g.W.Write.contents) c.args.self.now c.write_buffered.new.self c.write_through.new.self c.args.bytes.now c.write_through.result c.in_ok-write_buffered.ensures.written c.write_through.ensures.written;
}
