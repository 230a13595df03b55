use Rattle.std.proofs.Common.{[]}
use Rattle.std.proofs.lemmas.Result.{err_from_is_err_and}
use Rattle.ash_lines.specs.Writer.{writer_outlet, writer_is_outlet}
use Rattle.ash_lines.proofs.WriterLemmas.{buffered_fault, flush_after}
use Rattle.ash_lines.proofs.writer.WriterSink.flush.Goals as goal

pub returns-in_err-write_buffered : goal.returns-in_err-write_buffered
returns-in_err-write_buffered g c =
    let p = err_from_is_err_and c.from_residual.result c.from_residual.ensures.1 in
    record { flushed = rw p.1 (buffered_fault (writer_outlet g.W.Write.contents) c.args.self.now c.write_buffered.new.self [] c.in_err-write_buffered.ensures.written) }

pub returns : goal.returns
returns g c = record {
  flushed = flush_after (writer_outlet g.W.Write.contents) (writer_is_outlet g.W.Write.contents) c.args.self.now c.write_buffered.new.self c.flush_writer.new.self c.flush_writer.result c.in_ok-write_buffered.ensures.written c.flush_writer.ensures.flushed;
}
