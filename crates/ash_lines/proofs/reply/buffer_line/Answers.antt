use Rattle.std.proofs.Common.{◌∷◌, []}
use Rattle.std.proofs.lemmas.Result.{err_from_is_err_and}
use Rattle.ash_lines.proofs.SinkLemmas.{fails-more, writes-then}
use Rattle.ash_lines.proofs.reply.buffer_line.Goals as goal

pub returns-in_err-write : goal.returns-in_err-write
returns-in_err-write g c =
    let p = err_from_is_err_and c.from_residual.result c.from_residual.ensures.1 in
    record { line = rw p.1 (fails-more g.K.Sink.outlet _ _ c.args.text.now (10 ∷ []) c.in_err-write.ensures.written) }

pub returns : goal.returns
returns g c = record {
  line = writes-then g.K.Sink.outlet g.met.K.Sink.is_outlet _ _ _ c.args.text.now (10 ∷ []) c.write-2.result c.in_ok-write.ensures.written c.write-2.ensures.written;
}
