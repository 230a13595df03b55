use Rattle.std.proofs.Common.{◌∷◌, []}
use Rattle.std.proofs.lemmas.Result.{err_from_is_err_and}
use Rattle.ash_lines.proofs.SinkLemmas.{accepts-flushes}
use Rattle.ash_lines.proofs.reply.end_line.Goals as goal

pub returns-in_err-write : goal.returns-in_err-write
returns-in_err-write g c =
    let p = err_from_is_err_and c.from_residual.result c.from_residual.ensures.1 in
    record { line = rw p.1 c.in_err-write.ensures.written }

pub returns : goal.returns
returns g c = record {
  line = accepts-flushes g.K.Sink.outlet g.met.K.Sink.is_outlet _ _ _ (10 ∷ []) c.flush.result c.in_ok-write.ensures.written c.flush.ensures.flushed;
}
