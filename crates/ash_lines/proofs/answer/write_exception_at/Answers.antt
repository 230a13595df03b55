use Rattle.std.proofs.Common.{◌++◌, codes}
use Rattle.std.proofs.lemmas.Result.{err_from_is_err_and}
use Rattle.ash_lines.specs.ReplyText.{exception_text, place_text}
use Rattle.ash_lines.proofs.SinkLemmas.{fails-more, accepts-fails, writes-then}
use Rattle.ash_lines.proofs.answer.write_exception_at.Goals as goal

pub returns-in_err-write : goal.returns-in_err-write
returns-in_err-write g c =
    let p = err_from_is_err_and c.from_residual.result c.from_residual.ensures.1 in
    record { text = rw p.1 (fails-more g.K.Sink.outlet _ _ (codes "exception ") (exception_text c.args.exception ++ place_text c.args.function.now c.args.line) c.in_err-write.ensures.written) }

pub returns-in_err-write_exception : goal.returns-in_err-write_exception
returns-in_err-write_exception g c =
    let p = err_from_is_err_and c.from_residual-in_err-write_exception.result c.from_residual-in_err-write_exception.ensures.1 in
    record {
      text = rw p.1 (accepts-fails g.K.Sink.outlet g.met.K.Sink.is_outlet _ _ _ (codes "exception ") (exception_text c.args.exception ++ place_text c.args.function.now c.args.line) c.in_ok-write.ensures.written
          (fails-more g.K.Sink.outlet _ _ (exception_text c.args.exception) (place_text c.args.function.now c.args.line) c.in_err-write_exception.ensures.text));
    }

pub returns : goal.returns
returns g c = record {
  text = writes-then g.K.Sink.outlet g.met.K.Sink.is_outlet _ _ _ (codes "exception ") (exception_text c.args.exception ++ place_text c.args.function.now c.args.line) c.write_place.result c.in_ok-write.ensures.written
      (writes-then g.K.Sink.outlet g.met.K.Sink.is_outlet _ _ _ (exception_text c.args.exception) (place_text c.args.function.now c.args.line) c.write_place.result c.in_ok-write_exception.ensures.text c.write_place.ensures.text);
}
