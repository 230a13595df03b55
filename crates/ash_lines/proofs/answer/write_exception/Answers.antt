use Rattle.std.proofs.lemmas.Result.{err_from_is_err_and}
use Rattle.ash_meaning.specs.Exceptions.{name_of}
use Rattle.ash_lines.specs.ReplyText.{raised_text}
use Rattle.ash_lines.proofs.SinkLemmas.{fails-more, writes-then}
use Rattle.ash_lines.proofs.answer.write_exception.Goals as goal

pub returns-in_err-write : goal.returns-in_err-write
returns-in_err-write g c =
    let p = err_from_is_err_and c.from_residual.result c.from_residual.ensures.1 in
    let name = rw (c.as_bytes.ensures.value, c.name.ensures.name) at c.in_err-write.ensures.written in
    record { text = rw p.1 (fails-more g.K.Sink.outlet _ _ (name_of c.args.exception) (raised_text c.args.exception) name) }

pub returns : goal.returns
returns g c =
    let name = rw (c.as_bytes.ensures.value, c.name.ensures.name) at c.in_ok-write.ensures.written in
    record { text = writes-then g.K.Sink.outlet g.met.K.Sink.is_outlet _ _ _ (name_of c.args.exception) (raised_text c.args.exception) c.write_raised.result name c.write_raised.ensures.text }
