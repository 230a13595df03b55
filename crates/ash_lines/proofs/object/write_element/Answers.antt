use Rattle.std.proofs.Common.{codes}
use Rattle.std.proofs.lemmas.Result.{err_from_is_err_and}
use Rattle.ash_lines.specs.ObjectTexts.{word_text}
use Rattle.ash_lines.proofs.SinkLemmas.{fails-more, writes-then}
use Rattle.ash_lines.proofs.object.write_element.Goals as goal

pub returns-in_err-write : goal.returns-in_err-write
returns-in_err-write g c =
    let p = err_from_is_err_and c.from_residual.result c.from_residual.ensures.1 in
    record { text = rw p.1 (fails-more g.K.Sink.outlet _ _ (codes " ") (word_text c.args.element) c.in_err-write.ensures.written) }

pub returns : goal.returns
returns g c = record {
  text = writes-then g.K.Sink.outlet g.met.K.Sink.is_outlet _ _ _ (codes " ") (word_text c.args.element) c.write_word.result c.in_ok-write.ensures.written c.write_word.ensures.text;
}
