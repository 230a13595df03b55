use Rattle.std.proofs.lemmas.Result.{err_from_is_err_and}
use Rattle.ash_lines.specs.ObjectTexts.{field_name_text, word_text}
use Rattle.ash_lines.proofs.SinkLemmas.{fails-more, writes-then}
use Rattle.ash_lines.proofs.object.write_field.Goals as goal

pub returns-in_err-write_field_name : goal.returns-in_err-write_field_name
returns-in_err-write_field_name g c =
    let p = err_from_is_err_and c.from_residual.result c.from_residual.ensures.1 in
    record { text = rw p.1 (fails-more g.K.Sink.outlet _ _ (field_name_text c.args.name.now) (word_text c.args.word) c.in_err-write_field_name.ensures.text) }

pub returns : goal.returns
returns g c = record {
  text = writes-then g.K.Sink.outlet g.met.K.Sink.is_outlet _ _ _ (field_name_text c.args.name.now) (word_text c.args.word) c.write_word.result c.in_ok-write_field_name.ensures.text c.write_word.ensures.text;
}
