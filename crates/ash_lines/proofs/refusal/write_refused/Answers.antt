use Rattle.std.proofs.lemmas.Result.{err_from_is_err_and}
use Rattle.ash_lines.specs.FaultDetails.{details_of}
use Rattle.ash_lines.specs.RefusalTexts.{label_text, details_text}
use Rattle.ash_lines.proofs.SinkLemmas.{fails-more, writes-then}
use Rattle.ash_lines.proofs.refusal.write_refused.Goals as goal

pub returns-in_err-write_label : goal.returns-in_err-write_label
returns-in_err-write_label g c =
    let p = err_from_is_err_and c.from_residual.result c.from_residual.ensures.1 in
    record { text = rw p.1 (fails-more g.K.Sink.outlet _ _ (label_text c.args.code.now) (details_text (details_of c.args.details)) c.in_err-write_label.ensures.text) }

pub returns : goal.returns
returns g c = record {
  text = writes-then g.K.Sink.outlet g.met.K.Sink.is_outlet _ _ _ (label_text c.args.code.now) (details_text (details_of c.args.details)) c.write_details.result c.in_ok-write_label.ensures.text c.write_details.ensures.text;
}
