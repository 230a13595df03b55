use Rattle.std.proofs.Common.{string_bytes}
use Rattle.std.proofs.lemmas.Result.{err_from_is_err_and}
use Rattle.ash_requests.specs.RequestViews.{contents_seen}
use Rattle.ash_lines.specs.ObjectTexts.{object_text, contents_text}
use Rattle.ash_lines.proofs.SinkLemmas.{fails-more, writes-then}
use Rattle.ash_lines.proofs.object.write_shown.Goals as goal

pub returns-in_err-write_object : goal.returns-in_err-write_object
returns-in_err-write_object g c =
    let s = c.args.shown.now in
    let p = err_from_is_err_and c.from_residual.result c.from_residual.ensures.1 in
    let object = rw c.as_str.ensures.value at c.in_err-write_object.ensures.text in
    record { text = rw p.1 (fails-more g.K.Sink.outlet _ _ (object_text s.number (string_bytes s.type_name) s.count) (contents_text (contents_seen s.contents)) object) }

pub returns : goal.returns
returns g c =
    let s = c.args.shown.now in
    let object = rw c.as_str.ensures.value at c.in_ok-write_object.ensures.text in
    record { text = writes-then g.K.Sink.outlet g.met.K.Sink.is_outlet _ _ _ (object_text s.number (string_bytes s.type_name) s.count) (contents_text (contents_seen s.contents)) c.write_contents.result object c.write_contents.ensures.text }
