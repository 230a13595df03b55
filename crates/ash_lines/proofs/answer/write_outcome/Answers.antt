use Rattle.std.proofs.Common.{codes, string_bytes}
use Rattle.std.proofs.lemmas.Result.{err_from_is_err_and}
use Rattle.ash_lines.specs.ReplyText.{place_text}
use Rattle.ash_lines.proofs.SinkLemmas.{fails-more, writes-then}
use Rattle.ash_lines.proofs.answer.write_outcome.Goals as goal

pub returns-in_err-write-in-Aborted : goal.returns-in_err-write-in-Aborted
returns-in_err-write-in-Aborted g c =
    let p = err_from_is_err_and c.from_residual.result c.from_residual.ensures.1 in
    record { text = rw (p.1, c.in-Aborted.is) (fails-more g.K.Sink.outlet _ _ (codes "aborted") (place_text (string_bytes c.in-Aborted.function) c.in-Aborted.line) c.in_err-write-in-Aborted.ensures.written) }

pub returns-in_ok-write-in-Aborted : goal.returns-in_ok-write-in-Aborted
returns-in_ok-write-in-Aborted g c =
    let h = writes-then g.K.Sink.outlet g.met.K.Sink.is_outlet _ _ _ (codes "aborted") _ c.write_place.result c.in_ok-write-in-Aborted.ensures.written c.write_place.ensures.text in
    record { text = rw (c.in-Aborted.is, ← c.as_str-in-Aborted.ensures.value) h }
