use Rattle.std.proofs.Common.{◌∷◌, []}
use Rattle.std.proofs.lemmas.Result.{err_from_is_err_and}
use Rattle.ash_requests.specs.RequestViews.{reply_seen}
use Rattle.ash_sources.specs.SourceFaults.{fault_of}
use Rattle.ash_lines.specs.ReplyText.{reply_text}
use Rattle.ash_lines.proofs.SinkLemmas.{fails-more, writes-then}
use Rattle.ash_lines.proofs.reply.write_reply_line.Goals as goal

pub returns-in_err-write_reply : goal.returns-in_err-write_reply
returns-in_err-write_reply g c =
    let p = err_from_is_err_and c.from_residual.result c.from_residual.ensures.1 in
    record { line = rw p.1 (fails-more g.K.Sink.outlet _ _ (reply_text (reply_seen fault_of c.args.reply.now)) (10 ∷ []) c.in_err-write_reply.ensures.text) }

pub returns : goal.returns
returns g c = record {
  line = writes-then g.K.Sink.outlet g.met.K.Sink.is_outlet _ _ _ (reply_text (reply_seen fault_of c.args.reply.now)) (10 ∷ []) c.write.result c.in_ok-write_reply.ensures.text c.write.ensures.written;
}
