use Rattle.std.proofs.lemmas.Result.{err_from_is_err_and}
use Rattle.ash_lines.specs.ReplyText.{line_reply_of}
use Rattle.ash_serve.proofs.ReplyLemmas.{leaves-less, leaves-failed, same-again}
use Rattle.ash_serve.proofs.reply.write_repeatedly.Goals as goal

pub returns-in_err-write_line_reply : goal.returns-in_err-write_line_reply
returns-in_err-write_line_reply g c =
    let p = err_from_is_err_and c.from_residual.result c.from_residual.ensures.1 in
    record { text = rw p.1 (leaves-failed g.K.Sink.outlet g.met.K.Sink.is_outlet _ _ _ _ _ _ _ c.loop-i.invariant (same-again c.args.count c.loop-i.i (line_reply_of c.args.reply.now) c.loop-i-test.true) c.in_err-write_line_reply.ensures.line) }

pub loop-i-preserved : goal.loop-i-preserved
loop-i-preserved g c =
    leaves-less g.K.Sink.outlet g.met.K.Sink.is_outlet _ _ _ _ _ _ _ c.loop-i.invariant (same-again c.args.count c.loop-i.i (line_reply_of c.args.reply.now) c.loop-i-test.true) c.in_ok-write_line_reply.ensures.line
