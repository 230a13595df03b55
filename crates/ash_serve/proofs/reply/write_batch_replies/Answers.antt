use Rattle.std.proofs.Common.{List, map, ap, arith, rules}
use Rattle.std.proofs.lemmas.Result.{err_from_is_err_and}
use Rattle.std.specs.Vec.Iter.{into_iter_items}
use Rattle.ash_durable.specs.BatchViews.{batch_reply_seen}
use Rattle.ash_durable.specs.declared.batch.BatchReply.{BatchReply}
use Rattle.ash_lines.specs.ReplyText.{text_of}
use Rattle.ash_serve.specs.CommandReplies.{batch_line_reply}
use Rattle.ash_serve.proofs.ReplyLemmas.{leaves-all, leaves-less, leaves-failed, leaves-none, no-text}
use Rattle.ash_serve.proofs.reply.write_batch_replies.Goals as goal

pub loop-reply-init : goal.loop-reply-init
loop-reply-init g c = leaves-all g.K.Sink.outlet g.met.K.Sink.is_outlet _ _ _ (search rules)

pub returns-in_err-write_batch_reply : goal.returns-in_err-write_batch_reply
returns-in_err-write_batch_reply g c =
    let p = err_from_is_err_and c.from_residual.result c.from_residual.ensures.1 in
    let next = ap (λ (left : List BatchReply). text_of (map batch_line_reply (map batch_reply_seen left))) c.in-Some.ensures.steps.0 in
    record { text = rw p.1 (leaves-failed g.K.Sink.outlet g.met.K.Sink.is_outlet _ _ _ _ _ _ _ c.loop-reply.invariant next c.in_err-write_batch_reply.ensures.text) }

pub loop-reply-preserved : goal.loop-reply-preserved
loop-reply-preserved g c =
    let next = ap (λ (left : List BatchReply). text_of (map batch_line_reply (map batch_reply_seen left))) c.in-Some.ensures.steps.0 in
    leaves-less g.K.Sink.outlet g.met.K.Sink.is_outlet _ _ _ _ _ _ _ c.loop-reply.invariant next c.in_ok-write_batch_reply.ensures.text

pub returns : goal.returns
returns g c = record {
  text = leaves-none g.K.Sink.outlet _ _ _ _ c.loop-reply.invariant (no-text (into_iter_items c.loop-reply.reply-iterator) (omega (arith, c.in-None.ensures.steps)));
}
