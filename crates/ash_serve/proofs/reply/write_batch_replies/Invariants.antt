use Rattle.std.proofs.Common.{map}
use Rattle.std.specs.Vec.Iter.{into_iter_items}
use Rattle.ash_durable.specs.BatchViews.{batch_reply_seen}
use Rattle.ash_lines.specs.ReplyText.{text_of}
use Rattle.ash_serve.specs.CommandReplies.{batch_line_reply}
use Rattle.ash_serve.proofs.ReplyLemmas.{LeavesText}
use Rattle.ash_serve.proofs.reply.write_batch_replies.Given as goal

abbrev pub invariant-loop-reply : goal.invariant-loop-reply
invariant-loop-reply g l =
    LeavesText g.K.Sink.outlet (text_of (map batch_line_reply (map batch_reply_seen l.fn.replies.items))) l.initial.output
    (text_of (map batch_line_reply (map batch_reply_seen (into_iter_items l.reply-iterator)))) l.output
