use Rattle.std.proofs.Common.{◌-◌, replicate}
use Rattle.ash_lines.specs.ReplyText.{line_reply_of, text_of}
use Rattle.ash_serve.proofs.ReplyLemmas.{LeavesText}
use Rattle.ash_serve.proofs.reply.write_repeatedly.Given as goal

abbrev pub invariant-loop-i : goal.invariant-loop-i
invariant-loop-i g l =
    LeavesText g.K.Sink.outlet (text_of (replicate l.fn.count (line_reply_of l.reply))) l.initial.output
    (text_of (replicate (l.fn.count - l.i) (line_reply_of l.reply))) l.output
