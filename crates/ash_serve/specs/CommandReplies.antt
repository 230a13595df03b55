-- What commands are replied, and its text.
use Rattle.std.specs.Prelude.{ℕ, ◌==◌, if◌then◌else◌, List, map, replicate, Ok, Err}
use Rattle.std.specs.List.{flat_map}
use Rattle.ash_requests.specs.Requests.{Refused}
use Rattle.ash_durable.specs.Batches.{BatchReply, Replied, RefusedBad, BatchResult}
use Rattle.ash_durable.specs.BatchViews.{batch_result_seen}
use Rattle.ash_lines.specs.ReplyText.{LineReply, HostReply, BadRequestReply, LineTooLongReply, line_reply_of, reply_line}
use Rattle.ash_lines.specs.ReplyText.{text_of}
use Rattle.ash_serve.specs.BatchLines.{line_too_long}
use Rattle.ash_serve.specs.declared.reply.CommandReply as code
use Rattle.ash_serve.specs.declared.reply.CommandReply.TheVariants as code_replies

-- The reply to a command: that to its line, or what a host replies to a batch of so many lines.
pub data CommandReply : Type 0 where
  SingleReply : (reply : LineReply) → CommandReply
  BatchReplied : (count : ℕ) → (result : BatchResult) → CommandReply

-- what the code's reply to a command represents
abbrev pub command_reply_of : code.CommandReply → CommandReply
command_reply_of (code_replies.Single reply) = SingleReply (line_reply_of reply)
command_reply_of (code_replies.Batch count result) = BatchReplied count (batch_result_seen result)

-- a reply to a request of a batch, as that to its line
abbrev pub batch_line_reply : BatchReply → LineReply
batch_line_reply (Replied reply) = HostReply reply
batch_line_reply (RefusedBad number) = if number == line_too_long then LineTooLongReply else BadRequestReply

-- the text of the reply to a command, as lines: of a batch the replies in order, or its refusal for each line
abbrev pub command_text : CommandReply → List ℕ
command_text (SingleReply reply) = reply_line reply
command_text (BatchReplied count (Ok replies)) = text_of (map batch_line_reply replies)
command_text (BatchReplied count (Err refusal)) = text_of (replicate count (HostReply (Refused refusal)))

-- the text of replies, one after another
abbrev pub replies_text : List CommandReply → List ℕ
replies_text replies = flat_map command_text replies
