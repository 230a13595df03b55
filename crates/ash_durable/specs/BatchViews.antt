-- What the code's requests of a batch, and its replies to them, represent.
use Rattle.std.specs.Prelude.{List, map, Result, Ok, Err}
use Rattle.std.specs.declared.vec.Vec.{Vec}
use Rattle.std.specs.declared.alloc.Global.{Global as Memory}
use Rattle.ash_requests.specs.Requests.{Load, Call, Discard, Get, Object, Seq, Value, ShownAs, Number}
use Rattle.ash_requests.specs.Requests.{Answered}
use Rattle.ash_requests.specs.OutcomeViews.{end_seen}
use Rattle.ash_requests.specs.RequestViews.{refusal_seen, shown_seen}
use Rattle.ash_sources.specs.SourceFaults.{fault_of}
use Rattle.ash_durable.specs.declared.batch.BatchRequest as code_request
use Rattle.ash_durable.specs.declared.batch.BatchRequest.TheVariants as requests
use Rattle.ash_durable.specs.declared.batch.BatchReply as code_reply
use Rattle.ash_durable.specs.declared.batch.BatchReply.TheVariants as replies
use Rattle.ash_durable.specs.declared.batch.BatchRefusal as code_refusal
use Rattle.ash_durable.specs.declared.batch.BatchRefusal.TheVariants as refusals
use Rattle.ash_durable.specs.HostReplies.{refused_by}
use Rattle.ash_durable.specs.Saving.{HostRefusal}
use Rattle.ash_durable.specs.Batches.{BatchRequest, Asked, BadRequest, BatchReply, Replied, RefusedBad, BatchResult}

abbrev pub batch_request_seen : code_request.BatchRequest → BatchRequest
batch_request_seen (requests.Load name source) = Asked (Load name.now source.now)
batch_request_seen (requests.Call module_name function args) = Asked (Call module_name.now function.now args.now)
batch_request_seen (requests.Discard name) = Asked (Discard name.now)
batch_request_seen (requests.Global module_name name) = Asked (Get module_name.now name.now)
batch_request_seen (requests.Object number) = Asked (Object number)
batch_request_seen requests.Seq = Asked Seq
batch_request_seen (requests.Bad number) = BadRequest number

abbrev pub batch_refusal_seen : code_refusal.BatchRefusal → BatchReply
batch_refusal_seen (refusals.Host refusal) = Replied (refused_by refusal)
batch_refusal_seen (refusals.Bad number) = RefusedBad number

abbrev pub batch_reply_seen : code_reply.BatchReply → BatchReply
batch_reply_seen (replies.Answer a) = Replied (Answered (end_seen a.outcome) a.seq a.events.items)
batch_reply_seen (replies.Value word) = Replied (Value word)
batch_reply_seen (replies.Shown shown) = Replied (ShownAs (shown_seen shown))
batch_reply_seen (replies.Seq seq) = Replied (Number seq)
batch_reply_seen (replies.Refused refusal) = batch_refusal_seen refusal

-- the replies of the code, or why it refuses a batch
abbrev pub batch_result_seen : Result (Vec code_reply.BatchReply Memory) HostRefusal → BatchResult
batch_result_seen (Ok given) = Ok (map batch_reply_seen given.items)
batch_result_seen (Err refusal) = Err (refusal_seen fault_of refusal)
