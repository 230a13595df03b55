-- What the code's replies to a host's requests are to the definitions.
use Rattle.std.specs.Prelude.{Result, Ok, Err}
use Rattle.ash_requests.specs.Requests.{Reply, Done, Refused}
use Rattle.ash_requests.specs.declared.reply.Reply as code_reply
use Rattle.ash_requests.specs.RequestViews.{refusal_seen, reply_seen}
use Rattle.ash_sources.specs.declared.fault.SourceFault.{SourceFault as CodeFault}
use Rattle.ash_sources.specs.SourceFaults.{SourceFault, fault_of}
use Rattle.ash_durable.specs.Saving.{HostRefusal}

-- What the code replies to a request.
abbrev pub HostReply : Type 0
HostReply = code_reply.Reply CodeFault

-- a refusal of the code is a reply
abbrev pub refused_by : HostRefusal → Reply SourceFault
refused_by refusal = Refused (refusal_seen fault_of refusal)

-- What the code gives for a request that is refused by an error is a reply either way.
abbrev pub reply_of : Result HostReply HostRefusal → Reply SourceFault
reply_of (Ok reply) = reply_seen fault_of reply
reply_of (Err refusal) = refused_by refusal

-- the same of a request that has no more to say than that it is done
abbrev pub done_of : {T : Type 0} → Result T HostRefusal → Reply SourceFault
done_of (Ok done) = Done
done_of (Err refusal) = refused_by refusal
