-- What the code's requests, refusals and replies represent. `fault` says what the faults of sources do.
use Rattle.std.specs.Prelude.{ℕ, List, map, string_bytes}
use Rattle.std.specs.declared.string.String.{String}
use Rattle.std.specs.declared.alloc.Global.{Global as Memory}
use Rattle.ash_host.specs.declared.word.Word.{Word}
use Rattle.ash_requests.specs.OutcomeViews.{end_seen}
use Rattle.ash_requests.specs.Requests.{Request, Load, Call, Discard, Get, Object, Seq, Snapshot}
use Rattle.ash_requests.specs.Requests.{ObjectContents, Fields, HostState, Elements, Shown}
use Rattle.ash_requests.specs.Requests as steps
use Rattle.ash_requests.specs.Requests.{Refusal, Reply, Answered, Value, ShownAs, Number, Done, Refused}
use Rattle.ash_requests.specs.declared.request.Request as request
use Rattle.ash_requests.specs.declared.request.Request.TheVariants as requests
use Rattle.ash_requests.specs.declared.refusal.Refusal as refusal
use Rattle.ash_requests.specs.declared.refusal.Refusal.TheVariants as refusals
use Rattle.ash_requests.specs.declared.shown.ObjectContents as contents
use Rattle.ash_requests.specs.declared.shown.ObjectContents.TheVariants as all_contents
use Rattle.ash_requests.specs.declared.shown.Shown as shown
use Rattle.ash_requests.specs.declared.reply.Reply as reply
use Rattle.ash_requests.specs.declared.reply.Reply.TheVariants as replies

abbrev pub request_seen : request.Request → Request
request_seen (requests.Load module_name source) = Load module_name.now source.now
request_seen (requests.Call module_name function arguments) = Call module_name.now function.now arguments.now
request_seen (requests.Discard module_name) = Discard module_name.now
request_seen (requests.Global module_name name) = Get module_name.now name.now
request_seen (requests.Object number) = Object number
request_seen requests.Seq = Seq
request_seen requests.Snapshot = Snapshot

-- a field with its name
abbrev pub field_seen : String Memory × Word → List ℕ × Word
field_seen f = (string_bytes f.0, f.1)

abbrev pub contents_seen : contents.ObjectContents → ObjectContents
contents_seen (all_contents.Fields fields) = Fields (map field_seen fields.items)
contents_seen (all_contents.HostState state) = HostState state.items
contents_seen (all_contents.Elements elements) = Elements elements.items

-- what an object has in it, with the name of its type
abbrev pub named_seen : String Memory × contents.ObjectContents → List ℕ × ObjectContents
named_seen d = (string_bytes d.0, contents_seen d.1)

abbrev pub shown_seen : shown.Shown → Shown
shown_seen s = record {
  number = s.number;
  type_name = string_bytes s.type_name;
  count = s.count;
  contents = contents_seen s.contents;
}

module _ {Code Fault : Type 0} (fault : Code → Fault) where
  abbrev pub refusal_seen : refusal.Refusal Code → Refusal Fault
  refusal_seen refusals.SequenceSpent = steps.SequenceSpent
  refusal_seen refusals.BadName = steps.BadName
  refusal_seen refusals.ModuleTaken = steps.ModuleTaken
  refusal_seen refusals.TooManyModules = steps.TooManyModules
  refusal_seen (refusals.BadSource f) = steps.BadSource (fault f)
  refusal_seen refusals.NoModule = steps.NoModule
  refusal_seen refusals.NoFunction = steps.NoFunction
  refusal_seen refusals.NotCallable = steps.NotCallable
  refusal_seen refusals.BadArguments = steps.BadArguments
  refusal_seen refusals.NoGlobal = steps.NoGlobal
  refusal_seen refusals.NoObject = steps.NoObject
  refusal_seen refusals.Reopen = steps.Reopen
  refusal_seen refusals.DeviceFailed = steps.DeviceFailed
  refusal_seen refusals.NoMemory = steps.NoMemory
  refusal_seen refusals.GenerationSpent = steps.GenerationSpent

  abbrev pub reply_seen : reply.Reply Code → Reply Fault
  reply_seen (replies.Answer a) = Answered (end_seen a.outcome) a.seq a.events.items
  reply_seen (replies.Value word) = Value word
  reply_seen (replies.Shown s) = ShownAs (shown_seen s)
  reply_seen (replies.Seq seq) = Number seq
  reply_seen replies.Done = Done
  reply_seen (replies.Refused r) = Refused (refusal_seen r)
