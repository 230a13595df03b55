-- The text of replies.
use Rattle.std.specs.Prelude.{ℕ, Bool, true, false, if◌then◌else◌, List, [], ◌∷◌, ◌++◌, codes, Option, Some, None}
use Rattle.std.specs.Prelude.{decimal}
use Rattle.std.specs.List.{flat_map, list_any}
use Rattle.ash_host.specs.declared.word.Word.{Word}
use Rattle.ash_host.specs.declared.event.Event.{Event}
use Rattle.ash_host.specs.declared.event.Event.TheVariants.{Dropped}
use Rattle.ash_meaning.specs.declared.exception.Exception.{Exception}
use Rattle.ash_meaning.specs.declared.exception.Exception.TheVariants.{Raised}
use Rattle.ash_meaning.specs.Exceptions.{name_of}
use Rattle.ash_meaning.specs.Ends.{End, Finished, Threw, Aborted}
use Rattle.ash_requests.specs.Requests.{Reply, Answered, Value, ShownAs, Number, Done, Refused}
use Rattle.ash_requests.specs.RequestViews.{reply_seen}
use Rattle.ash_sources.specs.SourceFaults.{SourceFault, fault_of}
use Rattle.ash_lines.specs.ObjectTexts.{word_text, shown_text}
use Rattle.ash_lines.specs.RefusalTexts.{refusal_text}
use Rattle.ash_lines.specs.declared.reply.LineReply as code
use Rattle.ash_lines.specs.declared.reply.LineReply.TheVariants as code_replies

-- the reply to a line: the host's, that the run ends, or why the line is no request
pub data LineReply : Type 0 where
  HostReply : (reply : Reply SourceFault) → LineReply
  QuitReply : LineReply
  BadRequestReply : LineReply
  LineTooLongReply : LineReply

-- what the code's reply to a line represents
abbrev pub line_reply_of : code.LineReply → LineReply
line_reply_of (code_replies.Host reply) = HostReply (reply_seen fault_of reply)
line_reply_of code_replies.Quit = QuitReply
line_reply_of code_replies.BadRequest = BadRequestReply
line_reply_of code_replies.LineTooLong = LineTooLongReply

-- the code that a host object raised, with a blank before it; another exception has none
abbrev pub raised_text : Exception → List ℕ
raised_text (Raised code) = codes " " ++ decimal code
raised_text _ = []

-- an exception by its name
abbrev pub exception_text : Exception → List ℕ
exception_text exception = name_of exception ++ raised_text exception

-- where a run ended: a function of the script, and the line in it
abbrev pub place_text : List ℕ → ℕ → List ℕ
place_text function line = codes " " ++ (function ++ (codes " " ++ decimal line))

abbrev pub finished_text : Option Word → List ℕ
finished_text None = codes "ok"
finished_text (Some word) = codes "ok " ++ word_text word

-- how a run ended
abbrev pub end_text : End → List ℕ
end_text (Finished value) = finished_text value
end_text (Threw exception function line) = codes "exception " ++ (exception_text exception ++ place_text function line)
end_text (Aborted function line) = codes "aborted" ++ place_text function line

-- how many requests have been answered
abbrev pub seq_text : ℕ → List ℕ
seq_text seq = codes " seq " ++ decimal seq

-- whether a host object was dropped
abbrev pub is_drop : Event → Bool
is_drop (Dropped number) = true
is_drop _ = false

-- the number of a host object that was dropped, with a blank before it; another event has no text
abbrev pub drop_text : Event → List ℕ
drop_text (Dropped number) = codes " " ++ decimal number
drop_text _ = []

-- the numbers of the host objects that were dropped, in the order in which they were, if there are any
abbrev pub drops_text : List Event → List ℕ
drops_text events = if list_any is_drop events then codes " dropped" ++ flat_map drop_text events else []

-- an answer: how the run ended, how many requests have been answered, and which host objects were dropped
abbrev pub answer_text : End → ℕ → List Event → List ℕ
answer_text end seq events = end_text end ++ (seq_text seq ++ drops_text events)

abbrev pub reply_text : Reply SourceFault → List ℕ
reply_text (Answered end seq events) = answer_text end seq events
reply_text (Value word) = codes "ok " ++ word_text word
reply_text (ShownAs shown) = shown_text shown
reply_text (Number seq) = codes "ok " ++ decimal seq
reply_text Done = codes "ok"
reply_text (Refused refusal) = refusal_text refusal

abbrev pub line_reply_text : LineReply → List ℕ
line_reply_text (HostReply reply) = reply_text reply
line_reply_text QuitReply = codes "ok"
line_reply_text BadRequestReply = codes "refused 601 BadRequest"
line_reply_text LineTooLongReply = codes "refused 602 LineTooLong"

-- the reply to a line, as a line
unfoldable pub reply_line : LineReply → List ℕ
reply_line line_reply = line_reply_text line_reply ++ 10 ∷ []

-- the text of replies, one after another
abbrev pub text_of : List LineReply → List ℕ
text_of replies = flat_map reply_line replies
