-- A run: commands are read and handled, and the replies are written, one after another.
use Rattle.std.specs.Prelude.{◌≡◌, ◌⊎◌, ℕ, Bool, true, false, List, [], ◌∷◌, ◌++◌, length, map, Result, Ok, Err}
use Rattle.std.specs.Prelude.{Option, Some, None}
use Rattle.std.specs.List.{AllByRecursion}
use Rattle.ash_requests.specs.Requests.{Request, Load, Reply}
use Rattle.ash_sources.specs.SourceFaults.{SourceFault}
use Rattle.ash_durable.specs.Batches.{BatchRequest, BatchResult}
use Rattle.ash_lines.specs.Source.{Feed, Faults}
use Rattle.ash_lines.specs.Reading.{source_prefix}
use Rattle.ash_lines.specs.Sink.{Outlet, Accepts, WritesAll, FailsPartway}
use Rattle.ash_lines.specs.Lines.{Line, HostRequest, Quit, BadRequest, LineTooLong, Command, Single, Batch, ContinuesRun}
use Rattle.ash_lines.specs.Lines.{Cut, Whole, next, ConsistsOf, is_unfinished}
use Rattle.ash_lines.specs.ReplyText.{LineReply, HostReply, QuitReply, BadRequestReply, LineTooLongReply}
use Rattle.ash_lines.specs.declared.source.ReadFault.{ReadFault}
use Rattle.ash_serve.specs.BatchLines.{batch_request, prefix_of}
use Rattle.ash_serve.specs.CommandReplies.{CommandReply, SingleReply, BatchReplied, command_reply_of, command_text}
use Rattle.ash_serve.specs.CommandReplies.{replies_text}
use Rattle.ash_serve.specs.InputItems.{StopsInside, BeginsWith, BeginsBatch}
use Rattle.ash_serve.specs.declared.reply.CommandReply as code
use Rattle.ash_serve.specs.declared.fault.RunFault.{RunFault}
use Rattle.ash_serve.specs.declared.fault.RunFault.TheVariants as faults

-- What a host of one type may do with a request, within a budget: by the request, from the host
-- before it, to the reply and the host after it.
abbrev pub RequestRelation : Type 0 → Type 1
RequestRelation H = Request → H → Reply SourceFault → H → Type 0

-- A source that is too long is so whatever its bytes are: what may be replied to its prefix may be
-- replied to all of it.
abbrev pub DependsOnPrefix : {H : Type 0} → RequestRelation H → Type 0
DependsOnPrefix {H} handles =
    (name source : List ℕ) (old new : H) (reply : Reply SourceFault)
    → handles (Load name (source_prefix source)) old reply new
    → handles (Load name source) old reply new

-- What a host of one type may do with a batch of requests, within a budget for each.
abbrev pub BatchRelation : Type 0 → Type 1
BatchRelation H = List BatchRequest → H → BatchResult → H → Type 0

-- So it is in a batch.
abbrev pub BatchDependsOnPrefix : {H : Type 0} → BatchRelation H → Type 0
BatchDependsOnPrefix {H} handles_batch =
    (requests : List BatchRequest) (old new : H) (result : BatchResult)
    → handles_batch (map prefix_of requests) old result new
    → handles_batch requests old result new

-- what a host may do with a request, and with a batch
pub record HostRelation (H : Type 0) : Type 1 where
  pub handles : RequestRelation H
  pub handles_batch : BatchRelation H

-- by these relations, with this budget
abbrev pub relations : {H : Type 0} → (ℕ → RequestRelation H) → (ℕ → BatchRelation H) → ℕ → HostRelation H
relations handles handles_batch budget = record { handles = handles budget; handles_batch = handles_batch budget }

-- The reply to a line: what the host replies to its request, or one that leaves the host as it is.
abbrev pub RepliesToLine : {H : Type 0} → RequestRelation H → H → Line → LineReply → H → Type 0
RepliesToLine handles old (HostRequest request) (HostReply reply) new = handles request old reply new
RepliesToLine handles old Quit QuitReply new = new ≡ old
RepliesToLine handles old BadRequest BadRequestReply new = new ≡ old
RepliesToLine handles old LineTooLong LineTooLongReply new = new ≡ old
RepliesToLine handles old _ _ new = ⊥

-- The reply to a command: that to its line, or what the host replies to the requests of all lines of a batch.
abbrev pub RepliesTo : {H : Type 0} → HostRelation H → H → Command → CommandReply → H → Type 0
RepliesTo host old (Single line) (SingleReply reply) new = RepliesToLine host.handles old line reply new
RepliesTo host old (Batch lines) (BatchReplied count result) new =
    (count ≡ length lines) × host.handles_batch (map batch_request lines) old result new
RepliesTo host old _ _ new = ⊥

-- whether the run ends with this reply: with that to `quit`
abbrev pub ends_run : CommandReply → Bool
ends_run (SingleReply QuitReply) = true
ends_run _ = false

-- The replies to commands, each from the host that the one before it left.
abbrev pub RepliesToAll : {H : Type 0} → HostRelation H → H → List Command → List CommandReply → H → Type 0
RepliesToAll host old [] [] new = new ≡ old
RepliesToAll {H} host old (command ∷ commands) (reply ∷ replies) new =
    (between : H) × RepliesTo host old command reply between
    × RepliesToAll host between commands replies new
RepliesToAll host old _ _ new = ⊥

-- ---- one command

-- how commands are read and handled: what the source gives, and what the host may do
pub record Handling (S H : Type 0) : Type 1 where
  pub feed : Feed S
  pub host : HostRelation H

-- what commands are read from and the host that handles them, at one moment
pub record RequestState (S H : Type 0) : Type 0 where
  pub input : S
  pub host : H

-- by these relations of a source and of a host
abbrev pub handling_with : {S H : Type 0} → Feed S → HostRelation H → Handling S H
handling_with feed host = record { feed = feed; host = host }

-- this input and this host
abbrev pub request_state : {S H : Type 0} → S → H → RequestState S H
request_state input host = record { input = input; host = host }

-- One command was read and handled, and this is the reply to it.
pub record HandledCommand {S H : Type 0} (handling : Handling S H) (before : RequestState S H)
    (command : Command) (reply : CommandReply) (after : RequestState S H) : Type 0 where
  pub bytes : List ℕ
  pub spells : BeginsWith next bytes command
  pub took : handling.feed.reads before.input bytes after.input
  pub handled : RepliesTo handling.host before.host command reply after.host

-- What reading a command and handling it did, by its outcome: the reply to it, or a fault, after which nothing of it is
-- handled. Memory is refused only inside a batch.
abbrev pub HandlesCommand : {S H : Type 0} → Handling S H → RequestState S H
    → Result code.CommandReply RunFault → RequestState S H → Type 0
HandlesCommand handling before (Ok reply) after =
    (command : Command) × HandledCommand handling before command (command_reply_of reply) after
HandlesCommand handling before (Err faults.NoMemory) after =
    (rest : List ℕ) × handling.feed.reads before.input rest after.input × BeginsBatch rest
    × (after.host ≡ before.host)
HandlesCommand handling before (Err fault) after =
    StopsInside next handling.feed before.input fault after.input × (after.host ≡ before.host)

-- The same, where the input may end before the command.
abbrev pub HandlesNext : {S H : Type 0} → Handling S H → RequestState S H
    → Result (Option code.CommandReply) RunFault → RequestState S H → Type 0
HandlesNext handling before (Ok None) after =
    handling.feed.reads before.input [] after.input × handling.feed.ended after.input
    × (after.host ≡ before.host)
HandlesNext handling before (Ok (Some reply)) after =
    HandlesCommand handling before (Ok reply) after
HandlesNext handling before (Err fault) after = HandlesCommand handling before (Err fault) after

-- ---- a run

-- how a run is served: what the source gives, what the sink does with what is written, and what the
-- host may do
pub record Serving (S K H : Type 0) : Type 1 where
  pub feed : Feed S
  pub outlet : Outlet K
  pub host : HostRelation H

-- what a run reads from, what it writes to and the host that handles its commands, at one moment
pub record RunState (S K H : Type 0) : Type 0 where
  pub input : S
  pub output : K
  pub host : H

-- by these relations of a source, of a sink and of a host
abbrev pub serving_with : {S K H : Type 0} → Feed S → Outlet K → HostRelation H → Serving S K H
serving_with feed outlet host = record { feed = feed; outlet = outlet; host = host }

-- this input, this output and this host
abbrev pub run_state : {S K H : Type 0} → S → K → H → RunState S K H
run_state input output host = record { input = input; output = output; host = host }

-- how a run reads and handles its commands
abbrev pub handling_of : {S K H : Type 0} → Serving S K H → Handling S H
handling_of serving = handling_with serving.feed serving.host

-- a moment of a run, except for what it writes to
abbrev pub without_output : {S K H : Type 0} → RunState S K H → RequestState S H
without_output state = request_state state.input state.host

-- The input ended, and no command began. What was buffered went out.
pub record EndsBetweenRequests {S K H : Type 0} (serving : Serving S K H) (before after : RunState S K H)
    : Type 0 where
  pub took : serving.feed.reads before.input [] after.input
  pub ended : serving.feed.ended after.input
  pub flushed : WritesAll serving.outlet before.output [] after.output
  pub host_same : after.host ≡ before.host

-- The input ended inside a command. What was buffered went out.
pub record EndsInsideRequest {S K H : Type 0} (serving : Serving S K H) (before after : RunState S K H)
    : Type 0 where
  pub rest : List ℕ
  pub cut : next rest ≡ Cut
  pub took : serving.feed.reads before.input rest after.input
  pub ended : serving.feed.ended after.input
  pub flushed : WritesAll serving.outlet before.output [] after.output
  pub host_same : after.host ≡ before.host

-- The source failed inside a command, or before it. What was buffered went out.
pub record InputFails {S K H : Type 0} (serving : Serving S K H) (fault : ReadFault)
    (before after : RunState S K H) : Type 0 where
  pub rest : List ℕ
  pub unfinished : is_unfinished (next rest) ≡ true
  pub faults : Faults serving.feed before.input rest fault after.input
  pub flushed : WritesAll serving.outlet before.output [] after.output
  pub host_same : after.host ≡ before.host

-- Memory was refused while a batch was read, and nothing of it was handled. What was buffered went out.
pub record LacksMemory {S K H : Type 0} (serving : Serving S K H) (before after : RunState S K H) : Type 0 where
  pub rest : List ℕ
  pub batch : BeginsBatch rest
  pub took : serving.feed.reads before.input rest after.input
  pub flushed : WritesAll serving.outlet before.output [] after.output
  pub host_same : after.host ≡ before.host

-- One more command was handled, and then a write failed.
pub record ReplyFails {S K H : Type 0} (serving : Serving S K H) (before after : RunState S K H)
    : Type 0 where
  pub command : Command
  pub reply : CommandReply
  pub handled :
      HandledCommand (handling_of serving) (without_output before) command reply (without_output after)
  pub failed : FailsPartway serving.outlet before.output (command_text reply) after.output

-- These bytes are no whole command, or they are a batch that was not handled.
abbrev pub IsUnhandled : List ℕ → Type 0
IsUnhandled rest = (is_unfinished (next rest) ≡ true) ⊎ BeginsBatch rest

-- More bytes were read, of which nothing was handled, and then a write of what was buffered failed.
pub record FlushFails {S K H : Type 0} (serving : Serving S K H) (before after : RunState S K H)
    : Type 0 where
  pub rest : List ℕ
  pub unhandled : IsUnhandled rest
  pub reached : S
  pub took : serving.feed.reads before.input rest reached
  pub failed : FailsPartway serving.outlet before.output [] after.output
  pub host_same : after.host ≡ before.host

-- How a fault ended a run: the input ended inside a command or failed, memory was refused, or a write failed.
abbrev pub EndsByFault : {S K H : Type 0} → Serving S K H → RunState S K H → RunFault
    → RunState S K H → Type 0
EndsByFault serving before faults.Truncated after = EndsInsideRequest serving before after
EndsByFault serving before (faults.Read fault) after = InputFails serving fault before after
EndsByFault serving before faults.Write after = ReplyFails serving before after ⊎ FlushFails serving before after
EndsByFault serving before faults.NoMemory after = LacksMemory serving before after

-- The end of a run: what was buffered went out, and the run ends so; or a write failed.
abbrev pub Closes : {K : Type 0} → Outlet K → K → Result (Unit {0}) RunFault → Result (Unit {0}) RunFault → K
    → Type 0
Closes outlet old end result new =
    (WritesAll outlet old [] new × (result ≡ end)) ⊎ (FailsPartway outlet old [] new × (result ≡ Err faults.Write))

-- A run so far: the bytes that were read, the commands of which they consist, and the replies to
-- these, which went out or are buffered.
pub record Log {S K H : Type 0} (serving : Serving S K H) (before after : RunState S K H)
    : Type 0 where
  pub read : List ℕ
  pub commands : List Command
  pub replies : List CommandReply
  pub took : serving.feed.reads before.input read after.input
  pub consists : (more : List ℕ) → ConsistsOf (read ++ more) commands more
  pub handled : RepliesToAll serving.host before.host commands replies after.host
  pub written : Accepts serving.outlet before.output (replies_text replies) after.output

-- A whole command lies at the front of these bytes.
abbrev pub HasCommand : List ℕ → Type 0
HasCommand bytes = (command : Command) × (more : List ℕ) × (next bytes ≡ Whole command more)

-- Nothing waits to be written, unless a whole command is ready to be read.
abbrev pub IsPrompt : {S K : Type 0} → Feed S → Outlet K → S → K → Type 0
IsPrompt feed outlet input output = (outlet.buffered output ≡ []) ⊎ HasCommand (feed.ready input)

-- One turn: a command was read and handled, and the reply to it went out or is buffered.
pub record Turn {S K H : Type 0} (serving : Serving S K H) (before : RunState S K H) (command : Command)
    (reply : CommandReply) (after : RunState S K H) : Type 0 where
  pub handled : HandledCommand (handling_of serving) (without_output before) command reply (without_output after)
  pub written : Accepts serving.outlet before.output (command_text reply) after.output
  pub prompt : IsPrompt serving.feed serving.outlet after.input after.output

-- The turns of a run, one after another.
abbrev pub Turns : {S K H : Type 0} → Serving S K H → RunState S K H → List Command → List CommandReply
    → RunState S K H → Type 0
Turns serving before [] [] after = after ≡ before
Turns {S} {K} {H} serving before (command ∷ commands) (reply ∷ replies) after =
    (between : RunState S K H) × Turn serving before command reply between
    × Turns serving between commands replies after
Turns serving before _ _ after = ⊥

-- A run so far in which no command was `quit`.
pub record OngoingLog {S K H : Type 0} (serving : Serving S K H) (before after : RunState S K H)
    : Type 0 where
  pub log : Log serving before after
  pub on : AllByRecursion ContinuesRun log.commands
  pub turns : Turns serving before log.commands log.replies after

-- `quit` was read, and the reply to it was written.
pub record Quits {S K H : Type 0} (serving : Serving S K H) (before after : RunState S K H)
    : Type 0 where
  pub handled :
      HandledCommand (handling_of serving) (without_output before) (Single Quit) (SingleReply QuitReply)
      (without_output after)
  pub written : WritesAll serving.outlet before.output (command_text (SingleReply QuitReply)) after.output

-- Nothing was read, handled or written.
pub record IsUntouched {S K H : Type 0} (before after : RunState S K H) : Type 0 where
  pub input_same : after.input ≡ before.input
  pub output_same : after.output ≡ before.output
  pub host_same : after.host ≡ before.host

-- A run: the commands before its end, and how it ended. Memory is refused before it, or while a batch is read.
abbrev pub Serves : {S K H : Type 0} → Serving S K H → RunState S K H
    → Result (Unit {0}) RunFault → RunState S K H → Type 0
Serves {S} {K} {H} serving before (Ok _) after =
    (last : RunState S K H) × OngoingLog serving before last
    × (EndsBetweenRequests serving last after ⊎ Quits serving last after)
Serves {S} {K} {H} serving before (Err faults.NoMemory) after =
    IsUntouched before after
    ⊎ ((last : RunState S K H) × OngoingLog serving before last × EndsByFault serving last faults.NoMemory after)
Serves {S} {K} {H} serving before (Err fault) after =
    (last : RunState S K H) × OngoingLog serving before last
    × EndsByFault serving last fault after
