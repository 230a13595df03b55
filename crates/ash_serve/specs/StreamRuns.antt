-- A run over a reader and a writer, by their bytes alone, where these are known.
use Rattle.std.specs.Prelude.{◌≡◌, ◌<◌, ◌≤◌, ◌⊎◌, ℕ, ◌+◌, true, List, [], ◌∷◌, ◌++◌, length, Option, Result, Ok, Err}
use Rattle.std.specs.Prelude.{IfSome}
use Rattle.std.specs.List.{AllByRecursion}
use Rattle.std.specs.Io.KnownBytes.{Appends, Keeps}
use Rattle.ash_lines.specs.Lines.{Quit, Command, Single, ContinuesRun, Cut, next, ConsistsOf, is_unfinished}
use Rattle.ash_lines.specs.Reader.{max_input_bytes}
use Rattle.ash_lines.specs.declared.source.ReadFault.TheVariants as read_faults
use Rattle.ash_serve.specs.CommandReplies.{CommandReply, command_text, replies_text}
use Rattle.ash_serve.specs.InputItems.{BeginsBatch}
use Rattle.ash_serve.specs.Serving.{HostRelation, RepliesToAll, RunState, IsUnhandled}
use Rattle.ash_serve.specs.declared.fault.RunFault.{RunFault}
use Rattle.ash_serve.specs.declared.fault.RunFault.TheVariants as faults

-- What a run did: the bytes that it read consist of these commands and this rest, and these are the replies, in turn.
pub record Run {H : Type 0} (host : HostRelation H) (old new : H) : Type 0 where
  pub read : List ℕ
  pub commands : List Command
  pub rest : List ℕ
  pub replies : List CommandReply
  pub consists : ConsistsOf read commands rest
  pub handled : RepliesToAll host old commands replies new
  pub bounded : length read ≤ max_input_bytes

-- The input begins with what was read.
abbrev pub ReadsPrefix : Option (List ℕ) → List ℕ → Type 0
ReadsPrefix input read = IfSome input (λ bytes. (left : List ℕ) × (bytes ≡ read ++ left))

-- The input begins with what was read, and goes on.
abbrev pub ReadsProperPrefix : Option (List ℕ) → List ℕ → Type 0
ReadsProperPrefix input read = IfSome input (λ bytes. (left : List ℕ) × (bytes ≡ read ++ left) × (0 < length left))

-- The input is what was read.
abbrev pub ReadsAll : Option (List ℕ) → List ℕ → Type 0
ReadsAll input read = IfSome input (λ bytes. bytes ≡ read)

-- None of the commands is `quit`.
abbrev pub GoOn : List Command → Type 0
GoOn commands = AllByRecursion ContinuesRun commands

-- The last of the commands is `quit`, and no other.
abbrev pub EndsWithQuit : List Command → Type 0
EndsWithQuit commands = (others : List Command) × (commands ≡ others ++ Single Quit ∷ []) × GoOn others

-- None of the commands is `quit`, except the last, which may be.
abbrev pub GoOnToLast : List Command → Type 0
GoOnToLast commands =
    GoOn commands ⊎ ((others : List Command) × (last : Command) × (commands ≡ others ++ last ∷ []) × GoOn others)

-- the most bytes of replies that are buffered
abbrev pub max_buffered_bytes : ℕ
max_buffered_bytes = 8192

-- the text of the last of these replies
abbrev pub last_text : List CommandReply → List ℕ
last_text [] = []
last_text (reply ∷ []) = command_text reply
last_text (reply ∷ other ∷ replies) = last_text (other ∷ replies)

-- Of the text of these replies, so much at the most is lost: the last of them, and what is buffered before it.
abbrev pub LosesLittle : List CommandReply → List ℕ → Type 0
LosesLittle replies lost = length lost ≤ max_buffered_bytes + length (last_text replies)

-- a host, with the bytes that are left to read and those that are written, where these are known
abbrev pub KnownState : Type 0 → Type 0
KnownState H = RunState (Option (List ℕ)) (Option (List ℕ)) H

-- How a run ended, by its outcome, with this output and this host. What was written is the text of the replies. If a
-- write failed it is a prefix of that text, and little of it is lost. Memory is refused before anything is read, or
-- while a batch is read, of which nothing is handled.
abbrev pub RunEnds : {H : Type 0} → HostRelation H → KnownState H
    → Result (Unit {0}) RunFault → Option (List ℕ) → H → Type 0
RunEnds relation before (Ok _) output host =
    (run : Run relation before.host host) × ReadsPrefix before.input run.read
    × Appends before.output output (replies_text run.replies) × (run.rest ≡ [])
    × ((ReadsAll before.input run.read × GoOn run.commands) ⊎ EndsWithQuit run.commands)
RunEnds relation before (Err faults.Truncated) output host =
    (run : Run relation before.host host) × ReadsAll before.input run.read
    × Appends before.output output (replies_text run.replies)
    × (next run.rest ≡ Cut) × GoOn run.commands
RunEnds relation before (Err (faults.Read read_faults.TooLong)) output host =
    (run : Run relation before.host host) × ReadsProperPrefix before.input run.read
    × Appends before.output output (replies_text run.replies)
    × (is_unfinished (next run.rest) ≡ true) × (length run.read ≡ max_input_bytes) × GoOn run.commands
RunEnds relation before (Err (faults.Read read_faults.Failed)) output host =
    (run : Run relation before.host host) × ReadsPrefix before.input run.read
    × Appends before.output output (replies_text run.replies)
    × (is_unfinished (next run.rest) ≡ true) × GoOn run.commands
RunEnds relation before (Err faults.Write) output host =
    (run : Run relation before.host host) × ReadsPrefix before.input run.read
    × IsUnhandled run.rest × (out : List ℕ) × (lost : List ℕ) × (replies_text run.replies ≡ out ++ lost)
    × LosesLittle run.replies lost × Appends before.output output out × GoOnToLast run.commands
RunEnds relation before (Err faults.NoMemory) output host =
    ((host ≡ before.host) × Keeps before.output output)
    ⊎ ((run : Run relation before.host host) × ReadsPrefix before.input run.read
    × Appends before.output output (replies_text run.replies) × BeginsBatch run.rest × GoOn run.commands)
