-- What the code's parse of a line represents.
use Rattle.std.specs.Prelude.{ℕ, List, [], ◌∷◌}
use Rattle.ash_requests.specs.declared.argument.Arg.{Arg}
use Rattle.ash_requests.specs.Requests.{Call}
use Rattle.ash_requests.specs.RequestViews.{request_seen}
use Rattle.ash_lines.specs.Lines.{HostRequest, Quit, BadRequest, ParsedLine, Complete, LoadHeader}
use Rattle.ash_lines.specs.Lines.{BatchHeader}
use Rattle.ash_lines.specs.declared.request_line.ParsedLine as code
use Rattle.ash_lines.specs.declared.request_line.ParsedLine.TheVariants as lines

-- what a line asks, with the arguments that are stored where it is a call
abbrev pub parsed_of : List Arg → code.ParsedLine → ParsedLine
parsed_of arguments (lines.Request request) = Complete (HostRequest (request_seen request))
parsed_of arguments (lines.Call header) = Complete (HostRequest (Call header.module.now header.function.now arguments))
parsed_of arguments (lines.Load header) = LoadHeader header.name.now header.length
parsed_of arguments (lines.Batch count) = BatchHeader count
parsed_of arguments lines.Quit = Complete Quit
parsed_of arguments lines.BadRequest = Complete BadRequest

-- These are not one word.
abbrev pub IsNotOneWord : List (List ℕ) → Type 0
IsNotOneWord (word ∷ []) = ⊥
IsNotOneWord _ = Unit {0}

-- These are not two words.
abbrev pub IsNotTwoWords : List (List ℕ) → Type 0
IsNotTwoWords (first ∷ second ∷ []) = ⊥
IsNotTwoWords _ = Unit {0}
