-- What each fault of a source reports of it. What is said of one type of faults is a function of its own.
use Rattle.std.specs.Prelude.{ℕ, List, map, string_bytes}
use Rattle.ash_lex.specs.declared.faults.LexFault.{LexFault}
use Rattle.ash_lex.specs.declared.faults.LexFault.TheVariants as lexical
use Rattle.ash_parse.specs.declared.faults.UnsupportedPart.{UnsupportedPart}
use Rattle.ash_parse.specs.declared.faults.ParseFault.{ParseFault}
use Rattle.ash_parse.specs.declared.faults.ParseFault.TheVariants as syntactic
use Rattle.ash_check.specs.ScriptFaults.{ScriptFault, Broken, Cyclic}
use Rattle.ash_sources.specs.SourceFaults.{SourceFault, Lexical, Syntactic, Checked}
use Rattle.ash_lines.specs.declared.details.Details as code
use Rattle.ash_lines.specs.declared.details.Details.TheVariants as the

-- what a fault reports of its source: an offset in it, the word of a part that the profile doesn't have, or classes by
-- name
pub data Details : Type 0 where
  Nothing : Details
  At : (at : ℕ) → Details
  WordAt : (word : UnsupportedPart) → (at : ℕ) → Details
  Names : (names : List (List ℕ)) → Details

-- what the code's details represent
abbrev pub details_of : code.Details → Details
details_of the.Nothing = Nothing
details_of (the.At at) = At at
details_of (the.WordAt word at) = WordAt word at
details_of (the.Names names) = Names (map string_bytes names.now)

-- Lexical faults.

abbrev pub lexical_details : LexFault → Details
lexical_details (lexical.BadCharacter at) = At at
lexical_details (lexical.UnclosedComment at) = At at
lexical_details (lexical.NumberTooLarge at) = At at
lexical_details _ = Nothing

-- Faults of the grammar.

abbrev pub syntactic_details : ParseFault → Details
syntactic_details (syntactic.Unexpected at) = At at
syntactic_details (syntactic.Unsupported word at) = WordAt word at
syntactic_details (syntactic.TooDeep at) = At at
syntactic_details syntactic.NoMemory = Nothing

-- Faults of checking.

abbrev pub script_details : ScriptFault → Details
script_details (Broken fault) = At fault.at
script_details (Cyclic names) = Names names

-- Faults of sources.

abbrev pub source_details : SourceFault → Details
source_details (Lexical fault) = lexical_details fault
source_details (Syntactic fault) = syntactic_details fault
source_details (Checked fault) = script_details fault
