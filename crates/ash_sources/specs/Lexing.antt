-- The tokens of a source, or why it has none: it is longer than 65,536 bytes, or it is not UTF-8, or it has a lexical
-- fault. The first of these that holds is its fault.
use Rattle.std.specs.Prelude.{ℕ, ◌<◌, ◌≤◌, ◌⊎◌, List, length, Result, Ok, Err}
use Rattle.std.specs.Str.{IsUtf8, IsValidUpTo}
use Rattle.ash_lex.specs.Tokens.{Lexeme, HasTokens, FirstLexFault, max_source_bytes}
use Rattle.ash_lex.specs.declared.faults.LexFault.{LexFault}
use Rattle.ash_lex.specs.declared.faults.LexFault.TheVariants as faults

-- a source that is text, and not too long
pub record IsText (source : List ℕ) : Type 0 where
  pub short : length source ≤ max_source_bytes
  pub utf8 : IsUtf8 source

-- a source that is no text: its longest part from the beginning that is UTF-8 ends at this offset, before its end
pub record IsNoText (source : List ℕ) (at : ℕ) : Type 0 where
  pub short : length source ≤ max_source_bytes
  pub valid : IsValidUpTo source at

-- the source has no tokens, for this fault
abbrev pub HasNoTokens : List ℕ → LexFault → Type 0
HasNoTokens source faults.SourceTooLong = max_source_bytes < length source
HasNoTokens source (faults.BadCharacter at) = IsNoText source at
    ⊎ (IsText source × FirstLexFault source (faults.BadCharacter at))
HasNoTokens source (faults.UnclosedComment at) = IsText source × FirstLexFault source (faults.UnclosedComment at)
HasNoTokens source (faults.NumberTooLarge at) = IsText source × FirstLexFault source (faults.NumberTooLarge at)
HasNoTokens source faults.NoMemory = ⊥

-- what a source's tokens are, or the fault for which it has none
abbrev pub Lexes : List ℕ → Result (List Lexeme) LexFault → Type 0
Lexes source (Ok tokens) = IsText source × HasTokens source tokens
Lexes source (Err fault) = HasNoTokens source fault

-- The source has no tokens, for this fault; or memory was refused, which a text alone takes.
abbrev pub LexesNothing : List ℕ → LexFault → Type 0
LexesNothing source faults.NoMemory = IsText source
LexesNothing source fault = HasNoTokens source fault
