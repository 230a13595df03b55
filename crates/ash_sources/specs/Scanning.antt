-- The tokens of a source as a function of it, one longest piece after another. That it gives the tokens that the source
-- has, or the fault for which it has none, is proved of it.
use Rattle.std.specs.Prelude.{ℕ, ◌+◌, ◌^◌, nat_lt, nat_le, if◌then◌else◌, List, [], ◌∷◌, ◌++◌, length, take, drop}
use Rattle.std.specs.Prelude.{nat_eq, count_by, Option, Some, None, Result, Ok, Err, zero, suc}
use Rattle.std.specs.List.{starts_with}
use Rattle.std.specs.Str.{is_utf8}
use Rattle.std.specs.Str.Lossy.{utf8_valid_len}
use Rattle.ash_lex.specs.Bytes.{is_line_feed, value_in}
use Rattle.ash_lex.specs.Signs.{sign_text}
use Rattle.ash_lex.specs.Scan.{longest_piece, reserved_word, unsupported_word}
use Rattle.ash_lex.specs.Tokens.{Meaning, name, number, sign, reserved, unsupported, Lexeme, byte_order_mark}
use Rattle.ash_lex.specs.Tokens.{max_source_bytes}
use Rattle.ash_lex.specs.declared.pieces.Piece.{Piece}
use Rattle.ash_lex.specs.declared.pieces.Piece.TheVariants as pieces
use Rattle.ash_lex.specs.declared.words.ReservedWord.{ReservedWord}
use Rattle.ash_lex.specs.declared.words.UnsupportedWord.{UnsupportedWord}
use Rattle.ash_lex.specs.declared.faults.LexFault.{LexFault}
use Rattle.ash_lex.specs.declared.faults.LexFault.TheVariants as faults

-- past so many bytes that part tokens, past a token, or a fault
pub data ScanStep : Type 0 where
  Gap : ℕ → ScanStep
  Token : ℕ → Meaning → ScanStep
  Fault : LexFault → ScanStep

abbrev pub word_by : List ℕ → Option ReservedWord → Option UnsupportedWord → Meaning
word_by piece (Some w) other = reserved w
word_by piece None (Some w) = unsupported w
word_by piece None None = name piece

-- what a word means
abbrev pub word : List ℕ → Meaning
word piece = word_by piece (reserved_word piece) (unsupported_word piece)

-- a numeral of n bytes, at a place
abbrev pub numeral : ℕ → ℕ → ℕ → ScanStep
numeral place n value = if nat_lt value (2 ^ 64) then Token n (number value) else Fault (faults.NumberTooLarge place)

-- past the piece with which what is left begins, at a place
abbrev pub step_over : ℕ → List ℕ → Option Piece → ScanStep
step_over place left None = Fault (faults.BadCharacter place)
step_over place left (Some (pieces.Gap n)) = Gap n
step_over place left (Some pieces.UnclosedComment) = Fault (faults.UnclosedComment place)
step_over place left (Some (pieces.Name n)) = Token n (word (take n left))
step_over place left (Some (pieces.Decimal n)) = numeral place n (value_in 10 (take n left))
step_over place left (Some (pieces.Hexadecimal n)) = numeral place n (value_in 16 (drop 2 (take n left)))
step_over place left (Some (pieces.Sign s)) = Token (length (sign_text s)) (sign s)

-- from a place on: the place, its line, and the tokens before it
abbrev pub From : Type 0
From = ℕ → ℕ → List Lexeme → Result (List Lexeme) LexFault

abbrev pub after : From → List ℕ → ℕ → ℕ → List Lexeme → ScanStep → Result (List Lexeme) LexFault
after more left place line tokens (Gap n) = more (place + n) (line + count_by is_line_feed (take n left)) tokens
after more left place line tokens (Token n m) =
    more (place + n) line (tokens ++ record { meaning = m; line = line; from = place; to = place + n } ∷ [])
after more left place line tokens (Fault fault) = Err fault

-- with enough fuel to come to the text's end
abbrev pub scan_from : ℕ → List ℕ → From
scan_from zero text place line tokens = Ok tokens
scan_from (suc fuel) text place line tokens =
    if nat_le (length text) place then Ok tokens
    else after (scan_from fuel text) (drop place text) place line tokens
    (step_over place (drop place text) (longest_piece (drop place text)))

-- a byte order mark at the beginning is no token
unfoldable pub scan : List ℕ → Result (List Lexeme) LexFault
scan text = scan_from (length text) text (if starts_with nat_eq text byte_order_mark then 3 else 0) 1 []

unfoldable pub lexed : List ℕ → Result (List Lexeme) LexFault
lexed source =
    if nat_lt max_source_bytes (length source) then Err faults.SourceTooLong
    else if is_utf8 source then scan source
    else Err (faults.BadCharacter (utf8_valid_len source))
