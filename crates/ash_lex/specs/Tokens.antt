-- These definitions say what the tokens of a text are, and what its first lexical fault is.
use Rattle.std.specs.Prelude.{◌≡◌, ◌≢◌, ℕ, ◌+◌, ◌^◌, ◌<◌, ◌≤◌, List, [], ◌∷◌, ◌++◌, length, map, not, IsTrue, nat_eq}
use Rattle.std.specs.Prelude.{string_bytes}
use Rattle.std.specs.List.{starts_with, count_by}
use Rattle.ash_lex.specs.Bytes.{is_line_feed}
use Rattle.ash_lex.specs.Signs.{sign_text}
use Rattle.ash_lex.specs.ReservedWords.{reserved_text, unsupported_text}
use Rattle.ash_lex.specs.Pieces.{IsGap, IsName, IsNumeral, IsOpenComment, IsPiece, IsLongest}
use Rattle.ash_lex.specs.declared.signs.Sign.{Sign}
use Rattle.ash_lex.specs.declared.words.ReservedWord.{ReservedWord}
use Rattle.ash_lex.specs.declared.words.UnsupportedWord.{UnsupportedWord}
use Rattle.ash_lex.specs.declared.tokens.TokenKind.{TokenKind}
use Rattle.ash_lex.specs.declared.tokens.TokenKind.TheVariants.{Name, Number, Sign as SignKind, Reserved, Unsupported}
use Rattle.ash_lex.specs.declared.tokens.Token.{Token}
use Rattle.ash_lex.specs.declared.faults.LexFault.{LexFault}
use Rattle.ash_lex.specs.declared.faults.LexFault.TheVariants.{BadCharacter, UnclosedComment, NumberTooLarge}
use Rattle.ash_lex.specs.declared.faults.LexFault.TheVariants.{SourceTooLong, NoMemory}

-- A meaning says what a token is, without where its name lies in memory.
pub data Meaning : Type 0 where
  name : List ℕ → Meaning
  number : ℕ → Meaning
  sign : Sign → Meaning
  reserved : ReservedWord → Meaning
  unsupported : UnsupportedWord → Meaning

-- A lexeme says what a token is, its line from 1, and the bytes `from .. to` of the text that it takes.
pub record Lexeme : Type 0 where
  pub meaning : Meaning
  pub line : ℕ
  pub from : ℕ
  pub to : ℕ

-- `meaning_of kind` is what a token of this kind means.
abbrev pub meaning_of : TokenKind → Meaning
meaning_of (Name text) = name (string_bytes text)
meaning_of (Number n) = number n
meaning_of (SignKind s) = sign s
meaning_of (Reserved w) = reserved w
meaning_of (Unsupported w) = unsupported w

-- `lexeme_of t` is a token of the code, without where its name lies in memory.
abbrev pub lexeme_of : Token → Lexeme
lexeme_of t = record { meaning = meaning_of t.kind; line = t.line; from = t.from; to = t.to }

-- `lexemes tokens` are these tokens of the code, without where their names lie in memory.
abbrev pub lexemes : List Token → List Lexeme
lexemes tokens = map lexeme_of tokens

-- A piece means this as a token: a name is no reserved and no unsupported word, and a number is below 2^64.
abbrev pub Means : List ℕ → Meaning → Type 0
Means piece (name text) =
    IsName piece × (text ≡ piece) × ((w : ReservedWord) → piece ≢ reserved_text w)
    × ((w : UnsupportedWord) → piece ≢ unsupported_text w)
Means piece (number n) = IsNumeral piece n × (n < 2 ^ 64)
Means piece (sign s) = piece ≡ sign_text s
Means piece (reserved w) = piece ≡ reserved_text w
Means piece (unsupported w) = piece ≡ unsupported_text w

-- `byte_order_mark` is the byte order mark, in UTF-8.
abbrev pub byte_order_mark : List ℕ
byte_order_mark = 0xef ∷ 0xbb ∷ 0xbf ∷ []

-- `lexeme_at before piece m` is the token that a piece is after these bytes: its line is 1 and the line feeds before
-- it.
abbrev pub lexeme_at : List ℕ → List ℕ → Meaning → Lexeme
lexeme_at before piece m = record {
  meaning = m;
  line = 1 + count_by is_line_feed before;
  from = length before;
  to = length before + length piece;
}

-- A text is cut up to some place: what is before the place, its tokens, and what is left. A byte
-- order mark at the text's beginning is no token. From there on each piece is the longest at its place,
-- and parts tokens or is one.
pub data Reads : List ℕ → List Lexeme → List ℕ → Type 0 where
  marked : (rest : List ℕ) → Reads byte_order_mark [] rest
  unmarked : (rest : List ℕ) → IsTrue (not (starts_with nat_eq rest byte_order_mark)) → Reads [] [] rest
  gap : (before piece rest : List ℕ) (tokens : List Lexeme) → Reads before tokens (piece ++ rest) → IsGap piece
      → IsLongest piece rest → Reads (before ++ piece) tokens rest
  token : (before piece rest : List ℕ) (tokens : List Lexeme) (m : Meaning) → Reads before tokens (piece ++ rest)
      → Means piece m → IsLongest piece rest → Reads (before ++ piece) (tokens ++ lexeme_at before piece m ∷ []) rest

-- The text is cut to its end, and these are its tokens.
abbrev pub HasTokens : List ℕ → List Lexeme → Type 0
HasTokens text tokens = Reads text tokens []

-- No piece begins the text.
abbrev pub BeginsNothing : List ℕ → Type 0
BeginsNothing text = (piece after : List ℕ) → text ≡ piece ++ after → ¬ IsPiece piece after

-- This fault is at the place, before what is left: a character that begins no piece, a comment without an end, or a
-- numeral of 2^64 or more.
abbrev pub FaultAt : ℕ → List ℕ → LexFault → Type 0
FaultAt place left (BadCharacter at) =
    (at ≡ place) × (0 < length left) × BeginsNothing left
FaultAt place left (UnclosedComment at) = (at ≡ place) × IsOpenComment left
FaultAt place left (NumberTooLarge at) =
    (at ≡ place) × (piece after : List ℕ) × (n : ℕ) × (left ≡ piece ++ after) × IsNumeral piece n
    × IsLongest piece after × (2 ^ 64 ≤ n)
FaultAt place left SourceTooLong = ⊥
FaultAt place left NoMemory = ⊥

-- The text is cut without a fault up to the place of this fault.
abbrev pub FirstLexFault : List ℕ → LexFault → Type 0
FirstLexFault text fault =
    (before left : List ℕ) × (tokens : List Lexeme) × (before ++ left ≡ text) × Reads before tokens left
    × FaultAt (length before) left fault

-- A source has at most so many bytes.
abbrev pub max_source_bytes : ℕ
max_source_bytes = 65536

-- A text is refused with this: it is too long, or it is not and this is its first fault, or memory ran out.
abbrev pub IsRefusal : List ℕ → LexFault → Type 0
IsRefusal text SourceTooLong = max_source_bytes < length text
IsRefusal text NoMemory = Unit {0}
IsRefusal text fault = (length text ≤ max_source_bytes) × FirstLexFault text fault

-- Each token begins at or after the place, and ends before the next begins and at most at the end.
abbrev pub Rises : ℕ → ℕ → List Lexeme → Type 0
Rises place end [] = place ≤ end
Rises place end (t ∷ ts) = (place ≤ t.from) × (t.from < t.to) × Rises t.to end ts
