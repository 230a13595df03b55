-- These definitions say how the lexer passes one piece, the longest that begins what is left of a text.
use Rattle.std.specs.Prelude.{◌≡◌, ℕ, ◌<◌, ◌≤◌, List, length, take, drop}
use Rattle.ash_lex.specs.Bytes.{value_in}
use Rattle.ash_lex.specs.Signs.{sign_text}
use Rattle.ash_lex.specs.Pieces.{IsGap, IsName, IsNumeral, IsOpenComment, IsLongest}
use Rattle.ash_lex.specs.Tokens.{Means, meaning_of, FaultAt, FirstLexFault}
use Rattle.ash_lex.specs.declared.pieces.Piece.{Piece}
use Rattle.ash_lex.specs.declared.pieces.Piece.TheVariants.{Gap as GapPiece, UnclosedComment}
use Rattle.ash_lex.specs.declared.pieces.Piece.TheVariants.{Name as NamePiece, Decimal}
use Rattle.ash_lex.specs.declared.pieces.Piece.TheVariants.{Hexadecimal, Sign as SignPiece}
use Rattle.ash_lex.specs.declared.lexer.ScannedPiece.{ScannedPiece}
use Rattle.ash_lex.specs.declared.lexer.ScannedPiece.TheVariants.{Gap, Token}
use Rattle.ash_lex.specs.declared.faults.LexFault.{LexFault}
use Rattle.ash_lex.specs.declared.faults.LexFault.TheVariants.{NoMemory}

-- The first n bytes are the longest piece that begins the text.
pub record IsLongestPiece (text : List ℕ) (n : ℕ) : Type 0 where
  pub some : 0 < n
  pub within : n ≤ length text
  pub longest : IsLongest (take n text) (drop n text)

-- The text begins with this piece, and with no longer one.
abbrev pub BeginsWithPiece : List ℕ → Piece → Type 0
BeginsWithPiece text (GapPiece n) = IsLongestPiece text n × IsGap (take n text)
BeginsWithPiece text UnclosedComment = IsOpenComment text
BeginsWithPiece text (NamePiece n) = IsLongestPiece text n × IsName (take n text)
BeginsWithPiece text (Decimal n) = IsLongestPiece text n × IsNumeral (take n text) (value_in 10 (take n text))
BeginsWithPiece text (Hexadecimal n) = IsLongestPiece text n × IsNumeral (take n text)
    (value_in 16 (drop 2 (take n text))) × (2 ≤ n)
BeginsWithPiece text (SignPiece s) =
    IsLongestPiece text (length (sign_text s)) × (take (length (sign_text s)) text ≡ sign_text s)

-- What is passed is a gap or a token that begins the text.
abbrev pub IsScanned : List ℕ → ScannedPiece → Type 0
IsScanned text (Gap n) = IsLongestPiece text n × IsGap (take n text)
IsScanned text (Token kind n) = IsLongestPiece text n × Means (take n text) (meaning_of kind)

-- The fault is at the beginning of what is left, or memory ran out.
abbrev pub IsPieceFault : ℕ → List ℕ → LexFault → Type 0
IsPieceFault place left NoMemory = Unit {0}
IsPieceFault place left fault = FaultAt place left fault

-- The fault is the text's first lexical fault, or memory ran out.
abbrev pub IsTextFault : List ℕ → LexFault → Type 0
IsTextFault text NoMemory = Unit {0}
IsTextFault text fault = FirstLexFault text fault
