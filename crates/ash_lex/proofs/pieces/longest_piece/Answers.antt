use Rattle.std.proofs.Common.{◌≡◌, Option, Some, None, MatchOption, List, ℕ, sym}
use Rattle.ash_lex.specs.Scan.{longest_piece}
use Rattle.ash_lex.specs.ScannedPieces.{BeginsWithPiece}
use Rattle.ash_lex.specs.Tokens.{BeginsNothing}
use Rattle.ash_lex.specs.declared.pieces.Piece.{Piece}
use Rattle.ash_lex.proofs.LongestPiece.{longest_piece_is, none_begins}
use Rattle.ash_lex.proofs.pieces.longest_piece.Goals as goal

by_cases : (text : List ℕ) (o : Option Piece) → longest_piece text ≡ o
    → MatchOption o (BeginsNothing text) (BeginsWithPiece text)
by_cases text None h = none_begins text h
by_cases text (Some p) h = longest_piece_is text p h

pub returns : goal.returns
returns c = record {
  longest =
      by_cases c.args.text.now c.by_first_byte.result (sym c.by_first_byte.ensures.value);
}
