-- What is scanned is what the text spells, or its first fault.
use Rattle.std.proofs.Common.{◌≡◌, ℕ, zero, suc, ◌+◌, ◌^◌, ◌<◌, ◌≤◌, nat_lt, nat_le, nat_eq, Bool, true, false, cond}
use Rattle.std.proofs.Common.{List, [], ◌∷◌, ◌++◌, length, take, drop, count_by, Option, Some, None, Result, Ok, Err}
use Rattle.std.proofs.Common.{refl, sym, ap, arith}
use Rattle.std.specs.List.{starts_with}
use Rattle.std.proofs.lemmas.Bool.Decides.{nat_tests}
use Rattle.std.proofs.lemmas.List.{length-append, length-drop, take-append-drop}
use Rattle.ash_lex.specs.Bytes.{is_line_feed, value_in}
use Rattle.ash_lex.specs.Signs.{sign_text}
use Rattle.ash_lex.specs.Pieces.{IsName, IsNumeral}
use Rattle.ash_lex.specs.Scan.{longest_piece, reserved_word, unsupported_word}
use Rattle.ash_lex.specs.Tokens.{number, sign, Lexeme, Means, byte_order_mark, HasTokens, FirstLexFault}
use Rattle.ash_lex.specs.ScannedPieces.{IsLongestPiece, BeginsWithPiece}
use Rattle.ash_lex.specs.declared.words.ReservedWord.{ReservedWord}
use Rattle.ash_lex.specs.declared.words.UnsupportedWord.{UnsupportedWord}
use Rattle.ash_lex.specs.declared.pieces.Piece.{Piece}
use Rattle.ash_lex.specs.declared.pieces.Piece.TheVariants as pieces
use Rattle.ash_lex.specs.declared.faults.LexFault.{LexFault}
use Rattle.ash_lex.specs.declared.faults.LexFault.TheVariants as faults
use Rattle.ash_lex.proofs.WordLookups.{reserved_word-is, unsupported_word-is, reserved_word-none, unsupported_word-none}
use Rattle.ash_lex.proofs.Prefixes.{starts-true}
use Rattle.ash_lex.proofs.LongestPiece.{longest_piece_is, none_begins}
use Rattle.ash_lex.proofs.Reading.{IsReadTo, past_gap, past_token, first_fault, has_tokens, read_mark, read_nothing}
use Rattle.ash_sources.specs.Scanning.{ScanStep, Gap, Token, Fault, word_by, step_over, after, From, scan_from, scan}

-- what the text spells, or its first fault
abbrev pub IsScan : List ℕ → Result (List Lexeme) LexFault → Type 0
IsScan text (Ok tokens) = HasTokens text tokens
IsScan text (Err fault) = FirstLexFault text fault

word_means : (piece : List ℕ) → IsName piece → (r : Option ReservedWord) (u : Option UnsupportedWord)
    → reserved_word piece ≡ r → unsupported_word piece ≡ u → Means piece (word_by piece r u)
word_means piece is (Some w) u e f = reserved_word-is piece w e
word_means piece is None (Some w) e f = unsupported_word-is piece w f
word_means piece is None None e f = (is, refl, reserved_word-none piece e, unsupported_word-none piece f)

module _ (text : List ℕ) (place line : ℕ) (tokens : List Lexeme) (read : IsReadTo text place line tokens)
    (more : place < length text) where
  -- where each step goes on, if what is scanned from there is right
  abbrev GoesOn : ScanStep → Type 0
  GoesOn (Gap n) = (0 < n) × IsReadTo text (place + n) (line + count_by is_line_feed (take n (drop place text))) tokens
  GoesOn (Token n m) = (0 < n) × IsReadTo text (place + n) line
      (tokens ++ record { meaning = m; line = line; from = place; to = place + n } ∷ [])
  GoesOn (Fault fault) = FirstLexFault text fault

  at_numeral : (n value : ℕ) → IsLongestPiece (drop place text) n → IsNumeral (take n (drop place text)) value → (v : Bool)
      → nat_lt value (2 ^ 64) ≡ v → GoesOn (cond v (Token n (number value)) (Fault (faults.NumberTooLarge place)))
  at_numeral n value cut is true e = (
    cut.some,
    past_token text place line n tokens read cut (number value) (is, grind (arith, nat_tests)),
  )
  at_numeral n value cut is false e = first_fault text place line tokens (faults.NumberTooLarge place) read (
    refl,
    take n (drop place text),
    drop n (drop place text),
    value,
    sym (take-append-drop n (drop place text)),
    is,
    cut.longest,
    grind (arith, nat_tests),
  )

  at_piece : (p : Piece) → BeginsWithPiece (drop place text) p → GoesOn (step_over place (drop place text) (Some p))
  at_piece (pieces.Gap n) h = ((h.0).some, past_gap text place line n tokens read h.0 h.1)
  at_piece pieces.UnclosedComment h = first_fault text place line tokens (faults.UnclosedComment place) read (refl, h)
  at_piece (pieces.Name n) h = (
    (h.0).some,
    past_token text place line n tokens read h.0 _
        (word_means (take n (drop place text)) h.1 (reserved_word (take n (drop place text)))
        (unsupported_word (take n (drop place text))) refl refl),
  )
  at_piece (pieces.Decimal n) h = at_numeral n (value_in 10 (take n (drop place text))) h.0 h.1
      (nat_lt (value_in 10 (take n (drop place text))) (2 ^ 64)) refl
  at_piece (pieces.Hexadecimal n) h = at_numeral n (value_in 16 (drop 2 (take n (drop place text)))) h.0 h.1
      (nat_lt (value_in 16 (drop 2 (take n (drop place text)))) (2 ^ 64)) refl
  at_piece (pieces.Sign s) h = (
    (h.0).some,
    past_token text place line (length (sign_text s)) tokens read h.0 (sign s)
        h.1,
  )

  at_longest : (o : Option Piece) → longest_piece (drop place text) ≡ o → GoesOn (step_over place (drop place text) o)
  at_longest None e = first_fault text place line tokens (faults.BadCharacter place) read
      (refl, omega (arith, length-drop place text, more), none_begins (drop place text) e)
  at_longest (Some p) e = at_piece p (longest_piece_is (drop place text) p e)

  goes_on : (next : From) → ((n line' : ℕ) (tokens' : List Lexeme) → 0 < n → IsReadTo text (place + n) line' tokens'
      → IsScan text (next (place + n) line' tokens')) → (s : ScanStep) → GoesOn s
      → IsScan text (after next (drop place text) place line tokens s)
  goes_on next rest (Gap n) h = rest n _ _ h.0 h.1
  goes_on next rest (Token n m) h = rest n _ _ h.0 h.1
  goes_on next rest (Fault fault) h = h

by_end : (text : List ℕ) (place line : ℕ) (tokens : List Lexeme) → IsReadTo text place line tokens
    → (on : Result (List Lexeme) LexFault) → (place < length text → IsScan text on) → (v : Bool)
    → nat_le (length text) place ≡ v → IsScan text (cond v (Ok tokens) on)
by_end text place line tokens read on rest true e = has_tokens text place line tokens read (grind (arith, nat_tests))
by_end text place line tokens read on rest false e = rest (grind (arith, nat_tests))

scan_from-is : (fuel : ℕ) (text : List ℕ) (place line : ℕ) (tokens : List Lexeme) → IsReadTo text place line tokens
    → length text ≤ place + fuel → IsScan text (scan_from fuel text place line tokens)
scan_from-is zero text place line tokens read h = has_tokens text place line tokens read (omega arith)
scan_from-is (suc fuel) text place line tokens read h =
    by_end text place line tokens read _ (λ more.
    goes_on text place line tokens read more (scan_from fuel text)
    (λ n line' tokens' some to. scan_from-is fuel text (place + n) line' tokens' to (omega arith)) _
    (at_longest text place line tokens read more (longest_piece (drop place text)) refl))
    (nat_le (length text) place) refl

begin : (text : List ℕ) (v : Bool) → starts_with nat_eq text byte_order_mark ≡ v → IsReadTo text (cond v 3 0) 1 []
begin text true e =
    let is : text ≡ byte_order_mark ++ drop 3 text = starts-true text byte_order_mark e in
    record {
      within = omega (arith, ap length is, length-append byte_order_mark (drop 3 text));
      line_is = ap (λ l. 1 + count_by is_line_feed (take 3 l)) (sym is);
      reads = read_mark text e;
    }
begin text false e = record { within = omega arith; line_is = refl; reads = read_nothing text e }

pub scan-is : (text : List ℕ) → IsScan text (scan text)
unfolding scan
scan-is text = scan_from-is (length text) text _ 1 [] (begin text (starts_with nat_eq text byte_order_mark) refl)
    (omega arith)
