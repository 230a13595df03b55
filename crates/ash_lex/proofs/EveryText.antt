-- Every text has tokens or a first fault.
use Rattle.std.proofs.Common.{◌≡◌, ℕ, zero, suc, ◌+◌, ◌^◌, ◌<◌, ◌≤◌, Bool, true, false, nat_eq, List, [], ◌∷◌, ◌++◌}
use Rattle.std.proofs.Common.{length, take, drop, count_by, ap, Option, Some, None, sym, refl, inl, inr, ◌⊎◌, ⊎_elim}
use Rattle.std.proofs.Common.{arith}
use Rattle.std.specs.List.{starts_with}
use Rattle.std.proofs.lemmas.List.{length-append, length-drop, take-append-drop}
use Rattle.std.proofs.str.Laws.{order}
use Rattle.ash_lex.specs.Bytes.{is_line_feed, value_in}
use Rattle.ash_lex.specs.Signs.{sign_text}
use Rattle.ash_lex.specs.Pieces.{IsName, IsNumeral}
use Rattle.ash_lex.specs.Scan.{longest_piece, reserved_word, unsupported_word}
use Rattle.ash_lex.specs.Tokens.{Meaning, name, number, sign, reserved, unsupported, Lexeme, Means, byte_order_mark}
use Rattle.ash_lex.specs.Tokens.{HasTokens, FirstLexFault}
use Rattle.ash_lex.specs.ScannedPieces.{IsLongestPiece, BeginsWithPiece}
use Rattle.ash_lex.specs.declared.words.ReservedWord.{ReservedWord}
use Rattle.ash_lex.specs.declared.words.UnsupportedWord.{UnsupportedWord}
use Rattle.ash_lex.specs.declared.pieces.Piece.{Piece}
use Rattle.ash_lex.specs.declared.pieces.Piece.TheVariants.{Gap, UnclosedComment as UnclosedPiece, Name, Decimal}
use Rattle.ash_lex.specs.declared.pieces.Piece.TheVariants.{Hexadecimal, Sign as SignPiece}
use Rattle.ash_lex.specs.declared.faults.LexFault.{LexFault}
use Rattle.ash_lex.specs.declared.faults.LexFault.TheVariants.{BadCharacter, UnclosedComment, NumberTooLarge}
use Rattle.ash_lex.proofs.WordLookups.{reserved_word-is, unsupported_word-is, reserved_word-none, unsupported_word-none}
use Rattle.ash_lex.proofs.Prefixes.{starts-true}
use Rattle.ash_lex.proofs.LongestPiece.{longest_piece_is, none_begins}
use Rattle.ash_lex.proofs.Reading.{IsReadTo, past_gap, past_token, first_fault, has_tokens, read_mark, read_nothing}

abbrev pub HasReading : List ℕ → Type 0
HasReading text = ((tokens : List Lexeme) × HasTokens text tokens) ⊎ ((f : LexFault) × FirstLexFault text f)

-- a word means something
word_means : (piece : List ℕ) → IsName piece → (m : Meaning) × Means piece m
word_means piece h = at_reserved (reserved_word piece) refl
  where
    at_unsupported : (o : Option UnsupportedWord) → unsupported_word piece ≡ o → reserved_word piece ≡ None
        → (m : Meaning) × Means piece m
    at_unsupported (Some w) e none = (unsupported w, unsupported_word-is piece w e)
    at_unsupported None e none = (name piece, (h, refl, reserved_word-none piece none, unsupported_word-none piece e))

    at_reserved : (o : Option ReservedWord) → reserved_word piece ≡ o → (m : Meaning) × Means piece m
    at_reserved (Some w) e = (reserved w, reserved_word-is piece w e)
    at_reserved None e = at_unsupported (unsupported_word piece) refl e

-- a fault of the text, or a place further on to which it is read
abbrev Onward : List ℕ → ℕ → Type 0
Onward text place =
    ((f : LexFault) × FirstLexFault text f) ⊎ ((n line : ℕ) × (tokens : List Lexeme) × (0 < n)
    × IsReadTo text (place + n) line tokens)

module _ (text : List ℕ) (place line : ℕ) (tokens : List Lexeme) (read : IsReadTo text place line tokens)
    (more : place < length text) where
  at_token : (n : ℕ) (m : Meaning) → IsLongestPiece (drop place text) n → Means (take n (drop place text)) m → Onward text place
  at_token n m cut means =
      inr (
        n,
        line,
        tokens ++ record { meaning = m; line = line; from = place; to = place + n } ∷ [],
        cut.some,
        past_token text place line n tokens read cut m means,
      )

  at_numeral : (n value : ℕ) → IsLongestPiece (drop place text) n → IsNumeral (take n (drop place text)) value
      → Onward text place
  at_numeral n value cut is =
      ⊎_elim (λ small. at_token n (number value) cut (is, small))
      (λ large. inl (
        NumberTooLarge place,
        first_fault text place line tokens (NumberTooLarge place) read (
          refl,
          take n (drop place text),
          drop n (drop place text),
          value,
          sym (take-append-drop n (drop place text)),
          is,
          cut.longest,
          large,
        ),
      ))
      (order value (2 ^ 64))

  at_piece : (p : Piece) → BeginsWithPiece (drop place text) p → Onward text place
  at_piece (Gap n) h =
      inr (
        n,
        line + count_by is_line_feed (take n (drop place text)),
        tokens,
        (h.0).some,
        past_gap text place line n tokens read h.0 h.1,
      )
  at_piece UnclosedPiece h =
      inl (UnclosedComment place, first_fault text place line tokens (UnclosedComment place) read (refl, h))
  at_piece (Name n) h = let word = word_means (take n (drop place text)) h.1 in at_token n word.0 h.0 word.1
  at_piece (Decimal n) h = at_numeral n (value_in 10 (take n (drop place text))) h.0 h.1
  at_piece (Hexadecimal n) h = at_numeral n (value_in 16 (drop 2 (take n (drop place text)))) h.0 h.1
  at_piece (SignPiece s) h = at_token (length (sign_text s)) (sign s) h.0 h.1

  at_longest : (o : Option Piece) → longest_piece (drop place text) ≡ o → Onward text place
  at_longest None e =
      inl (
        BadCharacter place,
        first_fault text place line tokens (BadCharacter place) read
            (refl, omega (arith, length-drop place text, more), none_begins (drop place text) e),
      )
  at_longest (Some p) e = at_piece p (longest_piece_is (drop place text) p e)

  onward : Onward text place
  onward = at_longest (longest_piece (drop place text)) refl

-- from a place on, with enough fuel to come to the end
reading_from : (fuel : ℕ) (text : List ℕ) (place line : ℕ) (tokens : List Lexeme) → IsReadTo text place line tokens
    → length text ≤ place + fuel → HasReading text
reading_from zero text place line tokens read h = inl (tokens, has_tokens text place line tokens read (omega arith))
reading_from (suc fuel) text place line tokens read h =
    elim (order place (length text)) [
      | inr done ↦ inl (tokens, has_tokens text place line tokens read done)
      | inl more ↦ elim (onward text place line tokens read more) [
        | inl first ↦ inr first
        | inr on ↦ reading_from fuel text (place + on.0) on.1 on.2 on.4 (omega (arith, on.3))
      ]
    ]

-- where the reading begins
begin : (text : List ℕ) (v : Bool) → starts_with nat_eq text byte_order_mark ≡ v
    → (place : ℕ) × IsReadTo text place 1 []
begin text true e =
    let is : text ≡ byte_order_mark ++ drop 3 text = starts-true text byte_order_mark e in (
      3,
      record {
        within = omega (arith, ap length is, length-append byte_order_mark (drop 3 text));
        line_is = ap (λ l. 1 + count_by is_line_feed (take 3 l)) (sym is);
        reads = read_mark text e;
      },
    )
begin text false e = (0, record { within = omega arith; line_is = refl; reads = read_nothing text e })

pub every_text : (text : List ℕ) → HasReading text
every_text text =
    let w = begin text (starts_with nat_eq text byte_order_mark) refl in
    reading_from (length text) text w.0 1 [] w.1 (omega arith)
