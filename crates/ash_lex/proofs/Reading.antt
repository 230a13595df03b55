-- The text read up to a place, and what a step adds to it.
use Rattle.std.proofs.Common.{◌≡◌, ℕ, ◌+◌, ◌≤◌, Bool, true, false, cond, nat_eq, List, [], ◌∷◌, ◌++◌, length, take}
use Rattle.std.proofs.Common.{drop, count_by, sym, refl, ap, ◌∙◌, subst, inl, inr, arith}
use Rattle.std.specs.List.{starts_with}
use Rattle.std.proofs.Math.Seq.{take-add}
use Rattle.std.proofs.lemmas.Bool.Decides.{nat_tests}
use Rattle.std.proofs.lemmas.List.Sums.{sum_by-append}
use Rattle.std.proofs.lemmas.List.{length-take-le, length-drop, take-append-drop, drop-drop, take_all, drop_all}
use Rattle.std.proofs.lemmas.List.{map_push}
use Rattle.ash_lex.specs.Bytes.{is_line_feed, is_digit, is_hex_digit, is_word, Each}
use Rattle.ash_lex.specs.Signs.{sign_text}
use Rattle.ash_lex.specs.ReservedWords.{reserved_text, unsupported_text}
use Rattle.ash_lex.specs.Pieces.{IsGap, IsName, IsNumeral}
use Rattle.ash_lex.specs.Tokens.{Meaning, name, number, sign, reserved, unsupported, Lexeme, lexeme_of, lexemes}
use Rattle.ash_lex.specs.Tokens.{meaning_of, Means, byte_order_mark, lexeme_at, Reads, marked, unmarked, gap, token}
use Rattle.ash_lex.specs.Tokens.{HasTokens, FaultAt, FirstLexFault}
use Rattle.ash_lex.specs.ScannedPieces.{IsLongestPiece, IsScanned, IsPieceFault, IsTextFault}
use Rattle.ash_lex.specs.declared.lexer.ScannedPiece.{ScannedPiece}
use Rattle.ash_lex.specs.declared.lexer.ScannedPiece.TheVariants.{Gap, Token as TokenPiece}
use Rattle.ash_lex.specs.declared.tokens.TokenKind.{TokenKind}
use Rattle.ash_lex.specs.declared.tokens.Token.{Token}
use Rattle.ash_lex.specs.declared.signs.Sign.{Sign}
use Rattle.ash_lex.specs.declared.signs.Sign.TheVariants.{Slash}
use Rattle.ash_lex.specs.declared.words.ReservedWord.{ReservedWord}
use Rattle.ash_lex.specs.declared.words.ReservedWord.TheVariants.{And}
use Rattle.ash_lex.specs.declared.words.UnsupportedWord.{UnsupportedWord}
use Rattle.ash_lex.specs.declared.words.UnsupportedWord.TheVariants.{Auto}
use Rattle.ash_lex.specs.declared.faults.LexFault.{LexFault}
use Rattle.ash_lex.specs.declared.faults.LexFault.TheVariants.{BadCharacter, UnclosedComment, NumberTooLarge}
use Rattle.ash_lex.specs.declared.faults.LexFault.TheVariants.{SourceTooLong, NoMemory}
use Rattle.ash_lex.proofs.Prefixes.{starts-true, not_false}
use Rattle.ash_lex.proofs.Bounds.{letter_is_word}

-- the text is read up to the place: its tokens so far, and the line there
pub record IsReadTo (text : List ℕ) (place line : ℕ) (tokens : List Lexeme) : Type 0 where
  pub within : place ≤ length text
  pub line_is : line ≡ 1 + count_by is_line_feed (take place text)
  pub reads : Reads (take place text) tokens (drop place text)

-- bytes that pass a test that no line feed passes have no line feed
no_feeds : (test : ℕ → Bool) → ((b : ℕ) → test b ≡ true → is_line_feed b ≡ false) → (bs : List ℕ) → Each test bs
    → count_by is_line_feed bs ≡ 0
no_feeds test apart [] h = refl
no_feeds test apart (b ∷ bs) h = rw (apart b h.0) (no_feeds test apart bs h.1)

word_is_no_feed : (b : ℕ) → is_word b ≡ true → is_line_feed b ≡ false
word_is_no_feed b h = grind (arith, nat_tests)

digit_is_no_feed : (b : ℕ) → is_digit b ≡ true → is_line_feed b ≡ false
digit_is_no_feed b h = grind (arith, nat_tests)

hex_digit_is_no_feed : (b : ℕ) → is_hex_digit b ≡ true → is_line_feed b ≡ false
hex_digit_is_no_feed b h = grind (arith, nat_tests)

name_has_no_feed : (piece : List ℕ) → IsName piece → count_by is_line_feed piece ≡ 0
name_has_no_feed [] h = refl
name_has_no_feed (b ∷ bs) h = no_feeds is_word word_is_no_feed (b ∷ bs) (letter_is_word b h.0, h.1)

numeral_has_no_feed : (piece : List ℕ) (n : ℕ) → IsNumeral piece n → count_by is_line_feed piece ≡ 0
numeral_has_no_feed piece n (inl h) = no_feeds is_digit digit_is_no_feed piece h.1
numeral_has_no_feed piece n (inr h) =
    ap (count_by is_line_feed) h.1 ∙ no_feeds is_hex_digit hex_digit_is_no_feed h.0 h.3

sign_has_no_feed : (s : Sign) → count_by is_line_feed (sign_text s) ≡ 0
sign_has_no_feed Slash = refl
sign_has_no_feed _ = refl

reserved_has_no_feed : (w : ReservedWord) → count_by is_line_feed (reserved_text w) ≡ 0
reserved_has_no_feed And = refl
reserved_has_no_feed _ = refl

unsupported_has_no_feed : (w : UnsupportedWord) → count_by is_line_feed (unsupported_text w) ≡ 0
unsupported_has_no_feed Auto = refl
unsupported_has_no_feed _ = refl

-- no token has a line feed in it
pub token_has_no_feed : (piece : List ℕ) (m : Meaning) → Means piece m → count_by is_line_feed piece ≡ 0
token_has_no_feed piece (name text) h = name_has_no_feed piece h.0
token_has_no_feed piece (number n) h = numeral_has_no_feed piece n h.0
token_has_no_feed piece (sign s) h = ap (count_by is_line_feed) h ∙ sign_has_no_feed s
token_has_no_feed piece (reserved w) h = ap (count_by is_line_feed) h ∙ reserved_has_no_feed w
token_has_no_feed piece (unsupported w) h = ap (count_by is_line_feed) h ∙ unsupported_has_no_feed w

take_further : (text : List ℕ) (place n : ℕ) → take place text ++ take n (drop place text) ≡ take (place + n) text
take_further text place n = sym (take-add place n text)

-- the line feeds up to a place further on
feeds_further : (text : List ℕ) (place n : ℕ)
    → count_by is_line_feed (take (place + n) text)
    ≡ count_by is_line_feed (take place text) + count_by is_line_feed (take n (drop place text))
feeds_further text place n =
    ap (count_by is_line_feed) (sym (take_further text place n))
    ∙ sum_by-append (λ b. cond (is_line_feed b) 1 0) (take place text) (take n (drop place text))

module _ (text : List ℕ) (place line n : ℕ) (tokens : List Lexeme) (read : IsReadTo text place line tokens)
    (cut : IsLongestPiece (drop place text) n) where
  -- what is left begins with the piece
  at_piece : Reads (take place text) tokens (take n (drop place text) ++ drop n (drop place text))
  at_piece = subst (Reads (take place text) tokens) (sym (take-append-drop n (drop place text))) read.reads

  further_within : place + n ≤ length text
  further_within = omega (arith, cut.within, length-drop place text, read.within)

  pub past_gap : IsGap (take n (drop place text))
      → IsReadTo text (place + n) (line + count_by is_line_feed (take n (drop place text))) tokens
  past_gap h = record {
    within = further_within;
    line_is = omega (arith, read.line_is, feeds_further text place n);
    reads =
        let here : Reads (take place text ++ take n (drop place text)) tokens (drop n (drop place text)) =
        gap (take place text) (take n (drop place text)) (drop n (drop place text)) tokens at_piece h cut.longest in
        let moved = subst (λ b. Reads b tokens (drop n (drop place text))) (take_further text place n) here in
        subst (λ l. Reads (take (place + n) text) tokens l) (drop-drop n place text) moved;
  }

  pub past_token : (m : Meaning) → Means (take n (drop place text)) m
      → IsReadTo text (place + n) line (tokens ++ record { meaning = m; line = line; from = place; to = place + n }
      ∷ [])
  past_token m h = record {
    within = further_within;
    line_is = omega (arith, read.line_is, feeds_further text place n, token_has_no_feed (take n (drop place text)) m h);
    reads =
        let before : List ℕ = take place text in
        let piece : List ℕ = take n (drop place text) in
        let from_is : length before ≡ place = length-take-le place text read.within in
        let len_is : length piece ≡ n = length-take-le n (drop place text) cut.within in
        let to_is : length before + length piece ≡ place + n = omega (arith, from_is, len_is) in
        let same : lexeme_at before piece m ≡ record { meaning = m; line = line; from = place; to = place + n } =
        (λ i. record { meaning = m; line = sym read.line_is i; from = from_is i; to = to_is i }) in
        let here : Reads (before ++ piece) (tokens ++ lexeme_at before piece m ∷ []) (drop n (drop place text)) =
        token before piece (drop n (drop place text)) tokens m at_piece h cut.longest in
        let reported = subst (λ t. Reads (before ++ piece) (tokens ++ t ∷ []) (drop n (drop place text))) same here in
        let moved =
        subst (λ b. Reads b (tokens ++ record { meaning = m; line = line; from = place; to = place + n } ∷ [])
        (drop n (drop place text))) (take_further text place n) reported in
        subst (λ l. Reads (take (place + n) text)
        (tokens ++ record { meaning = m; line = line; from = place; to = place + n } ∷ []) l)
        (drop-drop n place text) moved;
  }

-- a fault where the text is read to is the text's first
pub first_fault : (text : List ℕ) (place line : ℕ) (tokens : List Lexeme) (f : LexFault)
    → IsReadTo text place line tokens → FaultAt place (drop place text) f → FirstLexFault text f
first_fault text place line tokens f read h = (
  take place text,
  drop place text,
  tokens,
  take-append-drop place text,
  read.reads,
  subst (λ p. FaultAt p (drop place text) f) (sym (length-take-le place text read.within)) h,
)

-- a text that is read to its end has these tokens
pub has_tokens : (text : List ℕ) (place line : ℕ) (tokens : List Lexeme) → IsReadTo text place line tokens
    → length text ≤ place → HasTokens text tokens
has_tokens text place line tokens read h =
    subst (λ l. Reads l tokens []) (take_all place text h)
    (subst (λ l. Reads (take place text) tokens l) (drop_all place text h) read.reads)

-- a text that begins with the mark is read up to after it
pub read_mark : (text : List ℕ) → starts_with nat_eq text byte_order_mark ≡ true → Reads (take 3 text) [] (drop 3 text)
read_mark text h =
    let e : text ≡ byte_order_mark ++ drop 3 text = starts-true text byte_order_mark h in
    let prefix : take 3 text ≡ byte_order_mark = ap (take 3) e in
    subst (λ b. Reads b [] (drop 3 text)) (sym prefix) (marked (drop 3 text))

pub read_nothing : (text : List ℕ) → starts_with nat_eq text byte_order_mark ≡ false → Reads [] [] text
read_nothing text h = unmarked text (not_false (starts_with nat_eq text byte_order_mark) h)

-- what stops a step stops the text
pub stops_text : (text : List ℕ) (place line : ℕ) (tokens : List Lexeme) (f : LexFault)
    → IsReadTo text place line tokens → IsPieceFault place (drop place text) f → IsTextFault text f
stops_text text place line tokens NoMemory read h = tt
stops_text text place line tokens (BadCharacter at) read h = first_fault text place line tokens (BadCharacter at) read h
stops_text text place line tokens (UnclosedComment at) read h =
    first_fault text place line tokens (UnclosedComment at) read h
stops_text text place line tokens (NumberTooLarge at) read h =
    first_fault text place line tokens (NumberTooLarge at) read h
stops_text text place line tokens SourceTooLong read h = absurd h

-- a step past a gap, in the lexer's own terms
pub gap_keeps : (text left : List ℕ) (place line feeds n : ℕ) (tokens : List Lexeme) (s : ScannedPiece)
    → IsReadTo text place line tokens → left ≡ drop place text → IsScanned left s → s ≡ Gap n
    → feeds ≡ count_by is_line_feed (take n left) → IsReadTo text (place + n) (line + feeds) tokens
gap_keeps text left place line feeds n tokens s read left_is step is feeds_is =
    let here : IsScanned (drop place text) (Gap n) = subst (λ l. IsScanned l (Gap n)) left_is (subst (IsScanned left) is step) in
    subst (λ f. IsReadTo text (place + n) (line + f) tokens)
    (sym (feeds_is ∙ ap (λ l. count_by is_line_feed (take n l)) left_is))
    (past_gap text place line n tokens read here.0 here.1)

-- a step past a token, which is added to the tokens
pub token_keeps : (text left : List ℕ) (place line n : ℕ) (kind : TokenKind) (items more : List Token) (s : ScannedPiece)
    → IsReadTo text place line (lexemes items) → left ≡ drop place text → IsScanned left s → s ≡ TokenPiece kind n
    → more ≡ items ++ record { kind = kind; line = line; from = place; to = place + n } ∷ []
    → IsReadTo text (place + n) line (lexemes more)
token_keeps text left place line n kind items more s read left_is step is more_is =
    let here : IsScanned (drop place text) (TokenPiece kind n) =
    subst (λ l. IsScanned l (TokenPiece kind n)) left_is (subst (IsScanned left) is step) in
    let added : IsReadTo text (place + n) line (lexemes items ++ record { meaning = meaning_of kind; line = line; from = place; to = place + n } ∷ []) =
    past_token text place line n (lexemes items) read here.0 (meaning_of kind) here.1 in
    let t : Token = record { kind = kind; line = line; from = place; to = place + n } in
    subst (IsReadTo text (place + n) line) (sym (ap lexemes more_is ∙ map_push lexeme_of items t)) added
