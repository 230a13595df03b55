-- No piece that begins a text is longer than the one that `longest_piece` finds.
use Rattle.std.proofs.Common.{◌≡◌, ℕ, ◌+◌, ◌<◌, ◌≤◌, Bool, true, false, not, cond, ◌&&◌, nat_eq, List, [], ◌∷◌, ◌++◌}
use Rattle.std.proofs.Common.{length, drop, slice_index, Option, Some, None, codes, sym, refl, ap, ◌∙◌, subst, inl, inr}
use Rattle.std.proofs.Common.{arith, lit≤}
use Rattle.std.specs.List.{starts_with, prefix_len}
use Rattle.std.proofs.lemmas.Bool.Decides.{nat_tests}
use Rattle.std.proofs.lemmas.List.{append_assoc, append-nil, length-append, drop_at}
use Rattle.ash_lex.specs.Bytes.{is_blank, is_line_feed, is_digit, is_hex_digit, is_letter, is_word}
use Rattle.ash_lex.specs.Bytes.{begins_with_hex_digit, Each}
use Rattle.ash_lex.specs.Signs.{sign_text, may_follow}
use Rattle.ash_lex.specs.Pieces.{IsBlank, IsLineComment, IsBlockComment, IsOpenComment, IsGap, IsName, IsDecimal}
use Rattle.ash_lex.specs.Pieces.{IsHexadecimal, IsNumeral, IsPiece, gap, open_comment, name, numeral, sign}
use Rattle.ash_lex.specs.Scan.{comment_end, block_comment, sign_piece, slash_piece, numeral_piece, longest_piece}
use Rattle.ash_lex.specs.Scan.{begins}
use Rattle.ash_lex.specs.declared.signs.Sign.{Sign}
use Rattle.ash_lex.specs.declared.signs.Sign.TheVariants.{Slash}
use Rattle.ash_lex.specs.declared.pieces.Piece.{Piece}
use Rattle.ash_lex.specs.declared.pieces.Piece.TheVariants.{Gap, UnclosedComment, Name, Decimal}
use Rattle.ash_lex.specs.declared.pieces.Piece.TheVariants.{Hexadecimal, Sign as SignPiece}
use Rattle.ash_lex.proofs.SignTable.{first_sign-longest}
use Rattle.ash_lex.proofs.Prefixes.{both_true, starts-true, starts-append, length-le-prefix_len, comment_end-at}
use Rattle.ash_lex.proofs.Prefixes.{comment_end-none}

-- how many bytes of the text the piece takes
abbrev pub size : List ℕ → Option Piece → ℕ
size text None = 0
size text (Some (Gap n)) = n
size text (Some UnclosedComment) = length text
size text (Some (Name n)) = n
size text (Some (Decimal n)) = n
size text (Some (Hexadecimal n)) = n
size text (Some (SignPiece s)) = length (sign_text s)

-- the piece is no longer than the one that is found there
abbrev Bound : List ℕ → List ℕ → Type 0
Bound piece after = length piece ≤ size (piece ++ after) (longest_piece (piece ++ after))

pub letter_is_no_blank : (b : ℕ) → is_letter b ≡ true → is_blank b ≡ false
letter_is_no_blank b h = grind (arith, nat_tests)

pub letter_is_word : (b : ℕ) → is_letter b ≡ true → is_word b ≡ true
letter_is_word b h = rw h refl

pub digit_is_no_blank : (b : ℕ) → is_digit b ≡ true → is_blank b ≡ false
digit_is_no_blank b h = grind (arith, nat_tests)

pub digit_is_no_letter : (b : ℕ) → is_digit b ≡ true → is_letter b ≡ false
digit_is_no_letter b h = grind (arith, nat_tests)

-- what the first byte decides
longest_piece-name : (text : List ℕ) → is_letter (slice_index text 0) ≡ true
    → longest_piece text ≡ Some (Name (prefix_len is_word text))
longest_piece-name text h = rw (letter_is_no_blank _ h, h) refl

longest_piece-digit : (text : List ℕ) → is_digit (slice_index text 0) ≡ true
    → longest_piece text ≡ Some (numeral_piece text)
longest_piece-digit text h = rw (digit_is_no_blank _ h, digit_is_no_letter _ h, h) refl

numeral_piece-hexadecimal : (text : List ℕ) → starts_with nat_eq text (codes "0x") ≡ true
    → begins_with_hex_digit (drop 2 text) ≡ true
    → numeral_piece text ≡ Hexadecimal (2 + prefix_len is_hex_digit (drop 2 text))
numeral_piece-hexadecimal text h k = rw (h, k) refl

blank_bound : (piece after : List ℕ) → IsBlank piece → Bound piece after
blank_bound piece after h = subst (λ p. Bound p after) (sym h.1) (rw h.2 (lit≤ tt))

line_bound : (piece after : List ℕ) → IsLineComment piece → Bound piece after
line_bound piece after h =
    subst (λ p. Bound p after) (sym h.1) (omega (arith, length-le-prefix_len (λ b. not (is_line_feed b)) h.0 after h.2))

block_bound : (piece after : List ℕ) → IsBlockComment piece → Bound piece after
block_bound piece after h =
    let t = h.0 in
    let regrouped : (t ++ 42 ∷ 47 ∷ []) ++ after ≡ t ++ 42 ∷ 47 ∷ after = append_assoc t (42 ∷ 47 ∷ []) after in
    subst (λ p. Bound p after) (sym h.1) (rw (regrouped, comment_end-at t after h.2)
    (omega (arith, length-append t (42 ∷ 47 ∷ []))))

open_bound : (piece after : List ℕ) → IsOpenComment piece → after ≡ [] → Bound piece after
open_bound piece after h none =
    let t = h.0 in
    subst (λ a. Bound piece a) (sym none) (subst (λ p. Bound p []) (sym h.1)
    (rw (append-nil t, comment_end-none t h.2) (omega (arith, ap length (append-nil t)))))

gap_bound : (piece after : List ℕ) → IsGap piece → Bound piece after
gap_bound piece after (inl blank) = blank_bound piece after blank
gap_bound piece after (inr (inl line)) = line_bound piece after line
gap_bound piece after (inr (inr block)) = block_bound piece after block

name_bound : (piece after : List ℕ) → IsName piece → Bound piece after
name_bound [] after h = absurd h
name_bound (b ∷ bs) after h =
    let text = b ∷ (bs ++ after) in
    subst (λ o. length (b ∷ bs) ≤ size text o) (sym (longest_piece-name text h.0))
    (length-le-prefix_len is_word (b ∷ bs) after (letter_is_word b h.0, h.1))

-- digits with `0x` in them are the `0` alone
hexadecimal_cuts : (b : ℕ) (bs after : List ℕ) → Each is_digit (b ∷ bs)
    → starts_with nat_eq (b ∷ (bs ++ after)) (codes "0x") ≡ true → bs ≡ []
hexadecimal_cuts b [] after h e = refl
hexadecimal_cuts b (c ∷ cs) after h e =
    let same = starts-true (b ∷ (c ∷ (cs ++ after))) (codes "0x") e in
    let is_x : c ≡ 120 = cc in
    let wrong : is_digit 120 ≡ true = subst (λ x. is_digit x ≡ true) is_x h.1.0 in
    cc

decimal_bound : (piece after : List ℕ) (n : ℕ) → IsDecimal piece n → Bound piece after
decimal_bound [] after n h = absurd (omega (arith, h.0))
decimal_bound (b ∷ bs) after n h =
    let text = b ∷ (bs ++ after) in
    let test = starts_with nat_eq text (codes "0x") && begins_with_hex_digit (drop 2 text) in
    let P : Bool → Type 0 =
    λ v. test ≡ v → length (b ∷ bs) ≤ size text
    (Some (cond v (Hexadecimal (2 + prefix_len is_hex_digit (drop 2 text)))
    (Decimal (prefix_len is_digit text)))) in
    subst (λ o. length (b ∷ bs) ≤ size text o) (sym (longest_piece-digit text h.1.0)) ((elim test as P [
      | true ↦ λ e. let one =
          hexadecimal_cuts b bs after h.1 (both_true (starts_with nat_eq text (codes "0x"))
          (begins_with_hex_digit (drop 2 text)) e).0 in omega (arith, ap length one)
      | false ↦ λ e. omega (arith, length-le-prefix_len is_digit (b ∷ bs) after h.1)
    ]) refl)

hexadecimal_bound : (piece after : List ℕ) (n : ℕ) → IsHexadecimal piece n → Bound piece after
hexadecimal_bound piece after n (digits, is, some, each, value) =
    subst (λ p. Bound p after) (sym is) (at digits some each)
  where
    at : (digits : List ℕ) → 0 < length digits → Each is_hex_digit digits → Bound (48 ∷ 120 ∷ digits) after
    at [] some each = absurd (omega arith)
    at (d ∷ ds) some each =
        let text = 48 ∷ 120 ∷ (d ∷ (ds ++ after)) in
        let found =
        longest_piece-digit text refl ∙ ap Some
        (numeral_piece-hexadecimal text (starts-append (codes "0x") (d ∷ (ds ++ after))) each.0) in
        subst (λ o. length (48 ∷ 120 ∷ d ∷ ds) ≤ size text o) (sym found)
        (omega (arith, length-le-prefix_len is_hex_digit (d ∷ ds) after each))

-- the sign that is found is no shorter than one that begins the text
sign_piece_bound : (s : Sign) (after : List ℕ) → may_follow s after ≡ true
    → length (sign_text s) ≤ size (sign_text s ++ after) (sign_piece (sign_text s ++ after))
sign_piece_bound s after h =
    let text = sign_text s ++ after in
    let follows : may_follow s (drop (length (sign_text s)) text) ≡ true =
    ap (may_follow s) (drop_at (sign_text s) after (length (sign_text s)) refl) ∙ h in
    let here : begins text s ≡ true = rw (starts-append (sign_text s) after) follows in
    let found = first_sign-longest text s here in
    rw found.1 found.2

slash_bound : (after : List ℕ) → 1 ≤ size (47 ∷ after) (sign_piece (47 ∷ after))
    → 1 ≤ size (47 ∷ after) (slash_piece (47 ∷ after))
slash_bound after h =
    elim (starts_with nat_eq (47 ∷ after) (codes "//")) as
    (λ v. 1 ≤ size (47 ∷ after) (cond v (Some (Gap (2 + prefix_len (λ b. not (is_line_feed b)) (drop 2 (47 ∷ after)))))
    (cond (starts_with nat_eq (47 ∷ after) (codes "/*")) (Some (block_comment (comment_end (drop 2 (47 ∷ after)))))
    (sign_piece (47 ∷ after))))) [
      | true ↦ omega arith
      | false ↦ elim (starts_with nat_eq (47 ∷ after) (codes "/*")) as
          (λ v. 1 ≤ size (47 ∷ after) (cond v (Some (block_comment (comment_end (drop 2 (47 ∷ after)))))
          (sign_piece (47 ∷ after)))) [
            | true ↦ elim (comment_end (drop 2 (47 ∷ after))) as
                (λ o. 1 ≤ size (47 ∷ after) (Some (block_comment o))) [ None ↦ omega arith | Some n ↦ omega arith ]
            | false ↦ h
          ]
    ]

-- a text that begins with a sign other than `/` begins with no other kind of piece
longest_piece_at_sign : (s : Sign) (after : List ℕ)
    → length (sign_text s) ≤ size (sign_text s ++ after) (sign_piece (sign_text s ++ after)) → Bound (sign_text s) after
longest_piece_at_sign Slash after h = slash_bound after h
longest_piece_at_sign _ after h = h

sign_bound : (piece after : List ℕ) (s : Sign) → piece ≡ sign_text s → may_follow s after ≡ true → Bound piece after
sign_bound piece after s is follows =
    subst (λ p. Bound p after) (sym is) (longest_piece_at_sign s after (sign_piece_bound s after follows))

numeral_bound : (piece after : List ℕ) (n : ℕ) → IsNumeral piece n → Bound piece after
numeral_bound piece after n (inl decimal) = decimal_bound piece after n decimal
numeral_bound piece after n (inr hexadecimal) = hexadecimal_bound piece after n hexadecimal

pub bound : (piece after : List ℕ) → IsPiece piece after
    → length piece ≤ size (piece ++ after) (longest_piece (piece ++ after))
bound piece after (gap h) = gap_bound piece after h
bound piece after (open_comment h none) = open_bound piece after h none
bound piece after (name h) = name_bound piece after h
bound piece after (numeral n h) = numeral_bound piece after n h
bound piece after (sign s is follows) = sign_bound piece after s is follows
