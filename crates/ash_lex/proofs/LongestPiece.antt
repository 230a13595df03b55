-- What `longest_piece` finds begins the text, and is its longest piece.
use Rattle.std.proofs.Common.{◌≡◌, ℕ, suc, ◌+◌, ◌<◌, ◌≤◌, Bool, true, false, not, cond, ◌&&◌, nat_eq, List, [], ◌∷◌}
use Rattle.std.proofs.Common.{◌++◌, length, take, drop, slice_index, Option, Some, None, option_map, codes, sym, refl}
use Rattle.std.proofs.Common.{ap, ◌∙◌, subst, inl, inr, arith, lit<}
use Rattle.std.specs.List.{starts_with, prefix_len, take_while}
use Rattle.std.proofs.lemmas.List.{append_assoc, length-append, length-take-le, take-append-drop, take_at}
use Rattle.std.proofs.lemmas.List.Sums.{take_while-cons, prefix_len-le-length}
use Rattle.ash_lex.specs.Bytes.{is_blank, is_line_feed, is_digit, is_hex_digit, is_letter, is_word}
use Rattle.ash_lex.specs.Bytes.{begins_with_hex_digit, value_in}
use Rattle.ash_lex.specs.Signs.{sign_text, may_follow}
use Rattle.ash_lex.specs.Pieces.{IsOpenComment, IsGap, IsName, IsDecimal, IsHexadecimal, IsNumeral, IsPiece, gap}
use Rattle.ash_lex.specs.Pieces.{open_comment, name, numeral, sign, IsLongest}
use Rattle.ash_lex.specs.Scan.{comment_end, block_comment, sign_piece, slash_piece, numeral_piece, longest_piece}
use Rattle.ash_lex.specs.Scan.{first_sign}
use Rattle.ash_lex.specs.ScannedPieces.{IsLongestPiece, BeginsWithPiece}
use Rattle.ash_lex.specs.declared.signs.Sign.{Sign}
use Rattle.ash_lex.specs.declared.signs.Sign.TheVariants.{NotIs}
use Rattle.ash_lex.specs.declared.pieces.Piece.{Piece}
use Rattle.ash_lex.specs.declared.pieces.Piece.TheVariants.{Gap, UnclosedComment, Name, Decimal}
use Rattle.ash_lex.specs.declared.pieces.Piece.TheVariants.{Hexadecimal, Sign as SignPiece}
use Rattle.ash_lex.proofs.SignTable.{first_sign-begins}
use Rattle.ash_lex.proofs.Prefixes.{both_true, cond_cases, starts-true, Each-take_while, comment_end-some}
use Rattle.ash_lex.proofs.Prefixes.{comment_end-none_found}
use Rattle.ash_lex.proofs.Bounds.{size, bound, letter_is_word}

-- the text begins with this piece
abbrev pub Matches : List ℕ → Piece → Type 0
Matches text (Gap n) = (0 < n) × (n ≤ length text) × IsGap (take n text)
Matches text UnclosedComment = IsOpenComment text
Matches text (Name n) = (0 < n) × (n ≤ length text) × IsName (take n text)
Matches text (Decimal n) = (0 < n) × (n ≤ length text) × IsDecimal (take n text) (value_in 10 (take n text))
Matches text (Hexadecimal n) =
    (2 < n) × (n ≤ length text) × IsHexadecimal (take n text) (value_in 16 (drop 2 (take n text)))
Matches text (SignPiece s) =
    (text ≡ sign_text s ++ drop (length (sign_text s)) text) × (may_follow s (drop (length (sign_text s)) text) ≡ true)

take_two : (a b n : ℕ) (rest : List ℕ) → take (2 + n) (a ∷ b ∷ rest) ≡ a ∷ b ∷ take n rest
take_two a b n rest = let e : 2 + n ≡ suc (suc n) = omega arith in rw e refl

blank_matches : (text : List ℕ) → is_blank (slice_index text 0) ≡ true → Matches text (Gap 1)
blank_matches [] h = cc
blank_matches (b ∷ bs) h = (lit< tt, omega arith, inl (b, refl, h))

line_matches : (rest : List ℕ) → Matches (47 ∷ 47 ∷ rest) (Gap (2 + prefix_len (λ b. not (is_line_feed b)) rest))
line_matches rest =
    let n = prefix_len (λ b. not (is_line_feed b)) rest in (
      omega arith,
      omega (arith, prefix_len-le-length (λ b. not (is_line_feed b)) rest),
      inr (inl (take n rest, take_two 47 47 n rest, Each-take_while (λ b. not (is_line_feed b)) rest)),
    )

block_matches : (rest : List ℕ) (n : ℕ) → comment_end rest ≡ Some n → Matches (47 ∷ 42 ∷ rest) (Gap (2 + n))
block_matches rest n h =
    let found = comment_end-some rest n h in
    let t = found.0 in
    let whole : rest ≡ (t ++ 42 ∷ 47 ∷ []) ++ found.1 = found.2 ∙ sym (append_assoc t (42 ∷ 47 ∷ []) found.1) in
    let len : length (t ++ 42 ∷ 47 ∷ []) ≡ n = omega (arith, length-append t (42 ∷ 47 ∷ []), found.3) in
    let taken : take n rest ≡ t ++ 42 ∷ 47 ∷ [] = ap (take n) whole ∙ take_at (t ++ 42 ∷ 47 ∷ []) found.1 n len in (
      omega arith,
      omega (arith, ap length whole, length-append (t ++ 42 ∷ 47 ∷ []) found.1, len),
      inr (inr (t, take_two 47 42 n rest ∙ ap (λ l. 47 ∷ 42 ∷ l) taken, found.4)),
    )

open_matches : (rest : List ℕ) → comment_end rest ≡ None → Matches (47 ∷ 42 ∷ rest) UnclosedComment
open_matches rest h = (rest, refl, comment_end-none_found rest h)

comment_matches : (rest : List ℕ) → Matches (47 ∷ 42 ∷ rest) (block_comment (comment_end rest))
comment_matches rest = go (comment_end rest) refl
  where
    go : (o : Option ℕ) → comment_end rest ≡ o → Matches (47 ∷ 42 ∷ rest) (block_comment o)
    go None e = open_matches rest e
    go (Some n) e = block_matches rest n e

-- the bytes from the first on that pass, where the first does
taken_passes : (test : ℕ → Bool) (b : ℕ) (bs : List ℕ) → test b ≡ true
    → take (prefix_len test (b ∷ bs)) (b ∷ bs) ≡ b ∷ take_while test bs
taken_passes test b bs h = take_while-cons test b bs ∙ rw h refl

name_matches : (text : List ℕ) → is_letter (slice_index text 0) ≡ true → Matches text (Name (prefix_len is_word text))
name_matches [] h = cc
name_matches (b ∷ bs) h =
    let taken = taken_passes is_word b bs (letter_is_word b h) in
    let n : ℕ = prefix_len is_word (b ∷ bs) in
    let within : n ≤ length (b ∷ bs) = prefix_len-le-length is_word (b ∷ bs) in (
      omega (arith, ap length taken, length-take-le n (b ∷ bs) within),
      within,
      subst IsName (sym taken) (h, Each-take_while is_word bs),
    )

decimal_matches : (text : List ℕ) → is_digit (slice_index text 0) ≡ true
    → Matches text (Decimal (prefix_len is_digit text))
decimal_matches [] h = cc
decimal_matches (b ∷ bs) h =
    let taken = taken_passes is_digit b bs h in
    let n : ℕ = prefix_len is_digit (b ∷ bs) in
    let within : n ≤ length (b ∷ bs) = prefix_len-le-length is_digit (b ∷ bs) in (
      omega (arith, ap length taken, length-take-le n (b ∷ bs) within),
      within,
      (omega (arith, ap length taken), Each-take_while is_digit (b ∷ bs), refl),
    )

hexadecimal_matches : (rest : List ℕ) → begins_with_hex_digit rest ≡ true
    → Matches (48 ∷ 120 ∷ rest) (Hexadecimal (2 + prefix_len is_hex_digit rest))
hexadecimal_matches [] h = cc
hexadecimal_matches (d ∷ ds) h =
    let taken = taken_passes is_hex_digit d ds h in
    let n : ℕ = prefix_len is_hex_digit (d ∷ ds) in
    let within : n ≤ length (d ∷ ds) = prefix_len-le-length is_hex_digit (d ∷ ds) in
    let some : 0 < n = omega (arith, ap length taken, length-take-le n (d ∷ ds) within) in
    let two = take_two 48 120 n (d ∷ ds) in (
      omega arith,
      omega arith,
      (
        take n (d ∷ ds),
        two,
        omega (arith, ap length taken),
        Each-take_while is_hex_digit (d ∷ ds),
        ap (λ l. value_in 16 (drop 2 l)) two,
      ),
    )

sign_matches : (text : List ℕ) (p : Piece) → sign_piece text ≡ Some p → Matches text p
sign_matches text p h = go (first_sign text) refl h
  where
    go : (o : Option Sign) → first_sign text ≡ o → option_map SignPiece o ≡ Some p → Matches text p
    go None e g = cc
    go (Some s) e g =
        let same : SignPiece s ≡ p = cc in
        let parts =
        both_true (starts_with nat_eq text (sign_text s)) (may_follow s (drop (length (sign_text s)) text))
        (first_sign-begins text s e) in
        subst (Matches text) same (starts-true text (sign_text s) parts.0, parts.1)

-- a text that begins so, with its first two bytes written out
two_bytes : (a b : ℕ) (text : List ℕ) → starts_with nat_eq text (a ∷ b ∷ []) ≡ true → text ≡ a ∷ b ∷ drop 2 text
two_bytes a b text h = starts-true text (a ∷ b ∷ []) h

slash_matches : (text : List ℕ) (p : Piece) → slash_piece text ≡ Some p → Matches text p
slash_matches text p h =
    elim (cond_cases (starts_with nat_eq text (codes "//"))
    (Some (Gap (2 + prefix_len (λ b. not (is_line_feed b)) (drop 2 text))))
    (cond (starts_with nat_eq text (codes "/*")) (Some (block_comment (comment_end (drop 2 text)))) (sign_piece text))
    (Some p) h) [
      | inl w ↦
          let same : Gap (2 + prefix_len (λ b. not (is_line_feed b)) (drop 2 text)) ≡ p = cc in
          subst (Matches text) same (subst (λ l. Matches l
          (Gap (2 + prefix_len (λ b. not (is_line_feed b)) (drop 2 text)))) (sym (two_bytes 47 47 text w.0))
          (line_matches (drop 2 text)))
      | inr w ↦ elim (cond_cases (starts_with nat_eq text (codes "/*"))
          (Some (block_comment (comment_end (drop 2 text)))) (sign_piece text) (Some p) w.1) [
            | inl v ↦
                let same : block_comment (comment_end (drop 2 text)) ≡ p = cc in
                subst (Matches text) same (subst (λ l. Matches l (block_comment (comment_end (drop 2 text))))
                (sym (two_bytes 47 42 text v.0)) (comment_matches (drop 2 text)))
            | inr v ↦ sign_matches text p v.1
          ]
    ]

numeral_matches : (text : List ℕ) → is_digit (slice_index text 0) ≡ true → Matches text (numeral_piece text)
numeral_matches text h =
    elim (cond_cases (starts_with nat_eq text (codes "0x") && begins_with_hex_digit (drop 2 text))
    (Hexadecimal (2 + prefix_len is_hex_digit (drop 2 text))) (Decimal (prefix_len is_digit text))
    (numeral_piece text) refl) [
      | inl w ↦
          let parts = both_true (starts_with nat_eq text (codes "0x")) (begins_with_hex_digit (drop 2 text)) w.0 in
          subst (Matches text) w.1 (subst (λ l. Matches l (Hexadecimal (2 + prefix_len is_hex_digit (drop 2 text))))
          (sym (two_bytes 48 120 text parts.0)) (hexadecimal_matches (drop 2 text) parts.1))
      | inr w ↦ subst (Matches text) w.1 (decimal_matches text h)
    ]

-- the text begins with what is found
pub found_matches : (text : List ℕ) (p : Piece) → longest_piece text ≡ Some p → Matches text p
found_matches text p h = at_blank (is_blank (slice_index text 0)) refl h
  where
    at_slash : (v : Bool) → cond v (slash_piece text) (sign_piece text) ≡ Some p → Matches text p
    at_slash true g = slash_matches text p g
    at_slash false g = sign_matches text p g

    at_digit : (v : Bool) → is_digit (slice_index text 0) ≡ v
        → cond v (Some (numeral_piece text)) (cond (nat_eq (slice_index text 0) 47) (slash_piece text)
        (sign_piece text)) ≡ Some p → Matches text p
    at_digit true e g = let same : numeral_piece text ≡ p = cc in subst (Matches text) same (numeral_matches text e)
    at_digit false e g = at_slash (nat_eq (slice_index text 0) 47) g

    at_letter : (v : Bool) → is_letter (slice_index text 0) ≡ v
        → cond v (Some (Name (prefix_len is_word text)))
        (cond (is_digit (slice_index text 0)) (Some (numeral_piece text))
        (cond (nat_eq (slice_index text 0) 47) (slash_piece text) (sign_piece text))) ≡ Some p → Matches text p
    at_letter true e g =
        let same : Name (prefix_len is_word text) ≡ p = cc in subst (Matches text) same (name_matches text e)
    at_letter false e g = at_digit (is_digit (slice_index text 0)) refl g

    at_blank : (v : Bool) → is_blank (slice_index text 0) ≡ v
        → cond v (Some (Gap 1)) (cond (is_letter (slice_index text 0)) (Some (Name (prefix_len is_word text)))
        (cond (is_digit (slice_index text 0)) (Some (numeral_piece text))
        (cond (nat_eq (slice_index text 0) 47) (slash_piece text) (sign_piece text)))) ≡ Some p → Matches text p
    at_blank true e g = let same : Gap 1 ≡ p = cc in subst (Matches text) same (blank_matches text e)
    at_blank false e g = at_letter (is_letter (slice_index text 0)) refl g

-- no sign is empty
pub sign_text-nonempty : (s : Sign) → 0 < length (sign_text s)
sign_text-nonempty NotIs = lit< tt
sign_text-nonempty _ = lit< tt

-- no piece is empty
pub piece_nonempty : (piece after : List ℕ) → IsPiece piece after → 0 < length piece
piece_nonempty (b ∷ bs) after h = omega arith
piece_nonempty [] after (gap (inl blank)) = cc
piece_nonempty [] after (gap (inr (inl line))) = cc
piece_nonempty [] after (gap (inr (inr block))) = cc
piece_nonempty [] after (open_comment h none) = cc
piece_nonempty [] after (name h) = absurd h
piece_nonempty [] after (numeral n (inl decimal)) = decimal.0
piece_nonempty [] after (numeral n (inr hexadecimal)) = cc
piece_nonempty [] after (sign s is follows) = subst (λ p. 0 < length p) (sym is) (sign_text-nonempty s)

-- where nothing is found no piece begins
pub none_begins : (text : List ℕ) → longest_piece text ≡ None → (piece after : List ℕ) → text ≡ piece ++ after
    → IsPiece piece after → ⊥
none_begins text h piece after e here =
    let le = subst (λ l. length piece ≤ size l (longest_piece l)) (sym e) (bound piece after here) in
    let none : length piece ≤ size text None = subst (λ o. length piece ≤ size text o) h le in
    omega (arith, piece_nonempty piece after here, none)

-- a piece of the size that is found is the longest
pub found_longest : (text : List ℕ) (p : Piece) (n : ℕ) → longest_piece text ≡ Some p → size text (Some p) ≡ n
    → n ≤ length text → IsPiece (take n text) (drop n text) → IsLongest (take n text) (drop n text)
found_longest text p n h is within here = record {
  is_piece = here;
  longest = λ other rest begins same.
      let e : other ++ rest ≡ text = same ∙ take-append-drop n text in
      let le = subst (λ l. length other ≤ size l (longest_piece l)) e (bound other rest begins) in
      let at_most : length other ≤ size text (Some p) = subst (λ o. length other ≤ size text o) h le in
      omega (arith, at_most, is, length-take-le n text within);
}

cut : (text : List ℕ) (p : Piece) (n : ℕ) → longest_piece text ≡ Some p → size text (Some p) ≡ n → 0 < n
    → n ≤ length text → IsPiece (take n text) (drop n text) → IsLongestPiece text n
cut text p n h is some within here =
    record { some = some; within = within; longest = found_longest text p n h is within here }

-- what is found is the longest piece, with its meaning
pub longest_piece_is : (text : List ℕ) (p : Piece) → longest_piece text ≡ Some p → BeginsWithPiece text p
longest_piece_is text (Gap n) h =
    let w = found_matches text (Gap n) h in (cut text (Gap n) n h refl w.0 w.1 (gap w.2), w.2)
longest_piece_is text UnclosedComment h = found_matches text UnclosedComment h
longest_piece_is text (Name n) h =
    let w = found_matches text (Name n) h in (cut text (Name n) n h refl w.0 w.1 (name w.2), w.2)
longest_piece_is text (Decimal n) h =
    let w = found_matches text (Decimal n) h in
    let here : IsNumeral (take n text) (value_in 10 (take n text)) = inl w.2 in
    (cut text (Decimal n) n h refl w.0 w.1 (numeral (value_in 10 (take n text)) here), here)
longest_piece_is text (Hexadecimal n) h =
    let w = found_matches text (Hexadecimal n) h in
    let here : IsNumeral (take n text) (value_in 16 (drop 2 (take n text))) = inr w.2 in (
      cut text (Hexadecimal n) n h refl (omega (arith, w.0)) w.1 (numeral (value_in 16 (drop 2 (take n text))) here),
      here,
      omega (arith, w.0),
    )
longest_piece_is text (SignPiece s) h =
    let w = found_matches text (SignPiece s) h in
    let n : ℕ = length (sign_text s) in
    let taken : take n text ≡ sign_text s = ap (take n) w.0 ∙ take_at (sign_text s) (drop n text) n refl in (
      cut text (SignPiece s) n h refl (sign_text-nonempty s)
          (omega (arith, ap length w.0, length-append (sign_text s) (drop n text))) (sign s taken w.1),
      taken,
    )
