-- What class of piece the first bytes begin: no piece is of two classes, and none has two meanings.
use Rattle.std.proofs.Common.{◌≡◌, ℕ, ◌+◌, ◌^◌, ◌<◌, ◌≤◌, true, cond, ◌||◌, nat_eq, List, [], ◌∷◌, ◌++◌, length, drop}
use Rattle.std.proofs.Common.{slice_index, Some, None, codes, sym, refl, ap, ◌∙◌, subst, inl, inr, arith, lit<}
use Rattle.std.specs.List.{starts_with}
use Rattle.ash_lex.specs.Bytes.{is_blank, is_digit, is_letter, Each, value_in}
use Rattle.ash_lex.specs.Signs.{sign_text}
use Rattle.ash_lex.specs.ReservedWords.{reserved_text, unsupported_text}
use Rattle.ash_lex.specs.Pieces.{HasNoCommentEnd, IsOpenComment, IsGap, IsName, IsNumeral}
use Rattle.ash_lex.specs.Scan.{comment_end, reserved_word}
use Rattle.ash_lex.specs.Tokens.{Meaning, name, number, sign, reserved, unsupported, Means}
use Rattle.ash_lex.specs.declared.signs.Sign.{Sign}
use Rattle.ash_lex.specs.declared.signs.Sign.TheVariants.{Slash}
use Rattle.ash_lex.specs.declared.words.ReservedWord.{ReservedWord}
use Rattle.ash_lex.specs.declared.words.ReservedWord.TheVariants.{And}
use Rattle.ash_lex.specs.declared.words.UnsupportedWord.{UnsupportedWord}
use Rattle.ash_lex.specs.declared.words.UnsupportedWord.TheVariants.{Auto}
use Rattle.ash_lex.proofs.SignTable.{sign_text-injective}
use Rattle.ash_lex.proofs.WordTables.{reserved_word-of_text}
use Rattle.ash_lex.proofs.WordLookups.{reserved_text-injective, unsupported_text-injective}
use Rattle.ash_lex.proofs.Prefixes.{comment_end-at, comment_end-none}
use Rattle.ash_lex.proofs.Bounds.{letter_is_no_blank, digit_is_no_blank, digit_is_no_letter}

-- 0 for a blank, 1 for a comment, 2 for a word, 3 for a numeral, 4 for a sign
abbrev pub piece_class : List ℕ → ℕ
piece_class piece =
    cond (is_blank (slice_index piece 0)) 0
    (cond (is_letter (slice_index piece 0)) 2
    (cond (is_digit (slice_index piece 0)) 3
    (cond (starts_with nat_eq piece (codes "//") || starts_with nat_eq piece (codes "/*")) 1 4)))

pub gap_class : (piece : List ℕ) → IsGap piece → piece_class piece < 2
gap_class piece (inl blank) = subst (λ p. piece_class p < 2) (sym blank.1) (rw blank.2 (lit< tt))
gap_class piece (inr (inl line)) = subst (λ p. piece_class p < 2) (sym line.1) (lit< tt)
gap_class piece (inr (inr block)) = subst (λ p. piece_class p < 2) (sym block.1) (lit< tt)

pub open_class : (piece : List ℕ) → IsOpenComment piece → piece_class piece ≡ 1
open_class piece h = subst (λ p. piece_class p ≡ 1) (sym h.1) refl

none_is_no_some : (n : ℕ) → None ≡ Some n → ⊥
none_is_no_some n h = cc

-- a text doesn't end a comment and leave it open
no_two_ends : (t u : List ℕ) → HasNoCommentEnd t → HasNoCommentEnd (u ++ 42 ∷ []) → t ≡ u ++ 42 ∷ 47 ∷ [] → ⊥
no_two_ends t u h g e =
    none_is_no_some (length u + 2) (sym (comment_end-none t h) ∙ ap comment_end e ∙ comment_end-at u [] g)

-- a comment without an end is no gap
pub open_is_no_gap : (piece : List ℕ) → IsOpenComment piece → IsGap piece → ⊥
open_is_no_gap piece h (inl blank) = omega (arith, ap length (sym h.1 ∙ blank.1))
open_is_no_gap piece h (inr (inl line)) = omega (arith, ap (λ l. slice_index l 1) (sym h.1 ∙ line.1))
open_is_no_gap piece h (inr (inr block)) =
    no_two_ends h.0 block.0 h.2 block.2 (ap (drop 2) (sym h.1 ∙ block.1))

name_class : (piece : List ℕ) → IsName piece → piece_class piece ≡ 2
name_class [] h = absurd h
name_class (b ∷ bs) h = rw (letter_is_no_blank b h.0, h.0) refl

pub numeral_class : (piece : List ℕ) (n : ℕ) → IsNumeral piece n → piece_class piece ≡ 3
numeral_class [] n (inl h) = absurd (omega (arith, h.0))
numeral_class (b ∷ bs) n (inl h) = rw (digit_is_no_blank b h.1.0, digit_is_no_letter b h.1.0, h.1.0) refl
numeral_class piece n (inr h) = subst (λ p. piece_class p ≡ 3) (sym h.1) refl

sign_class : (s : Sign) → piece_class (sign_text s) ≡ 4
sign_class Slash = refl
sign_class _ = refl

reserved_class : (w : ReservedWord) → piece_class (reserved_text w) ≡ 2
reserved_class And = refl
reserved_class _ = refl

unsupported_class : (w : UnsupportedWord) → piece_class (unsupported_text w) ≡ 2
unsupported_class Auto = refl
unsupported_class _ = refl

abbrev class_of : Meaning → ℕ
class_of (name text) = 2
class_of (number n) = 3
class_of (sign s) = 4
class_of (reserved w) = 2
class_of (unsupported w) = 2

means_class : (piece : List ℕ) (m : Meaning) → Means piece m → piece_class piece ≡ class_of m
means_class piece (name text) h = name_class piece h.0
means_class piece (number n) h = numeral_class piece n h.0
means_class piece (sign s) h = ap piece_class h ∙ sign_class s
means_class piece (reserved w) h = ap piece_class h ∙ reserved_class w
means_class piece (unsupported w) h = ap piece_class h ∙ unsupported_class w

-- what means something is no gap and no comment
pub means_above : (piece : List ℕ) (m : Meaning) → Means piece m → 2 ≤ piece_class piece
means_above piece (name text) h = omega (arith, means_class piece (name text) h)
means_above piece (number n) h = omega (arith, means_class piece (number n) h)
means_above piece (sign s) h = omega (arith, means_class piece (sign s) h)
means_above piece (reserved w) h = omega (arith, means_class piece (reserved w) h)
means_above piece (unsupported w) h = omega (arith, means_class piece (unsupported w) h)

unsupported_is_not_reserved : (w : UnsupportedWord) → reserved_word (unsupported_text w) ≡ None
unsupported_is_not_reserved Auto = refl
unsupported_is_not_reserved _ = refl

-- no word is reserved and unsupported
words_apart : (v : ReservedWord) (w : UnsupportedWord) → reserved_text v ≡ unsupported_text w → ⊥
words_apart v w h =
    let wrong : Some v ≡ None = sym (reserved_word-of_text v) ∙ ap reserved_word h ∙ unsupported_is_not_reserved w in cc

-- a numeral has one value
pub numerals_agree : (piece : List ℕ) (n m : ℕ) → IsNumeral piece n → IsNumeral piece m → n ≡ m
numerals_agree piece n m (inl h) (inl g) = h.2 ∙ sym g.2
numerals_agree piece n m (inr h) (inr g) =
    let digits : h.0 ≡ g.0 = ap (drop 2) (sym h.1 ∙ g.1) in h.4 ∙ ap (value_in 16) digits ∙ sym g.4
numerals_agree piece n m (inl h) (inr g) =
    let digits : Each is_digit (48 ∷ 120 ∷ g.0) = subst (Each is_digit) g.1 h.1 in
    let wrong : is_digit 120 ≡ true = digits.1.0 in cc
numerals_agree piece n m (inr h) (inl g) =
    let digits : Each is_digit (48 ∷ 120 ∷ h.0) = subst (Each is_digit) h.1 g.1 in
    let wrong : is_digit 120 ≡ true = digits.1.0 in cc

-- a piece has one meaning
pub one_meaning : (piece : List ℕ) (m k : Meaning) → Means piece m → Means piece k → m ≡ k
one_meaning piece (name a) (name b) h g = ap name (h.1 ∙ sym g.1)
one_meaning piece (name a) (reserved w) h g = absurd (h.2 w g)
one_meaning piece (name a) (unsupported w) h g = absurd (h.3 w g)
one_meaning piece (reserved v) (name b) h g = absurd (g.2 v h)
one_meaning piece (unsupported v) (name b) h g = absurd (g.3 v h)
one_meaning piece (reserved v) (reserved w) h g = ap reserved (reserved_text-injective v w (sym h ∙ g))
one_meaning piece (unsupported v) (unsupported w) h g = ap unsupported (unsupported_text-injective v w (sym h ∙ g))
one_meaning piece (reserved v) (unsupported w) h g = absurd (words_apart v w (sym h ∙ g))
one_meaning piece (unsupported v) (reserved w) h g = absurd (words_apart w v (sym g ∙ h))
one_meaning piece (number n) (number m) h g = ap number (numerals_agree piece n m h.0 g.0)
one_meaning piece (sign s) (sign t) h g = ap sign (sign_text-injective s t (sym h ∙ g))
one_meaning piece m k h g = absurd (omega (arith, means_class piece m h, means_class piece k g))

-- a numeral means its value, where it means anything
pub numeral_means : (piece : List ℕ) (n : ℕ) (m : Meaning) → IsNumeral piece n → Means piece m → n < 2 ^ 64
numeral_means piece n (number k) h g = omega (arith, numerals_agree piece n k h g.0, g.1)
numeral_means piece n m h g = absurd (omega (arith, numeral_class piece n h, means_class piece m g))
