-- These definitions say what a text is cut into: blanks, comments, names, numerals and signs.
use Rattle.std.specs.Prelude.{◌≡◌, ℕ, ◌<◌, ◌≤◌, List, [], ◌∷◌, ◌++◌, length, not, IsTrue, ◌⊎◌, nat_eq, codes}
use Rattle.std.specs.List.{starts_with}
use Rattle.ash_lex.specs.Bytes.{is_blank, is_line_feed, is_digit, is_hex_digit, is_letter, is_word, Each, value_in}
use Rattle.ash_lex.specs.Signs.{sign_text, may_follow}
use Rattle.ash_lex.specs.declared.signs.Sign.{Sign}

-- The piece is one space, tab, carriage return or line feed.
abbrev pub IsBlank : List ℕ → Type 0
IsBlank piece = (b : ℕ) × (piece ≡ b ∷ []) × IsTrue (is_blank b)

-- The piece is `//` and what follows it in the line.
abbrev pub IsLineComment : List ℕ → Type 0
IsLineComment piece =
    (text : List ℕ) × (piece ≡ codes "//" ++ text) × Each (λ b. not (is_line_feed b)) text

-- `*/` begins nowhere in the text.
abbrev pub HasNoCommentEnd : List ℕ → Type 0
HasNoCommentEnd [] = Unit {0}
HasNoCommentEnd (b ∷ bs) = IsTrue (not (starts_with nat_eq (b ∷ bs) (codes "*/"))) × HasNoCommentEnd bs

-- The piece is `/*` and what follows it up to the first `*/`: a `/*` inside means nothing.
abbrev pub IsBlockComment : List ℕ → Type 0
IsBlockComment piece =
    (text : List ℕ) × (piece ≡ codes "/*" ++ (text ++ codes "*/")) × HasNoCommentEnd (text ++ codes "*")

-- The piece is `/*` with no `*/` after it.
abbrev pub IsOpenComment : List ℕ → Type 0
IsOpenComment piece = (text : List ℕ) × (piece ≡ codes "/*" ++ text) × HasNoCommentEnd text

-- The piece parts tokens and is none.
abbrev pub IsGap : List ℕ → Type 0
IsGap piece = IsBlank piece ⊎ IsLineComment piece ⊎ IsBlockComment piece

-- A name is a letter or `_`, then letters, digits and `_`.
abbrev pub IsName : List ℕ → Type 0
IsName [] = ⊥
IsName (b ∷ bs) = IsTrue (is_letter b) × Each is_word bs

-- The piece is the digits of n.
abbrev pub IsDecimal : List ℕ → ℕ → Type 0
IsDecimal piece n = (0 < length piece) × Each is_digit piece × (n ≡ value_in 10 piece)

-- The piece is `0x` and the hexadecimal digits of n, at least one.
abbrev pub IsHexadecimal : List ℕ → ℕ → Type 0
IsHexadecimal piece n =
    (digits : List ℕ) × (piece ≡ codes "0x" ++ digits) × (0 < length digits) × Each is_hex_digit digits
    × (n ≡ value_in 16 digits)

-- The piece is a numeral of this value, however large.
abbrev pub IsNumeral : List ℕ → ℕ → Type 0
IsNumeral piece n = IsDecimal piece n ⊎ IsHexadecimal piece n

-- These bytes are a piece of a text, where the others follow them.
pub data IsPiece (piece after : List ℕ) : Type 0 where
  gap : IsGap piece → IsPiece piece after
  -- A comment without an end takes the rest of the text.
  open_comment : IsOpenComment piece → after ≡ [] → IsPiece piece after
  name : IsName piece → IsPiece piece after
  numeral : (n : ℕ) → IsNumeral piece n → IsPiece piece after
  sign : (s : Sign) → piece ≡ sign_text s → IsTrue (may_follow s after) → IsPiece piece after

-- These bytes are a piece, where the others follow them, and no longer piece begins at their place.
pub record IsLongest (piece after : List ℕ) : Type 0 where
  pub is_piece : IsPiece piece after
  pub longest : (other rest : List ℕ) → IsPiece other rest → other ++ rest ≡ piece ++ after
      → length other ≤ length piece
