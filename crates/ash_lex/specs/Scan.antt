-- These definitions say how the longest piece that begins a text is found, by its first bytes. That it is the longest
-- is proved of it.
use Rattle.std.specs.Prelude.{◌&&◌, ℕ, ◌+◌, Bool, not, List, [], ◌∷◌, length, Option, Some, None, find, drop, nat_eq}
use Rattle.std.specs.Prelude.{slice_index, codes, if◌then◌else◌}
use Rattle.std.specs.Option.{option_map}
use Rattle.std.specs.List.{starts_with, prefix_len}
use Rattle.std.specs.Str.{bytes_eq}
use Rattle.ash_lex.specs.Bytes.{is_blank, is_line_feed, is_digit, is_hex_digit, is_letter, is_word}
use Rattle.ash_lex.specs.Bytes.{begins_with_hex_digit}
use Rattle.ash_lex.specs.Signs.{sign_text, may_follow}
use Rattle.ash_lex.specs.ReservedWords.{reserved_text, unsupported_text}
use Rattle.ash_lex.specs.declared.signs.Sign.{Sign}
use Rattle.ash_lex.specs.declared.signs.Sign.TheVariants.{OpenParenthesis, CloseParenthesis, OpenBrace, CloseBrace}
use Rattle.ash_lex.specs.declared.signs.Sign.TheVariants.{OpenBracket, CloseBracket, Semicolon, Comma, Colon, Question}
use Rattle.ash_lex.specs.declared.signs.Sign.TheVariants.{Dot, Handle, BitNot, LogicalNot, NotIs, Assign, Equal}
use Rattle.ash_lex.specs.declared.signs.Sign.TheVariants.{NotEqual, Less, LessOrEqual, Greater, GreaterOrEqual, Plus}
use Rattle.ash_lex.specs.declared.signs.Sign.TheVariants.{Increment, PlusAssign, Minus, Decrement, MinusAssign, Star}
use Rattle.ash_lex.specs.declared.signs.Sign.TheVariants.{StarAssign, Slash, SlashAssign, Percent, PercentAssign}
use Rattle.ash_lex.specs.declared.signs.Sign.TheVariants.{BitAnd, LogicalAnd, BitAndAssign, BitOr, LogicalOr}
use Rattle.ash_lex.specs.declared.signs.Sign.TheVariants.{BitOrAssign, BitXor, LogicalXor, BitXorAssign, ShiftLeft}
use Rattle.ash_lex.specs.declared.signs.Sign.TheVariants.{ShiftLeftAssign, ShiftRight, ShiftRightAssign}
use Rattle.ash_lex.specs.declared.signs.Sign.TheVariants.{ShiftRightArithmetic, ShiftRightArithmeticAssign, Power}
use Rattle.ash_lex.specs.declared.signs.Sign.TheVariants.{Scope}
use Rattle.ash_lex.specs.declared.words.ReservedWord.{ReservedWord}
use Rattle.ash_lex.specs.declared.words.ReservedWord.TheVariants.{And, Or, Xor, Not, Is, Null, True, False, Void}
use Rattle.ash_lex.specs.declared.words.ReservedWord.TheVariants.{Bool as BoolWord, Int, Int32, Int64, Uint, Uint32}
use Rattle.ash_lex.specs.declared.words.ReservedWord.TheVariants.{Uint64, Class, Interface, Cast, Array, This, If, Else}
use Rattle.ash_lex.specs.declared.words.ReservedWord.TheVariants.{While, Do, For, Switch, Case, Default, Break}
use Rattle.ash_lex.specs.declared.words.ReservedWord.TheVariants.{Continue, Return}
use Rattle.ash_lex.specs.declared.words.UnsupportedWord.{UnsupportedWord}
use Rattle.ash_lex.specs.declared.words.UnsupportedWord.TheVariants.{Auto, Catch, Const, Double, Enum, Float, Funcdef}
use Rattle.ash_lex.specs.declared.words.UnsupportedWord.TheVariants.{Import, In, Inout, Int8, Int16, Mixin, Namespace}
use Rattle.ash_lex.specs.declared.words.UnsupportedWord.TheVariants.{Out, Private, Protected, Try, Typedef, Uint8}
use Rattle.ash_lex.specs.declared.words.UnsupportedWord.TheVariants.{Uint16}
use Rattle.ash_lex.specs.declared.pieces.Piece.{Piece}
use Rattle.ash_lex.specs.declared.pieces.Piece.TheVariants.{Gap, UnclosedComment, Name, Decimal}
use Rattle.ash_lex.specs.declared.pieces.Piece.TheVariants.{Hexadecimal, Sign as SignPiece}

-- `signs` are all signs, the longest first.
abbrev pub signs : List Sign
signs =
    ShiftRightArithmeticAssign ∷ NotIs ∷ ShiftLeftAssign ∷ ShiftRightAssign ∷ ShiftRightArithmetic ∷ Equal ∷ NotEqual
    ∷ LessOrEqual ∷ GreaterOrEqual ∷ Increment ∷ PlusAssign ∷ Decrement ∷ MinusAssign ∷ StarAssign ∷ SlashAssign
    ∷ PercentAssign ∷ LogicalAnd ∷ BitAndAssign ∷ LogicalOr ∷ BitOrAssign ∷ LogicalXor ∷ BitXorAssign ∷ ShiftLeft
    ∷ ShiftRight ∷ Power ∷ Scope ∷ OpenParenthesis ∷ CloseParenthesis ∷ OpenBrace ∷ CloseBrace ∷ OpenBracket
    ∷ CloseBracket ∷ Semicolon ∷ Comma ∷ Colon ∷ Question ∷ Dot ∷ Handle ∷ BitNot ∷ LogicalNot ∷ Assign ∷ Less ∷ Greater
    ∷ Plus ∷ Minus ∷ Star ∷ Slash ∷ Percent ∷ BitAnd ∷ BitOr ∷ BitXor ∷ []

-- The text begins with the sign, and what follows may follow it.
abbrev pub begins : List ℕ → Sign → Bool
begins text s = starts_with nat_eq text (sign_text s) && may_follow s (drop (length (sign_text s)) text)

-- `first_sign text` is the first of the signs that the text begins with.
abbrev pub first_sign : List ℕ → Option Sign
first_sign text = find (begins text) signs

-- `reserved_words` are all reserved words.
abbrev pub reserved_words : List ReservedWord
reserved_words =
    And ∷ Or ∷ Xor ∷ Not ∷ Is ∷ Null ∷ True ∷ False ∷ Void ∷ BoolWord ∷ Int ∷ Int32 ∷ Int64 ∷ Uint ∷ Uint32 ∷ Uint64
    ∷ Class ∷ Interface ∷ Cast ∷ Array ∷ This ∷ If ∷ Else ∷ While ∷ Do ∷ For ∷ Switch ∷ Case ∷ Default ∷ Break
    ∷ Continue ∷ Return ∷ []

-- `unsupported_words` are all unsupported words.
abbrev pub unsupported_words : List UnsupportedWord
unsupported_words =
    Auto ∷ Catch ∷ Const ∷ Double ∷ Enum ∷ Float ∷ Funcdef ∷ Import ∷ In ∷ Inout ∷ Int8 ∷ Int16 ∷ Mixin ∷ Namespace
    ∷ Out ∷ Private ∷ Protected ∷ Try ∷ Typedef ∷ Uint8 ∷ Uint16 ∷ []

-- `reserved_word text` is the reserved word that these characters are, if they are one.
abbrev pub reserved_word : List ℕ → Option ReservedWord
reserved_word text = find (λ w. bytes_eq text (reserved_text w)) reserved_words

-- `unsupported_word text` is the unsupported word that these characters are, if they are one.
abbrev pub unsupported_word : List ℕ → Option UnsupportedWord
unsupported_word text = find (λ w. bytes_eq text (unsupported_text w)) unsupported_words

-- `comment_end text` is how many bytes there are up to the first `*/`, and with it.
abbrev pub comment_end : List ℕ → Option ℕ
comment_end [] = None
comment_end (b ∷ bs) =
    if starts_with nat_eq (b ∷ bs) (codes "*/") then Some 2 else option_map (λ n. n + 1) (comment_end bs)

-- `block_comment end` is the comment that ends so many bytes after its `/*`, or has no end.
abbrev pub block_comment : Option ℕ → Piece
block_comment None = UnclosedComment
block_comment (Some n) = Gap (2 + n)

-- `sign_piece text` is the longest sign that begins a text.
abbrev pub sign_piece : List ℕ → Option Piece
sign_piece text = option_map SignPiece (first_sign text)

-- `slash_piece text` is the comment, or else the sign, that begins a text at a `/`.
abbrev pub slash_piece : List ℕ → Option Piece
slash_piece text =
    if starts_with nat_eq text (codes "//") then Some (Gap (2 + prefix_len (λ b. not (is_line_feed b)) (drop 2 text)))
    else (if starts_with nat_eq text (codes "/*") then Some (block_comment (comment_end (drop 2 text)))
    else sign_piece text)

-- `numeral_piece text` is the longest numeral that begins a text at a digit.
abbrev pub numeral_piece : List ℕ → Piece
numeral_piece text =
    if starts_with nat_eq text (codes "0x") && begins_with_hex_digit (drop 2 text)
    then Hexadecimal (2 + prefix_len is_hex_digit (drop 2 text))
    else Decimal (prefix_len is_digit text)

-- `longest_piece text` is the longest piece that the text begins with.
abbrev pub longest_piece : List ℕ → Option Piece
longest_piece text =
    if is_blank (slice_index text 0) then Some (Gap 1)
    else (if is_letter (slice_index text 0) then Some (Name (prefix_len is_word text))
    else (if is_digit (slice_index text 0) then Some (numeral_piece text)
    else (if nat_eq (slice_index text 0) 47 then slash_piece text
    else sign_piece text)))
