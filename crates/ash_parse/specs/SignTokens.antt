-- Which sign a token is.
use Rattle.std.specs.Prelude.{ℕ, ◌==◌, Bool, false}
use Rattle.ash_lex.specs.Tokens.{Meaning, sign}
use Rattle.ash_lex.specs.declared.signs.Sign.{Sign}
use Rattle.ash_lex.specs.declared.signs.Sign.TheVariants.{OpenParenthesis, CloseParenthesis, OpenBrace, CloseBrace}
use Rattle.ash_lex.specs.declared.signs.Sign.TheVariants.{OpenBracket, CloseBracket, Semicolon, Comma, Colon}
use Rattle.ash_lex.specs.declared.signs.Sign.TheVariants.{Question, Dot, Handle, BitNot, LogicalNot, NotIs, Assign}
use Rattle.ash_lex.specs.declared.signs.Sign.TheVariants.{Equal, NotEqual, Less, LessOrEqual, Greater, GreaterOrEqual}
use Rattle.ash_lex.specs.declared.signs.Sign.TheVariants.{Plus, Increment, PlusAssign, Minus, Decrement, MinusAssign}
use Rattle.ash_lex.specs.declared.signs.Sign.TheVariants.{Star, StarAssign, Slash, SlashAssign, Percent}
use Rattle.ash_lex.specs.declared.signs.Sign.TheVariants.{PercentAssign, BitAnd, LogicalAnd, BitAndAssign, BitOr}
use Rattle.ash_lex.specs.declared.signs.Sign.TheVariants.{LogicalOr, BitOrAssign, BitXor, LogicalXor, BitXorAssign}
use Rattle.ash_lex.specs.declared.signs.Sign.TheVariants.{ShiftLeft, ShiftLeftAssign, ShiftRight, ShiftRightAssign}
use Rattle.ash_lex.specs.declared.signs.Sign.TheVariants.{ShiftRightArithmetic, ShiftRightArithmeticAssign, Power}
use Rattle.ash_lex.specs.declared.signs.Sign.TheVariants.{Scope}

-- the signs counted through
abbrev pub count : Sign → ℕ
count OpenParenthesis = 0
count CloseParenthesis = 1
count OpenBrace = 2
count CloseBrace = 3
count OpenBracket = 4
count CloseBracket = 5
count Semicolon = 6
count Comma = 7
count Colon = 8
count Question = 9
count Dot = 10
count Handle = 11
count BitNot = 12
count LogicalNot = 13
count NotIs = 14
count Assign = 15
count Equal = 16
count NotEqual = 17
count Less = 18
count LessOrEqual = 19
count Greater = 20
count GreaterOrEqual = 21
count Plus = 22
count Increment = 23
count PlusAssign = 24
count Minus = 25
count Decrement = 26
count MinusAssign = 27
count Star = 28
count StarAssign = 29
count Slash = 30
count SlashAssign = 31
count Percent = 32
count PercentAssign = 33
count BitAnd = 34
count LogicalAnd = 35
count BitAndAssign = 36
count BitOr = 37
count LogicalOr = 38
count BitOrAssign = 39
count BitXor = 40
count LogicalXor = 41
count BitXorAssign = 42
count ShiftLeft = 43
count ShiftLeftAssign = 44
count ShiftRight = 45
count ShiftRightAssign = 46
count ShiftRightArithmetic = 47
count ShiftRightArithmeticAssign = 48
count Power = 49
count Scope = 50

unfoldable pub same_sign : Sign → Sign → Bool
same_sign a b = count a == count b

unfoldable pub is_sign : Sign → Meaning → Bool
is_sign s (sign t) = same_sign s t
is_sign s _ = false
