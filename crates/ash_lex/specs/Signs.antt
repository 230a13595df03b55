-- These definitions say how the signs are written.
use Rattle.std.specs.Prelude.{ℕ, Bool, true, not, List, codes}
use Rattle.ash_lex.specs.Bytes.{begins_with_word}
use Rattle.ash_lex.specs.declared.signs.Sign.{Sign}
use Rattle.ash_lex.specs.declared.signs.Sign.TheVariants.{OpenParenthesis, CloseParenthesis, OpenBrace, CloseBrace}
use Rattle.ash_lex.specs.declared.signs.Sign.TheVariants.{OpenBracket, CloseBracket, Semicolon, Comma, Colon, Question}
use Rattle.ash_lex.specs.declared.signs.Sign.TheVariants.{Dot, Handle, BitNot, LogicalNot, NotIs, Assign, Equal}
use Rattle.ash_lex.specs.declared.signs.Sign.TheVariants.{NotEqual, Less, LessOrEqual, Greater, GreaterOrEqual, Plus}
use Rattle.ash_lex.specs.declared.signs.Sign.TheVariants.{Increment, PlusAssign, Minus, Decrement, MinusAssign, Star}
use Rattle.ash_lex.specs.declared.signs.Sign.TheVariants.{StarAssign, Slash, SlashAssign, Percent, PercentAssign}
use Rattle.ash_lex.specs.declared.signs.Sign.TheVariants.{BitAnd, LogicalAnd, BitAndAssign, BitOr, LogicalOr}
use Rattle.ash_lex.specs.declared.signs.Sign.TheVariants.{BitOrAssign, BitXor, LogicalXor, BitXorAssign, ShiftLeft}
use Rattle.ash_lex.specs.declared.signs.Sign.TheVariants.{ShiftLeftAssign, ShiftRight, ShiftRightAssign}
use Rattle.ash_lex.specs.declared.signs.Sign.TheVariants.{ShiftRightArithmetic, ShiftRightArithmeticAssign, Power}
use Rattle.ash_lex.specs.declared.signs.Sign.TheVariants.{Scope}

-- `sign_text s` are the characters of a sign.
abbrev pub sign_text : Sign → List ℕ
sign_text OpenParenthesis = codes "("
sign_text CloseParenthesis = codes ")"
sign_text OpenBrace = codes "{"
sign_text CloseBrace = codes "}"
sign_text OpenBracket = codes "["
sign_text CloseBracket = codes "]"
sign_text Semicolon = codes ";"
sign_text Comma = codes ","
sign_text Colon = codes ":"
sign_text Question = codes "?"
sign_text Dot = codes "."
sign_text Handle = codes "@"
sign_text BitNot = codes "~"
sign_text LogicalNot = codes "!"
sign_text NotIs = codes "!is"
sign_text Assign = codes "="
sign_text Equal = codes "=="
sign_text NotEqual = codes "!="
sign_text Less = codes "<"
sign_text LessOrEqual = codes "<="
sign_text Greater = codes ">"
sign_text GreaterOrEqual = codes ">="
sign_text Plus = codes "+"
sign_text Increment = codes "++"
sign_text PlusAssign = codes "+="
sign_text Minus = codes "-"
sign_text Decrement = codes "--"
sign_text MinusAssign = codes "-="
sign_text Star = codes "*"
sign_text StarAssign = codes "*="
sign_text Slash = codes "/"
sign_text SlashAssign = codes "/="
sign_text Percent = codes "%"
sign_text PercentAssign = codes "%="
sign_text BitAnd = codes "&"
sign_text LogicalAnd = codes "&&"
sign_text BitAndAssign = codes "&="
sign_text BitOr = codes "|"
sign_text LogicalOr = codes "||"
sign_text BitOrAssign = codes "|="
sign_text BitXor = codes "^"
sign_text LogicalXor = codes "^^"
sign_text BitXorAssign = codes "^="
sign_text ShiftLeft = codes "<<"
sign_text ShiftLeftAssign = codes "<<="
sign_text ShiftRight = codes ">>"
sign_text ShiftRightAssign = codes ">>="
sign_text ShiftRightArithmetic = codes ">>>"
sign_text ShiftRightArithmeticAssign = codes ">>>="
sign_text Power = codes "**"
sign_text Scope = codes "::"

-- No letter, digit or `_` may follow `!is`, and anything may follow another sign.
abbrev pub may_follow : Sign → List ℕ → Bool
may_follow NotIs after = not (begins_with_word after)
may_follow _ after = true
