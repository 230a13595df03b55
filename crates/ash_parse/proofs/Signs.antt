-- Two signs with one count are one.
use Rattle.std.proofs.Common.{◌≡◌, List, [], ◌∷◌, get_or, Bool, true, false, IsTrue, refl, sym, ap, ◌∙◌, arith}
use Rattle.std.proofs.lemmas.Bool.Decides.{nat_tests}
use Rattle.ash_lex.specs.declared.signs.Sign.{Sign}
use Rattle.ash_lex.specs.declared.signs.Sign.TheVariants.{OpenParenthesis, CloseParenthesis, OpenBrace, CloseBrace, OpenBracket, CloseBracket, Semicolon, Comma, Colon, Question, Dot, Handle, BitNot, LogicalNot, NotIs, Assign, Equal, NotEqual, Less, LessOrEqual, Greater, GreaterOrEqual, Plus, Increment, PlusAssign, Minus, Decrement, MinusAssign, Star, StarAssign, Slash, SlashAssign, Percent, PercentAssign, BitAnd, LogicalAnd, BitAndAssign, BitOr, LogicalOr, BitOrAssign, BitXor, LogicalXor, BitXorAssign, ShiftLeft, ShiftLeftAssign, ShiftRight, ShiftRightAssign, ShiftRightArithmetic, ShiftRightArithmeticAssign, Power, Scope}
use Rattle.ash_parse.specs.SignTokens.{count, same_sign}

abbrev all : List Sign
all = OpenParenthesis ∷ CloseParenthesis ∷ OpenBrace ∷ CloseBrace ∷ OpenBracket ∷ CloseBracket ∷ Semicolon ∷ Comma ∷ Colon ∷ Question ∷ Dot ∷ Handle ∷ BitNot ∷ LogicalNot ∷ NotIs ∷ Assign ∷ Equal ∷ NotEqual ∷ Less ∷ LessOrEqual ∷ Greater ∷ GreaterOrEqual ∷ Plus ∷ Increment ∷ PlusAssign ∷ Minus ∷ Decrement ∷ MinusAssign ∷ Star ∷ StarAssign ∷ Slash ∷ SlashAssign ∷ Percent ∷ PercentAssign ∷ BitAnd ∷ LogicalAnd ∷ BitAndAssign ∷ BitOr ∷ LogicalOr ∷ BitOrAssign ∷ BitXor ∷ LogicalXor ∷ BitXorAssign ∷ ShiftLeft ∷ ShiftLeftAssign ∷ ShiftRight ∷ ShiftRightAssign ∷ ShiftRightArithmetic ∷ ShiftRightArithmeticAssign ∷ Power ∷ Scope ∷ []

all_counted : (s : Sign) → get_or all (count s) Power ≡ s
all_counted OpenParenthesis = refl
all_counted CloseParenthesis = refl
all_counted OpenBrace = refl
all_counted CloseBrace = refl
all_counted OpenBracket = refl
all_counted CloseBracket = refl
all_counted Semicolon = refl
all_counted Comma = refl
all_counted Colon = refl
all_counted Question = refl
all_counted Dot = refl
all_counted Handle = refl
all_counted BitNot = refl
all_counted LogicalNot = refl
all_counted NotIs = refl
all_counted Assign = refl
all_counted Equal = refl
all_counted NotEqual = refl
all_counted Less = refl
all_counted LessOrEqual = refl
all_counted Greater = refl
all_counted GreaterOrEqual = refl
all_counted Plus = refl
all_counted Increment = refl
all_counted PlusAssign = refl
all_counted Minus = refl
all_counted Decrement = refl
all_counted MinusAssign = refl
all_counted Star = refl
all_counted StarAssign = refl
all_counted Slash = refl
all_counted SlashAssign = refl
all_counted Percent = refl
all_counted PercentAssign = refl
all_counted BitAnd = refl
all_counted LogicalAnd = refl
all_counted BitAndAssign = refl
all_counted BitOr = refl
all_counted LogicalOr = refl
all_counted BitOrAssign = refl
all_counted BitXor = refl
all_counted LogicalXor = refl
all_counted BitXorAssign = refl
all_counted ShiftLeft = refl
all_counted ShiftLeftAssign = refl
all_counted ShiftRight = refl
all_counted ShiftRightAssign = refl
all_counted ShiftRightArithmetic = refl
all_counted ShiftRightArithmeticAssign = refl
all_counted Power = refl
all_counted Scope = refl

count-injective : (a b : Sign) → count a ≡ count b → a ≡ b
count-injective a b h = sym (all_counted a) ∙ ap (λ n. get_or all n Power) h ∙ all_counted b

pub same_sign_is : (a b : Sign) → same_sign a b ≡ true → a ≡ b
unfolding same_sign
same_sign_is a b h = count-injective a b (grind (arith, nat_tests))

pub same_sign_refl : (a : Sign) → same_sign a a ≡ true
unfolding same_sign
same_sign_refl a = grind (arith, nat_tests)

no_false : (b : Bool) → b ≡ true → b ≡ false → ⊥
no_false b h g = cc

-- a test of equality is this one
pub same_sign_of : (r : Bool) (a b : Sign) → (IsTrue r → a ≡ b) → (a ≡ b → IsTrue r) → r ≡ same_sign a b
same_sign_of true a b to from = sym (ap (λ s. same_sign a s) (sym (to refl)) ∙ same_sign_refl a)
same_sign_of false a b to from =
    let P : Bool → Type 0 = λ v. same_sign a b ≡ v → false ≡ v in
    (elim (same_sign a b) as P [ true ↦ λ e. from (same_sign_is a b e) | false ↦ λ e. refl ]) refl
