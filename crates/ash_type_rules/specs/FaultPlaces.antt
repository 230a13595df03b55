-- Where the fault of a module is among its tokens: at a token, and at which.
use Rattle.std.specs.Prelude.{◌≡◌, ℕ, Bool, true, false, ◌||◌, is_some}
use Rattle.std.specs.List.{Any}
use Rattle.ash_lex.specs.Tokens.{Meaning, name, number, sign, reserved}
use Rattle.ash_lex.specs.declared.signs.Sign.TheVariants as signs
use Rattle.ash_lex.specs.declared.words.ReservedWord.TheVariants as words
use Rattle.ash_tree.specs.Operators.{primitive, unary_operator}
use Rattle.ash_tree.specs.GrammarTokens.{Tokens}
use Rattle.ash_type_rules.specs.declared.fault.Rule.{Rule}
use Rattle.ash_type_rules.specs.declared.fault.Rule.TheVariants as rules
use Rattle.ash_type_rules.specs.declared.fault.Fault.{Fault}

-- A token of the list has its first byte at this offset.
abbrev pub IsTokenOf : Tokens → ℕ → Type 0
IsTokenOf tokens at = Any (λ token. token.1.at ≡ at) tokens

-- The token is a name.
abbrev pub is_name : Meaning → Bool
is_name (name text) = true
is_name _ = false

-- An operand begins with this token, which is neither a primitive type nor an operator.
abbrev pub begins_operand : Meaning → Bool
begins_operand (name text) = true
begins_operand (number n) = true
begins_operand (sign signs.OpenParenthesis) = true
begins_operand (reserved words.True) = true
begins_operand (reserved words.False) = true
begins_operand (reserved words.Null) = true
begins_operand (reserved words.This) = true
begins_operand (reserved words.Array) = true
begins_operand (reserved words.Cast) = true
begins_operand _ = false

-- An expression begins with this token.
abbrev pub begins_expression : Meaning → Bool
begins_expression m = begins_operand m || is_some (primitive m) || is_some (unary_operator m)

-- The token is the word `return`.
abbrev pub is_return : Meaning → Bool
is_return (reserved words.Return) = true
is_return _ = false

-- What is called is named by this token: a name, or the word `array`.
abbrev pub begins_call : Meaning → Bool
begins_call (reserved words.Array) = true
begins_call m = is_name m

-- The constant of a `case` begins with this token: a number, or its minus.
abbrev pub begins_constant : Meaning → Bool
begins_constant (number n) = true
begins_constant (sign signs.Minus) = true
begins_constant _ = false

-- A phrase that may be misplaced begins with this token: the words of which each has its place, the name of an object
-- type, of a constructor or of a class where an interface is awaited, and the word `array`.
abbrev pub begins_misplaced : Meaning → Bool
begins_misplaced (reserved words.This) = true
begins_misplaced (reserved words.Break) = true
begins_misplaced (reserved words.Continue) = true
begins_misplaced (reserved words.Default) = true
begins_misplaced (reserved words.Array) = true
begins_misplaced m = is_name m

-- A fault of this rule may be at a token that means this: where the rule is of names, at a name; where it is of the
-- type of a value or of what is written to, at the first token of an expression, or of `return`.
abbrev pub breaks_at : Rule → Meaning → Bool
breaks_at rules.UnknownName m = is_name m
breaks_at rules.UnknownType m = is_name m
breaks_at rules.NameTaken m = is_name m
breaks_at rules.TypeMismatch m = is_return m || begins_expression m
breaks_at rules.WrongArgumentCount m = begins_call m
breaks_at rules.NotAssignable m = begins_expression m
breaks_at rules.NoReturn m = is_name m
breaks_at rules.Misplaced m = begins_misplaced m
breaks_at rules.NoFactory m = is_name m
breaks_at rules.TooMany m = is_name m
breaks_at rules.ConstantOutOfRange m = begins_constant m
breaks_at rules.DuplicateCase m = begins_constant m

-- A token of the list has its first byte at the offset of the fault, and means what one of its rule may.
abbrev pub IsFaultOf : Tokens → Fault → Type 0
IsFaultOf tokens f = Any (λ token. (token.1.at ≡ f.at) × (breaks_at f.rule token.0 ≡ true)) tokens
