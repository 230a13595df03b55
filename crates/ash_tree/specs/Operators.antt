-- These definitions say which tokens are operators, and which words name primitive types (AngelScript manual, "Operator
-- precedence").
use Rattle.std.specs.Prelude.{ℕ, Option, Some, None}
use Rattle.ash_lex.specs.Tokens.{Meaning, sign, reserved}
use Rattle.ash_lex.specs.declared.signs.Sign.TheVariants as signs
use Rattle.ash_lex.specs.declared.words.ReservedWord.TheVariants as words
use Rattle.ash_tree.specs.declared.tree.types.Primitive.{Primitive}
use Rattle.ash_tree.specs.declared.tree.types.Primitive.TheVariants as primitives
use Rattle.ash_tree.specs.declared.tree.operators.UnaryOp.{UnaryOp}
use Rattle.ash_tree.specs.declared.tree.operators.UnaryOp.TheVariants as unary
use Rattle.ash_tree.specs.declared.tree.operators.BinaryOp.{BinaryOp}
use Rattle.ash_tree.specs.declared.tree.operators.BinaryOp.TheVariants as binary
use Rattle.ash_tree.specs.declared.tree.operators.AssignOp.{AssignOp}
use Rattle.ash_tree.specs.declared.tree.operators.AssignOp.TheVariants as assigns

-- `primitive m` is the primitive type that a word names.
unfoldable pub primitive : Meaning → Option Primitive
primitive (reserved words.Bool) = Some primitives.Bool
primitive (reserved words.Int) = Some primitives.Int
primitive (reserved words.Int32) = Some primitives.Int
primitive (reserved words.Int64) = Some primitives.Int64
primitive (reserved words.Uint) = Some primitives.Uint
primitive (reserved words.Uint32) = Some primitives.Uint
primitive (reserved words.Uint64) = Some primitives.Uint64
primitive _ = None

-- `unary_operator m` is the operator that a token is before its operand.
unfoldable pub unary_operator : Meaning → Option UnaryOp
unary_operator (sign signs.Plus) = Some unary.Plus
unary_operator (sign signs.Minus) = Some unary.Minus
unary_operator (sign signs.LogicalNot) = Some unary.Not
unary_operator (reserved words.Not) = Some unary.Not
unary_operator (sign signs.BitNot) = Some unary.BitNot
unary_operator (sign signs.Increment) = Some unary.Increment
unary_operator (sign signs.Decrement) = Some unary.Decrement
unary_operator (sign signs.Handle) = Some unary.Handle
unary_operator _ = None

-- `binary_operator m` is the operator that a token is between two operands.
unfoldable pub binary_operator : Meaning → Option BinaryOp
binary_operator (sign signs.Star) = Some binary.Multiply
binary_operator (sign signs.Slash) = Some binary.Divide
binary_operator (sign signs.Percent) = Some binary.Remainder
binary_operator (sign signs.Plus) = Some binary.Add
binary_operator (sign signs.Minus) = Some binary.Subtract
binary_operator (sign signs.ShiftLeft) = Some binary.ShiftLeft
binary_operator (sign signs.ShiftRight) = Some binary.ShiftRight
binary_operator (sign signs.ShiftRightArithmetic) = Some binary.ShiftRightArithmetic
binary_operator (sign signs.BitAnd) = Some binary.BitAnd
binary_operator (sign signs.BitXor) = Some binary.BitXor
binary_operator (sign signs.BitOr) = Some binary.BitOr
binary_operator (sign signs.Less) = Some binary.Less
binary_operator (sign signs.LessOrEqual) = Some binary.LessOrEqual
binary_operator (sign signs.Greater) = Some binary.Greater
binary_operator (sign signs.GreaterOrEqual) = Some binary.GreaterOrEqual
binary_operator (sign signs.Equal) = Some binary.Equal
binary_operator (sign signs.NotEqual) = Some binary.NotEqual
binary_operator (reserved words.Is) = Some binary.Is
binary_operator (sign signs.NotIs) = Some binary.NotIs
binary_operator (sign signs.LogicalXor) = Some binary.Xor
binary_operator (reserved words.Xor) = Some binary.Xor
binary_operator (sign signs.LogicalAnd) = Some binary.And
binary_operator (reserved words.And) = Some binary.And
binary_operator (sign signs.LogicalOr) = Some binary.Or
binary_operator (reserved words.Or) = Some binary.Or
binary_operator _ = None

-- `level operator` is the level of an operator, from 1 for the tightest.
unfoldable pub level : BinaryOp → ℕ
level binary.Multiply = 1
level binary.Divide = 1
level binary.Remainder = 1
level binary.Add = 2
level binary.Subtract = 2
level binary.ShiftLeft = 3
level binary.ShiftRight = 3
level binary.ShiftRightArithmetic = 3
level binary.BitAnd = 4
level binary.BitXor = 5
level binary.BitOr = 6
level binary.Less = 7
level binary.LessOrEqual = 7
level binary.Greater = 7
level binary.GreaterOrEqual = 7
level binary.Equal = 8
level binary.NotEqual = 8
level binary.Is = 8
level binary.NotIs = 8
level binary.Xor = 8
level binary.And = 9
level binary.Or = 10

-- `max_level` is the loosest level.
abbrev pub max_level : ℕ
max_level = 10

-- `assign_operator m` is the operator that a token is after what it writes to.
unfoldable pub assign_operator : Meaning → Option AssignOp
assign_operator (sign signs.Assign) = Some assigns.Assign
assign_operator (sign signs.PlusAssign) = Some assigns.Add
assign_operator (sign signs.MinusAssign) = Some assigns.Subtract
assign_operator (sign signs.StarAssign) = Some assigns.Multiply
assign_operator (sign signs.SlashAssign) = Some assigns.Divide
assign_operator (sign signs.PercentAssign) = Some assigns.Remainder
assign_operator (sign signs.BitAndAssign) = Some assigns.BitAnd
assign_operator (sign signs.BitOrAssign) = Some assigns.BitOr
assign_operator (sign signs.BitXorAssign) = Some assigns.BitXor
assign_operator (sign signs.ShiftLeftAssign) = Some assigns.ShiftLeft
assign_operator (sign signs.ShiftRightAssign) = Some assigns.ShiftRight
assign_operator (sign signs.ShiftRightArithmeticAssign) = Some assigns.ShiftRightArithmetic
assign_operator _ = None
