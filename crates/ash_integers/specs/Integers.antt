-- The integers of scripts as whole numbers (AngelScript manual, "Primitives"), their conversions, and their operators
-- ("Math operators", "Bitwise operators").
use Rattle.std.specs.Prelude.{ℕ, zero, ◌-◌, ◌*◌, ◌/◌, ◌%◌, ◌^◌, ◌==◌, ◌||◌, not}
use Rattle.std.specs.Prelude.{Bool, ℤ, pos, negsuc, ◌+ℤ◌, ◌-ℤ◌, ◌*ℤ◌, unsigned_abs, bit_and, bit_or}
use Rattle.std.specs.Prelude.{bit_xor, int_lt, int_le, int_div, int_rem, if◌then◌else◌, Result, Ok, Err}
use Rattle.std.specs.Int.{Width, w32, w64, int_wrap, int_rem_euclid, int_shr, cast_signed, cast_unsigned}
use Rattle.ash_host.specs.declared.word.Word.{Word}
use Rattle.ash_host.specs.declared.word.Word.TheVariants as words
use Rattle.ash_integers.specs.declared.int_type.IntType.{IntType}
use Rattle.ash_integers.specs.declared.int_type.IntType.TheVariants.{Int, Uint, Int64, Uint64}
use Rattle.ash_integers.specs.declared.arithmetic.Arithmetic.{Arithmetic}
use Rattle.ash_integers.specs.declared.arithmetic.Arithmetic.TheVariants.{Add, Subtract, Multiply, Divide}
use Rattle.ash_integers.specs.declared.arithmetic.Arithmetic.TheVariants.{Remainder, BitAnd, BitOr, BitXor}
use Rattle.ash_integers.specs.declared.arithmetic.DivisionFault.{DivisionFault}
use Rattle.ash_integers.specs.declared.arithmetic.DivisionFault.TheVariants.{ByZero, Overflow}
use Rattle.ash_integers.specs.declared.shift.Shift.{Shift}
use Rattle.ash_integers.specs.declared.shift.Shift.TheVariants as shifts
use Rattle.ash_integers.specs.declared.comparison.Comparison.{Comparison}
use Rattle.ash_integers.specs.declared.comparison.Comparison.TheVariants as comparisons

-- ---- types and their words

-- the width of a type, and the number of its bits
abbrev pub width_of : IntType → Width
width_of Int = w32
width_of Uint = w32
width_of Int64 = w64
width_of Uint64 = w64

abbrev pub bit_count_of : IntType → ℕ
bit_count_of Int = 32
bit_count_of Uint = 32
bit_count_of Int64 = 64
bit_count_of Uint64 = 64

-- what a whole number leaves at a type: its low bits, read as the type reads them; the number itself where it is in the
-- type's range
abbrev pub reduced : IntType → ℤ → ℤ
reduced Int z = int_wrap w32 z
reduced Uint z = int_rem_euclid z (pos (2 ^ 32))
reduced Int64 z = int_wrap w64 z
reduced Uint64 z = int_rem_euclid z (pos (2 ^ 64))

-- the bits of a number of the type, in two's complement, as a natural number; and the number of the type with these
-- bits
abbrev pub bits_of : IntType → ℤ → ℕ
bits_of t z = cast_unsigned (width_of t) z

abbrev pub from_bits : IntType → ℕ → ℤ
from_bits Int n = cast_signed w32 n
from_bits Uint n = pos n
from_bits Int64 n = cast_signed w64 n
from_bits Uint64 n = pos n

-- the number that a word of any integer type holds; 0 of other words
abbrev pub number_of : Word → ℤ
number_of (words.Int z) = z
number_of (words.Uint n) = pos n
number_of (words.Int64 z) = z
number_of (words.Uint64 n) = pos n
number_of _ = pos 0

-- the number that a word of this type holds; 0 of other words
abbrev pub number_at : IntType → Word → ℤ
number_at Int (words.Int z) = z
number_at Uint (words.Uint n) = pos n
number_at Int64 (words.Int64 z) = z
number_at Uint64 (words.Uint64 n) = pos n
number_at _ _ = pos 0

-- the word of this type for a number of the type
abbrev pub word_at : IntType → ℤ → Word
word_at Int z = words.Int z
word_at Uint z = words.Uint (unsigned_abs z)
word_at Int64 z = words.Int64 z
word_at Uint64 z = words.Uint64 (unsigned_abs z)

-- ---- conversions and operators of one operand

-- the word of this type that a whole number leaves
abbrev pub word_of : IntType → ℤ → Word
word_of t z = word_at t (reduced t z)

-- `~x` before it is reduced
abbrev pub complement_of : ℤ → ℤ
complement_of z = negsuc 0 -ℤ z

-- ---- operators of two operands of one type

-- a quotient or a remainder: refused where the divisor is zero, and where the least number is divided by -1
abbrev pub divided : IntType → ℤ → ℤ → ℤ → Result ℤ DivisionFault
divided t x (pos zero) answer = Err ByZero
divided t (negsuc m) (negsuc zero) answer = if m == 2 ^ (bit_count_of t - 1) - 1 then Err Overflow else Ok answer
divided t x y answer = Ok answer

abbrev pub result_of : Arithmetic → IntType → ℤ → ℤ → Result ℤ DivisionFault
result_of Add t x y = Ok (reduced t (x +ℤ y))
result_of Subtract t x y = Ok (reduced t (x -ℤ y))
result_of Multiply t x y = Ok (reduced t (x *ℤ y))
result_of Divide t x y = divided t x y (int_div x y)
result_of Remainder t x y = divided t x y (int_rem x y)
result_of BitAnd t x y = Ok (from_bits t (bit_and (bits_of t x) (bits_of t y)))
result_of BitOr t x y = Ok (from_bits t (bit_or (bits_of t x) (bits_of t y)))
result_of BitXor t x y = Ok (from_bits t (bit_xor (bits_of t x) (bits_of t y)))

abbrev pub in_word : IntType → Result ℤ DivisionFault → Result Word DivisionFault
in_word t (Ok z) = Ok (word_at t z)
in_word t (Err fault) = Err fault

-- what an operator gives on two words of a type
abbrev pub calculated : Arithmetic → IntType → Word → Word → Result Word DivisionFault
calculated operator t left right = in_word t (result_of operator t (number_at t left) (number_at t right))

-- ---- shifts: the count is of any integer type, and counts modulo the width of the left operand

-- `<<` loses the bits that leave the width; `>>` shifts zeros in; `>>>` copies the top bit, whatever the sign of the
-- type
abbrev pub shifted_by : Shift → IntType → ℤ → ℕ → ℤ
shifted_by shifts.Left t z k = from_bits t (bits_of t z * 2 ^ k % 2 ^ bit_count_of t)
shifted_by shifts.Right t z k = from_bits t (bits_of t z / 2 ^ k)
shifted_by shifts.RightArithmetic t z k =
    from_bits t (cast_unsigned (width_of t) (int_shr (cast_signed (width_of t) (bits_of t z)) k))

abbrev pub count_of : IntType → ℤ → ℕ
count_of t z = unsigned_abs (int_rem_euclid z (pos (bit_count_of t)))

abbrev pub shifted : Shift → IntType → Word → Word → Word
shifted operator t left count = word_at t (shifted_by operator t (number_at t left) (count_of t (number_of count)))

-- ---- comparisons of two words of integer types

abbrev pub compared : Comparison → ℤ → ℤ → Bool
compared comparisons.Less x y = int_lt x y
compared comparisons.LessOrEqual x y = int_le x y
compared comparisons.Greater x y = int_lt y x
compared comparisons.GreaterOrEqual x y = int_le y x
compared comparisons.Equal x y = not (int_lt x y || int_lt y x)
compared comparisons.NotEqual x y = int_lt x y || int_lt y x
