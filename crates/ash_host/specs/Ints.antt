-- An `int` as four bytes.
use Rattle.std.specs.Prelude.{ℤ, ℕ, List, ◌%◌}
use Rattle.std.specs.Int.{w32, cast_unsigned, cast_signed, to_le_bytes, from_le_bytes}

-- the four bytes of an `int`, the lowest first
abbrev pub int_bytes : ℤ → List ℕ
int_bytes number = to_le_bytes w32 (cast_unsigned w32 number)

-- the `int` whose four bytes these are
abbrev pub int_of_bytes : List ℕ → ℤ
int_of_bytes bytes = cast_signed w32 (from_le_bytes w32 bytes)

-- the low 16 bits of an `int`
abbrev pub low_bits_of : ℤ → ℕ
low_bits_of number = cast_unsigned w32 number % 65536
