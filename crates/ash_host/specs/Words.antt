-- Words as whole numbers, the integer operators on them, and which words a host may answer with.
use Rattle.std.specs.Prelude.{ℤ, pos, FitsSigned, ◌+ℤ◌, ◌-ℤ◌, ◌*ℤ◌}
use Rattle.std.specs.Int.{FitsUnsignedBits, int_wrap, w32, w64}
use Rattle.ash_host.specs.declared.answer.HostAnswer.{HostAnswer}
use Rattle.ash_host.specs.declared.answer.HostAnswer.TheVariants.{Value}
use Rattle.ash_host.specs.declared.word.Word.{Word}
use Rattle.ash_host.specs.declared.word.Word.TheVariants.{Int, Uint, Int64, Uint64}

-- a word that a host answers with has a number that its type has
abbrev pub IsHostWord : Word → Type 0
IsHostWord (Int n) = FitsSigned w32 n
IsHostWord (Uint n) = FitsUnsignedBits 32 (pos n)
IsHostWord (Int64 n) = FitsSigned w64 n
IsHostWord (Uint64 n) = FitsUnsignedBits 64 (pos n)
IsHostWord _ = Unit {0}

-- the word of an answer, if it has one, is such a word
abbrev pub IsAnswer : HostAnswer → Type 0
IsAnswer (Value word) = IsHostWord word
IsAnswer _ = Unit {0}

-- the number of an `int`; typed code asks it of nothing else, and what is no `int` reads as zero
abbrev pub int_of : Word → ℤ
int_of (Int number) = number
int_of _ = pos 0

-- the `int` that a whole number leaves: its low 32 bits, read in two's complement
abbrev pub int_from : ℤ → Word
int_from number = Int (int_wrap w32 number)

abbrev pub int_sum : Word → Word → Word
int_sum left right = int_from (int_of left +ℤ int_of right)

abbrev pub int_difference : Word → Word → Word
int_difference left right = int_from (int_of left -ℤ int_of right)

abbrev pub int_product : Word → Word → Word
int_product left right = int_from (int_of left *ℤ int_of right)
