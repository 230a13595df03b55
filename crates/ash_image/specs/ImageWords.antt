-- Words in an image: how each is spelled, which have a spelling, and how one is read.
use Rattle.std.specs.Prelude.{ℕ, zero, suc, ◌==◌, ◌<◌, ◌^◌, nat_lt, Bool, true, false}
use Rattle.std.specs.Prelude.{FitsSigned, List, ◌++◌, Option, Some, None, ⊤}
use Rattle.std.specs.Int.{w32, w64, cast_signed, cast_unsigned}
use Rattle.ash_host.specs.declared.word.Word.{Word}
use Rattle.ash_host.specs.declared.word.Word.TheVariants as words
use Rattle.ash_image.specs.Fields.{number, as_at, checked_at, number_at, tagged_at}

-- 1 where it is true
abbrev pub flag : Bool → ℕ
flag true = 1
flag false = 0

-- a tag, and the value
abbrev pub word : Word → List ℕ
word (words.Bool value) = number 1 0 ++ number 1 (flag value)
word (words.Int value) = number 1 1 ++ number 4 (cast_unsigned w32 value)
word (words.Uint value) = number 1 2 ++ number 4 value
word (words.Int64 value) = number 1 3 ++ number 8 (cast_unsigned w64 value)
word (words.Uint64 value) = number 1 4 ++ number 8 value
word words.Null = number 1 5
word (words.Object value) = number 1 6 ++ number 8 value

-- a word in the range of its type
abbrev pub FitsWord : Word → Type 0
FitsWord (words.Int value) = FitsSigned w32 value
FitsWord (words.Uint value) = value < 2 ^ 32
FitsWord (words.Int64 value) = FitsSigned w64 value
FitsWord (words.Uint64 value) = value < 2 ^ 64
FitsWord (words.Object value) = value < 2 ^ 64
FitsWord _ = ⊤

-- the value of a word with this tag
unfoldable pub value_at : ℕ → List ℕ → Option (Word × List ℕ)
value_at zero = as_at (λ n. words.Bool (n == 1)) (checked_at (λ n. nat_lt n 2) (number_at 1))
value_at (suc zero) = as_at (λ n. words.Int (cast_signed w32 n)) (number_at 4)
value_at (suc (suc zero)) = as_at (λ n. words.Uint n) (number_at 4)
value_at (suc (suc (suc zero))) = as_at (λ n. words.Int64 (cast_signed w64 n)) (number_at 8)
value_at (suc (suc (suc (suc zero)))) = as_at (λ n. words.Uint64 n) (number_at 8)
value_at (suc (suc (suc (suc (suc zero))))) = λ rest. Some (words.Null, rest)
value_at (suc (suc (suc (suc (suc (suc zero)))))) = as_at (λ n. words.Object n) (number_at 8)
value_at (suc (suc (suc (suc (suc (suc (suc more))))))) = λ rest. None

-- a tag, and the value of a word with it
unfoldable pub word_at : List ℕ → Option (Word × List ℕ)
word_at = tagged_at value_at
