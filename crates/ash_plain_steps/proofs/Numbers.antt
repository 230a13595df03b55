-- Numbers as words of integer types.
use Rattle.std.proofs.Common.{◌≡◌, ℕ, ◌^◌, ℤ, pos, negsuc, unsigned_abs, refl}
use Rattle.std.specs.Int.{int_rem_euclid}
use Rattle.ash_integers.specs.declared.int_type.IntType.{IntType}
use Rattle.ash_integers.specs.declared.int_type.IntType.TheVariants.{Int, Uint, Int64, Uint64}
use Rattle.ash_integers.specs.Integers.{number_of, word_of, reduced}

abs_rem : (z : ℤ) (n : ℕ) → pos (unsigned_abs (int_rem_euclid z (pos n))) ≡ int_rem_euclid z (pos n)
abs_rem (pos a) n = refl
abs_rem (negsuc a) n = refl

-- the word that a number leaves holds what is left of it
pub number_reduced : (t : IntType) (z : ℤ) → number_of (word_of t z) ≡ reduced t z
number_reduced Int z = refl
number_reduced Uint z = abs_rem z (2 ^ 32)
number_reduced Int64 z = refl
number_reduced Uint64 z = abs_rem z (2 ^ 64)
