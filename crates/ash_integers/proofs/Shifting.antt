-- A count that is taken modulo the width of the left operand, and what a shift by it gives.
use Rattle.std.proofs.Common.{◌≡◌, ◌%◌, ℕ, ap, ◌∙◌, arith}
use Rattle.std.specs.Prelude.{ℤ, pos, negsuc, ◌-◌, unsigned_abs}
use Rattle.std.specs.Int.{int_rem_euclid}
use Rattle.ash_host.specs.declared.word.Word.{Word}
use Rattle.ash_integers.specs.declared.int_type.IntType.{IntType}
use Rattle.ash_integers.specs.declared.shift.Shift.{Shift}
use Rattle.ash_integers.specs.Integers.{bit_count_of, number_of, number_at, word_at, shifted_by, shifted}

pub below_32 : (z : ℤ) (k : ℕ) → pos k ≡ int_rem_euclid z (pos 32) → k % 32 ≡ k
below_32 (pos a) k is = let same : k ≡ a % 32 = ap unsigned_abs is in omega (arith, same)
below_32 (negsuc a) k is = let same : k ≡ 31 - a % 32 = ap unsigned_abs is in omega (arith, same)

pub below_64 : (z : ℤ) (k : ℕ) → pos k ≡ int_rem_euclid z (pos 64) → k % 64 ≡ k
below_64 (pos a) k is = let same : k ≡ a % 64 = ap unsigned_abs is in omega (arith, same)
below_64 (negsuc a) k is = let same : k ≡ 63 - a % 64 = ap unsigned_abs is in omega (arith, same)

pub shifted_is : (operator : Shift) (t : IntType) (left count : Word) (z : ℤ) (k : ℕ) → z ≡ number_at t left → pos k ≡ int_rem_euclid (number_of count) (pos (bit_count_of t)) → k % bit_count_of t ≡ k → word_at t (shifted_by operator t z (k % bit_count_of t)) ≡ shifted operator t left count
shifted_is operator t left count z k at is small =
    ap (λ (y : ℤ). word_at t (shifted_by operator t y (k % bit_count_of t))) at
    ∙ ap (λ (m : ℕ). word_at t (shifted_by operator t (number_at t left) m)) (small ∙ ap unsigned_abs is)
