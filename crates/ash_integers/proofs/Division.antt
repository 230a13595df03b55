-- A quotient or a remainder that is not refused: the divisor is not zero, and the least number is not divided by -1.
use Rattle.std.proofs.Common.{◌≡◌, ◌⊎◌, inl, inr, ℕ, zero, suc, Bool, true, false, refl, ap, Ok, Err, nat_eq}
use Rattle.std.specs.Prelude.{ℤ, pos, negsuc, if◌then◌else◌}
use Rattle.std.specs.Int.{w32, w64, cast_unsigned}
use Rattle.std.proofs.lemmas.Bool.{eqb-true}
use Rattle.ash_integers.specs.declared.int_type.IntType.TheVariants.{Int, Int64}
use Rattle.ash_integers.specs.declared.arithmetic.DivisionFault.TheVariants.{Overflow}
use Rattle.ash_integers.specs.Integers.{divided}

pub divided_int : (x y answer : ℤ) → (cast_unsigned w32 y ≡ 0 → ⊥) → ((cast_unsigned w32 y ≡ 4294967295) × (cast_unsigned w32 x ≡ 2147483648 → ⊥)) ⊎ (cast_unsigned w32 y ≡ 4294967295 → ⊥) → Ok answer ≡ divided Int x y answer
divided_int x (pos zero) answer some either = absurd (some refl)
divided_int x (pos (suc n)) answer some either = refl
divided_int (pos m) (negsuc (suc n)) answer some either = refl
divided_int (negsuc m) (negsuc (suc n)) answer some either = refl
divided_int (pos m) (negsuc zero) answer some either = refl
divided_int (negsuc m) (negsuc zero) answer some (inr other) = absurd (other refl)
divided_int (negsuc m) (negsuc zero) answer some (inl both) = go (nat_eq m 2147483647) refl
  where
    go : (b : Bool) → nat_eq m 2147483647 ≡ b → Ok answer ≡ (if b then Err Overflow else Ok answer)
    go true is = absurd (both.1 (ap (λ (k : ℕ). cast_unsigned w32 (negsuc k)) (eqb-true m 2147483647 is)))
    go false is = refl

pub divided_int64 : (x y answer : ℤ) → (cast_unsigned w64 y ≡ 0 → ⊥) → ((cast_unsigned w64 y ≡ 18446744073709551615) × (cast_unsigned w64 x ≡ 9223372036854775808 → ⊥)) ⊎ (cast_unsigned w64 y ≡ 18446744073709551615 → ⊥) → Ok answer ≡ divided Int64 x y answer
divided_int64 x (pos zero) answer some either = absurd (some refl)
divided_int64 x (pos (suc n)) answer some either = refl
divided_int64 (pos m) (negsuc (suc n)) answer some either = refl
divided_int64 (negsuc m) (negsuc (suc n)) answer some either = refl
divided_int64 (pos m) (negsuc zero) answer some either = refl
divided_int64 (negsuc m) (negsuc zero) answer some (inr other) = absurd (other refl)
divided_int64 (negsuc m) (negsuc zero) answer some (inl both) = go (nat_eq m 9223372036854775807) refl
  where
    go : (b : Bool) → nat_eq m 9223372036854775807 ≡ b → Ok answer ≡ (if b then Err Overflow else Ok answer)
    go true is = absurd (both.1 (ap (λ (k : ℕ). cast_unsigned w64 (negsuc k)) (eqb-true m 9223372036854775807 is)))
    go false is = refl
