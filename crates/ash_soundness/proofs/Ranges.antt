-- Operators give numbers in the range of their types.
use Rattle.std.proofs.Common.{◌≡◌, ◌<◌, ◌≤◌, ◌-◌, ◌*◌, ◌/◌, ◌^◌, ◌==◌, ℕ, zero, suc, ℤ, pos, negsuc, neg_ℤ, Bool, true, false, ◌≢◌, refl, subst, bit_and, bit_or, bit_xor, int_div, int_rem, if◌then◌else◌, arith, mod-lt, div-mul-le_self, mul-le-mul_left, div-le_self}
use Rattle.std.specs.Prelude.{Result, Ok, Err}
use Rattle.std.specs.Int.{w32, w64, cast_signed, cast_unsigned, int_shr}
use Rattle.std.proofs.lemmas.Int.{SFits-int_wrap}
use Rattle.std.proofs.lemmas.Bool.{eq-eqb}
use borrow.Author.Gap.{read_sfits}
use lib.Signed.{mag, mag_rem, mag_shr}
use lib.Bits.{or_lt, xor_lt, and_lt}
use Rattle.ash_integers.specs.declared.arithmetic.DivisionFault.{DivisionFault}
use Rattle.ash_integers.specs.declared.arithmetic.DivisionFault.TheVariants as faults
use Rattle.ash_integers.specs.declared.int_type.IntType.{IntType}
use Rattle.ash_integers.specs.declared.int_type.IntType.TheVariants as ints
use Rattle.ash_integers.specs.declared.shift.Shift.{Shift}
use Rattle.ash_integers.specs.declared.shift.Shift.TheVariants as shifts
use Rattle.ash_integers.specs.Integers.{bit_count_of, reduced, bits_of, from_bits, divided, shifted_by}
use Rattle.ash_soundness.specs.WellFormed.{IsInRange}

-- bits

pub reduced_in : (int_type : IntType) (z : ℤ) → IsInRange int_type (reduced int_type z)
reduced_in ints.Int z = SFits-int_wrap w32 z
reduced_in ints.Uint (pos a) = omega arith
reduced_in ints.Uint (negsuc a) = omega arith
reduced_in ints.Int64 z = SFits-int_wrap w64 z
reduced_in ints.Uint64 (pos a) = omega arith
reduced_in ints.Uint64 (negsuc a) = omega arith

pub from_bits_in : (int_type : IntType) (n : ℕ) → n < 2 ^ bit_count_of int_type → IsInRange int_type (from_bits int_type n)
from_bits_in ints.Int n h = read_sfits w32 n
from_bits_in ints.Uint n h = h
from_bits_in ints.Int64 n h = read_sfits w64 n
from_bits_in ints.Uint64 n h = h

pub bits_in : (int_type : IntType) (z : ℤ) → IsInRange int_type z → bits_of int_type z < 2 ^ bit_count_of int_type
bits_in ints.Int (pos n) f = let within : n < 2 ^ 31 = f.sfits in omega arith
bits_in ints.Int (negsuc n) f = omega arith
bits_in ints.Uint (pos n) f = f
bits_in ints.Uint (negsuc n) f = absurd f
bits_in ints.Int64 (pos n) f = let within : n < 2 ^ 63 = f.sfits in omega arith
bits_in ints.Int64 (negsuc n) f = omega arith
bits_in ints.Uint64 (pos n) f = f
bits_in ints.Uint64 (negsuc n) f = absurd f

module _ (int_type : IntType) (x y : ℤ) (f : IsInRange int_type x) (g : IsInRange int_type y) where
  pub and_in : IsInRange int_type (from_bits int_type (bit_and (bits_of int_type x) (bits_of int_type y)))
  and_in = from_bits_in int_type _ (and_lt (bit_count_of int_type) (bits_of int_type x) (bits_of int_type y) (bits_in int_type x f) (bits_in int_type y g))

  pub or_in : IsInRange int_type (from_bits int_type (bit_or (bits_of int_type x) (bits_of int_type y)))
  or_in = from_bits_in int_type _ (or_lt (bit_count_of int_type) (bits_of int_type x) (bits_of int_type y) (bits_in int_type x f) (bits_in int_type y g))

  pub xor_in : IsInRange int_type (from_bits int_type (bit_xor (bits_of int_type x) (bits_of int_type y)))
  xor_in = from_bits_in int_type _ (xor_lt (bit_count_of int_type) (bits_of int_type x) (bits_of int_type y) (bits_in int_type x f) (bits_in int_type y g))

-- shifts

width_positive : (int_type : IntType) → 0 < 2 ^ bit_count_of int_type
width_positive ints.Int = omega arith
width_positive ints.Uint = omega arith
width_positive ints.Int64 = omega arith
width_positive ints.Uint64 = omega arith

below_32 : (z : ℤ) → mag z < 2 ^ 31 → cast_unsigned w32 z < 2 ^ 32
below_32 (pos n) h = omega arith
below_32 (negsuc n) h = omega arith

below_64 : (z : ℤ) → mag z < 2 ^ 63 → cast_unsigned w64 z < 2 ^ 64
below_64 (pos n) h = omega arith
below_64 (negsuc n) h = omega arith

shr_32 : (n k : ℕ) → cast_unsigned w32 (int_shr (cast_signed w32 n) k) < 2 ^ 32
shr_32 n k = below_32 (int_shr (cast_signed w32 n) k) (let within : mag (cast_signed w32 n) < 2 ^ 31 = (read_sfits w32 n).sfits in let less = mag_shr (cast_signed w32 n) (2 ^ k) in omega arith)

shr_64 : (n k : ℕ) → cast_unsigned w64 (int_shr (cast_signed w64 n) k) < 2 ^ 64
shr_64 n k = below_64 (int_shr (cast_signed w64 n) k) (let within : mag (cast_signed w64 n) < 2 ^ 63 = (read_sfits w64 n).sfits in let less = mag_shr (cast_signed w64 n) (2 ^ k) in omega arith)

shr_in : (int_type : IntType) (z : ℤ) (k : ℕ) → IsInRange int_type (shifted_by shifts.RightArithmetic int_type z k)
shr_in ints.Int z k = from_bits_in ints.Int _ (shr_32 (bits_of ints.Int z) k)
shr_in ints.Uint z k = shr_32 (bits_of ints.Uint z) k
shr_in ints.Int64 z k = from_bits_in ints.Int64 _ (shr_64 (bits_of ints.Int64 z) k)
shr_in ints.Uint64 z k = shr_64 (bits_of ints.Uint64 z) k

pub shifted_in : (s : Shift) (int_type : IntType) (z : ℤ) (k : ℕ) → IsInRange int_type z → IsInRange int_type (shifted_by s int_type z k)
shifted_in shifts.Left int_type z k f = from_bits_in int_type _ (mod-lt (bits_of int_type z * 2 ^ k) (width_positive int_type))
shifted_in shifts.Right int_type z k f = from_bits_in int_type _ (let bits = bits_in int_type z f in let less = div-le_self (bits_of int_type z) (2 ^ k) in omega arith)
shifted_in shifts.RightArithmetic int_type z k f = shr_in int_type z k

-- quotients and remainders

same_Ok : {A E : Type 0} (x y : A) → ◌≡◌ {A = Result A E} (Ok x) (Ok y) → x ≡ y
same_Ok x y e = cc

mag-neg : (r : ℕ) {a : ℕ} → r ≤ suc a → mag (neg_ℤ (pos r)) ≤ a
mag-neg zero h = omega arith
mag-neg (suc r) h = omega arith

halved : (a b : ℕ) → suc a / suc (suc b) ≤ a
halved a b =
    let q : ℕ = suc a / suc (suc b) in
    let whole : q * suc (suc b) ≤ suc a = div-mul-le_self (suc a) (suc (suc b)) in
    let more : q * 2 ≤ q * suc (suc b) = mul-le-mul_left q (omega arith) in
    omega arith

-- what is given where nothing is refused
least_given : (b : Bool) (answer z : ℤ) → ◌≡◌ {A = Result ℤ DivisionFault} (if b then Err faults.Overflow else Ok answer) (Ok z) → (b ≡ false) × (answer ≡ z)
least_given true answer z e = absurd (cc)
least_given false answer z e = (refl, same_Ok answer z e)

divided_is : (t : IntType) (x y answer z : ℤ) → divided t x y answer ≡ Ok z → answer ≡ z
divided_is t x (pos zero) answer z e = absurd (cc)
divided_is t x (pos (suc b)) answer z e = same_Ok answer z e
divided_is t (pos a) (negsuc zero) answer z e = same_Ok answer z e
divided_is t (negsuc a) (negsuc zero) answer z e = (least_given (a == 2 ^ (bit_count_of t - 1) - 1) answer z e).1
divided_is t (pos a) (negsuc (suc b)) answer z e = same_Ok answer z e
divided_is t (negsuc a) (negsuc (suc b)) answer z e = same_Ok answer z e

least_mag : (h a : ℕ) → a < h → (a == h - 1) ≡ false → suc a / 1 < h
least_mag h a m e =
    let other : a ≢ h - 1 = λ same. let yes = eq-eqb a (h - 1) same in cc in
    let less = div-le_self (suc a) 1 in
    omega arith

-- a quotient is no greater, but for that of the least number by -1, which is refused
quotient_mag : (t : IntType) (h : ℕ) (x y z : ℤ) → 2 ^ (bit_count_of t - 1) ≡ h → mag x < h → divided t x y (int_div x y) ≡ Ok z → mag z < h
quotient_mag t h x (pos zero) z half m e = absurd (cc)
quotient_mag t h (pos a) (pos (suc b)) z half m e = subst (λ (k : ℤ). mag k < h) (same_Ok (pos (a / suc b)) z e) (let less = div-le_self a (suc b) in omega arith)
quotient_mag t h (negsuc a) (pos (suc b)) z half m e = subst (λ (k : ℤ). mag k < h) (same_Ok (neg_ℤ (pos (suc a / suc b))) z e) (let less = mag-neg (suc a / suc b) {a = a} (div-le_self (suc a) (suc b)) in omega arith)
quotient_mag t h (pos a) (negsuc zero) z half m e = subst (λ (k : ℤ). mag k < h) (same_Ok (neg_ℤ (pos (a / 1))) z e) (let less = mag-neg (a / 1) {a = a} (let l = div-le_self a 1 in omega arith) in omega arith)
quotient_mag t h (negsuc a) (negsuc zero) z half m e =
    let given = least_given (a == 2 ^ (bit_count_of t - 1) - 1) (pos (suc a / 1)) z e in
    subst (λ (k : ℤ). mag k < h) given.1 (least_mag h a m (subst (λ (k : ℕ). (a == k - 1) ≡ false) half given.0))
quotient_mag t h (pos a) (negsuc (suc b)) z half m e = subst (λ (k : ℤ). mag k < h) (same_Ok (neg_ℤ (pos (a / suc (suc b)))) z e) (let less = mag-neg (a / suc (suc b)) {a = a} (let l = div-le_self a (suc (suc b)) in omega arith) in omega arith)
quotient_mag t h (negsuc a) (negsuc (suc b)) z half m e = subst (λ (k : ℤ). mag k < h) (same_Ok (pos (suc a / suc (suc b))) z e) (let less = halved a b in omega arith)

pub quotient_in : (int_type : IntType) (x y z : ℤ) → IsInRange int_type x → IsInRange int_type y → divided int_type x y (int_div x y) ≡ Ok z → IsInRange int_type z
quotient_in ints.Int x y z f g e = record { sfits = quotient_mag ints.Int (2 ^ 31) x y z refl f.sfits e }
quotient_in ints.Int64 x y z f g e = record { sfits = quotient_mag ints.Int64 (2 ^ 63) x y z refl f.sfits e }
quotient_in ints.Uint (pos a) (pos b) z f g e = subst (IsInRange ints.Uint) (divided_is ints.Uint (pos a) (pos b) (pos (a / b)) z e) (let less = div-le_self a b in omega arith)
quotient_in ints.Uint (pos a) (negsuc b) z f g e = absurd g
quotient_in ints.Uint (negsuc a) y z f g e = absurd f
quotient_in ints.Uint64 (pos a) (pos b) z f g e = subst (IsInRange ints.Uint64) (divided_is ints.Uint64 (pos a) (pos b) (pos (a / b)) z e) (let less = div-le_self a b in omega arith)
quotient_in ints.Uint64 (pos a) (negsuc b) z f g e = absurd g
quotient_in ints.Uint64 (negsuc a) y z f g e = absurd f

rem_in : (int_type : IntType) (x y : ℤ) → IsInRange int_type x → IsInRange int_type (int_rem x y)
rem_in ints.Int x y f = record { sfits = let within : mag x < 2 ^ 31 = f.sfits in let less = mag_rem x y in omega arith }
rem_in ints.Int64 x y f = record { sfits = let within : mag x < 2 ^ 63 = f.sfits in let less = mag_rem x y in omega arith }
rem_in ints.Uint (pos a) y f = let less = mag_rem (pos a) y in omega arith
rem_in ints.Uint (negsuc a) y f = absurd f
rem_in ints.Uint64 (pos a) y f = let less = mag_rem (pos a) y in omega arith
rem_in ints.Uint64 (negsuc a) y f = absurd f

pub remainder_in : (int_type : IntType) (x y z : ℤ) → IsInRange int_type x → divided int_type x y (int_rem x y) ≡ Ok z → IsInRange int_type z
remainder_in int_type x y z f e = subst (IsInRange int_type) (divided_is int_type x y (int_rem x y) z e) (rem_in int_type x y f)
