-- Operators give words of their types.
use Rattle.std.proofs.Common.{◌≡◌, ◌⊎◌, inl, inr, ℤ, pos, negsuc, ◌+ℤ◌, ◌-ℤ◌, ◌*ℤ◌, int_div, int_rem, List, ℕ, refl, subst}
use Rattle.std.specs.Prelude.{Result, Ok, Err, Some}
use Rattle.ash_host.specs.declared.word.Word.{Word}
use Rattle.ash_host.specs.Objects.{LiveObjects, handle}
use Rattle.ash_integers.specs.declared.arithmetic.DivisionFault.{DivisionFault}
use Rattle.ash_integers.specs.declared.arithmetic.DivisionFault.TheVariants as faults
use Rattle.ash_integers.specs.declared.shift.Shift.TheVariants as shifts
use Rattle.ash_integers.specs.Integers as integers
use Rattle.ash_integers.specs.Integers.{in_word}
use Rattle.ash_integers.specs.declared.int_type.IntType.{IntType}
use Rattle.ash_integers.specs.declared.int_type.IntType.TheVariants as ints
use Rattle.ash_typed.specs.declared.types.VarType.{VarType}
use Rattle.ash_typed.specs.declared.types.VarType.TheVariants as vars
use Rattle.ash_typed.specs.declared.tree.operations.Calculator.{Calculator}
use Rattle.ash_typed.specs.declared.tree.operations.Calculator.TheVariants as calculators
use Rattle.ash_typed.specs.declared.tree.operations.Calculation.{Calculation}
use Rattle.ash_typed.specs.declared.tree.operations.Change.{Change}
use Rattle.ash_typed.specs.declared.tree.operations.IncrementOp.{IncrementOp}
use Rattle.ash_typed.specs.declared.tree.operations.IncrementOp.TheVariants as steps
use Rattle.ash_typed.specs.SoundOperations.{IsShift, IsSoundChange, negate, complement, not}
use Rattle.ash_meaning.specs.Activity.{Activity}
use Rattle.ash_meaning.specs.OperatorMeaning.{word_at, zero_of, calculated_by, give_or_raise, calculate, altered, counted, given_by}
use Rattle.ash_meaning.specs.Classes.{Program}
use Rattle.ash_soundness.specs.WellFormed.{Context, to_nothing, IsInRange, IsInteger, int, uint, int64, uint64, IsValue, is_truth, is_integer, is_object, is_handle, IsSafe}
use Rattle.ash_soundness.specs.WellFormedLaws.{Leaves, done, ended}
use Rattle.ash_soundness.proofs.Values.{integer_is_none}
use Rattle.ash_soundness.proofs.Ranges.{reduced_in, and_in, or_in, xor_in, shifted_in, quotient_in, remainder_in}
use Rattle.ash_soundness.proofs.Triples.{weaken}

same_Ok : {A E : Type 0} (x y : A) → ◌≡◌ {A = Result A E} (Ok x) (Ok y) → x ≡ y
same_Ok x y e = cc

integer_at : (int_type : IntType) (z : ℤ) → IsInRange int_type z → IsInteger int_type (integers.word_at int_type z)
integer_at ints.Int z f = int f
integer_at ints.Uint (pos n) f = uint f
integer_at ints.Uint (negsuc n) f = absurd f
integer_at ints.Int64 z f = int64 f
integer_at ints.Uint64 (pos n) f = uint64 f
integer_at ints.Uint64 (negsuc n) f = absurd f

number_in : {int_type : IntType} {w : Word} → IsInteger int_type w → IsInRange int_type (integers.number_at int_type w)
number_in (int f) = f
number_in (uint f) = f
number_in (int64 f) = f
number_in (uint64 f) = f

pub integer_word : (int_type : IntType) (z : ℤ) → IsInteger int_type (word_at int_type z)
integer_word int_type z = integer_at int_type (integers.reduced int_type z) (reduced_in int_type z)

pub zero_value : {p : Program} {all : LiveObjects (List ℕ)} (of : VarType) → IsValue p all of (zero_of of)
zero_value vars.Bool = is_truth
zero_value (vars.Integer int_type) = is_integer (integer_word int_type (pos 0))
zero_value (vars.Object o) = is_object to_nothing
zero_value (vars.Handle o) = is_handle to_nothing

-- operators of two operands

in_word_integer : (int_type : IntType) (r : Result ℤ DivisionFault) (w : Word) → ((z : ℤ) → r ≡ Ok z → IsInRange int_type z) → in_word int_type r ≡ Ok w → IsInteger int_type w
in_word_integer int_type (Ok z) w within e = subst (IsInteger int_type) (same_Ok (integers.word_at int_type z) w e) (integer_at int_type z (within z refl))
in_word_integer int_type (Err fault) w within e = absurd (cc)

given_integer_at : (int_type : IntType) (z : ℤ) (w : Word) → IsInRange int_type z → ◌≡◌ {A = Result Word DivisionFault} (Ok (integers.word_at int_type z)) (Ok w) → IsInteger int_type w
given_integer_at int_type z w f e = subst (IsInteger int_type) (same_Ok (integers.word_at int_type z) w e) (integer_at int_type z f)

module _ (int_type : IntType) (left right w : Word) (l : IsInteger int_type left) where
  abbrev x : ℤ
  x = integers.number_at int_type left

  abbrev y : ℤ
  y = integers.number_at int_type right

  calculated_integer : (operator : Calculator) → IsShift operator ⊎ IsInteger int_type right → calculated_by operator int_type left right ≡ Ok w → IsInteger int_type w
  calculated_integer calculators.Multiply r e = given_integer_at int_type _ w (reduced_in int_type (x *ℤ y)) e
  calculated_integer calculators.Divide (inr r) e = in_word_integer int_type (integers.divided int_type x y (int_div x y)) w (λ z is. quotient_in int_type x y z (number_in l) (number_in r) is) e
  calculated_integer calculators.Remainder r e = in_word_integer int_type (integers.divided int_type x y (int_rem x y)) w (λ z is. remainder_in int_type x y z (number_in l) is) e
  calculated_integer calculators.Add r e = given_integer_at int_type _ w (reduced_in int_type (x +ℤ y)) e
  calculated_integer calculators.Subtract r e = given_integer_at int_type _ w (reduced_in int_type (x -ℤ y)) e
  calculated_integer calculators.ShiftLeft r e = given_integer_at int_type _ w (shifted_in shifts.Left int_type x (integers.count_of int_type (integers.number_of right)) (number_in l)) e
  calculated_integer calculators.ShiftRight r e = given_integer_at int_type _ w (shifted_in shifts.Right int_type x (integers.count_of int_type (integers.number_of right)) (number_in l)) e
  calculated_integer calculators.ShiftRightArithmetic r e = given_integer_at int_type _ w (shifted_in shifts.RightArithmetic int_type x (integers.count_of int_type (integers.number_of right)) (number_in l)) e
  calculated_integer calculators.BitAnd (inr r) e = given_integer_at int_type _ w (and_in int_type x y (number_in l) (number_in r)) e
  calculated_integer calculators.BitXor (inr r) e = given_integer_at int_type _ w (xor_in int_type x y (number_in l) (number_in r)) e
  calculated_integer calculators.BitOr (inr r) e = given_integer_at int_type _ w (or_in int_type x y (number_in l) (number_in r)) e
  calculated_integer calculators.Divide (inl s) e = elim s [ ]
  calculated_integer calculators.BitAnd (inl s) e = elim s [ ]
  calculated_integer calculators.BitXor (inl s) e = elim s [ ]
  calculated_integer calculators.BitOr (inl s) e = elim s [ ]

module _ {c : Context} (a : Activity) (s : IsSafe c a) where
  result_given : (r : Result Word DivisionFault) → Leaves c (λ w b. (b ≡ a) × (r ≡ Ok w)) (give_or_raise r a)
  result_given (Ok w) = done (refl, refl)
  result_given (Err faults.ByZero) = ended s
  result_given (Err faults.Overflow) = ended s

  -- what is calculated is of the calculation's type
  pub calculate_gives : (calculation : Calculation) (left right : Word) → IsInteger calculation.of left → IsShift calculation.operator ⊎ IsInteger calculation.of right → Leaves c (λ w b. (b ≡ a) × IsInteger calculation.of w) (calculate calculation left right a)
  calculate_gives calculation left right l r =
      weaken (λ w b q. (q.0, calculated_integer calculation.of left right w l calculation.operator r q.1)) (result_given (calculated_by calculation.operator calculation.of left right))

-- operators of one operand

pub altered_value : {p : Program} {all : LiveObjects (List ℕ)} {change : Change} {of : VarType} (w : Word) → IsSoundChange change of → IsValue p all of (altered change w)
altered_value w (negate {int_type} signed) = is_integer (integer_word int_type _)
altered_value w (complement {int_type}) = is_integer (integer_word int_type _)
altered_value w not = is_truth

pub altered_is_none : {change : Change} {of : VarType} (n : ℕ) (w : Word) → IsSoundChange change of → handle (altered change w) ≡ Some n → ⊥
altered_is_none n w (negate {int_type} signed) e = integer_is_none n (integer_word int_type _) e
altered_is_none n w (complement {int_type}) e = integer_is_none n (integer_word int_type _) e
altered_is_none n w not e = cc

pub counted_integer : (step : IncrementOp) (int_type : IntType) (w : Word) → IsInteger int_type (counted step int_type w)
counted_integer steps.Increment int_type w = integer_word int_type _
counted_integer steps.IncrementAfter int_type w = integer_word int_type _
counted_integer steps.Decrement int_type w = integer_word int_type _
counted_integer steps.DecrementAfter int_type w = integer_word int_type _

pub given_integer : (step : IncrementOp) {int_type : IntType} {old new : Word} → IsInteger int_type old → IsInteger int_type new → IsInteger int_type (given_by step old new)
given_integer steps.Increment old new = new
given_integer steps.Decrement old new = new
given_integer steps.IncrementAfter old new = old
given_integer steps.DecrementAfter old new = old
