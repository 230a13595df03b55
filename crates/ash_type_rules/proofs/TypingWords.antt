-- The words of the typing rules, and those of the walk.
use Rattle.std.proofs.lemmas.Option.{none-some, same_Some}
use Rattle.std.proofs.Common.{◌≡◌, ℕ, IsOk, true, Some, Ok, Err, refl, sym, subst}
use Rattle.ash_tree.specs.declared.tree.operators.BinaryOp.{BinaryOp}
use Rattle.ash_type_rules.specs.declared.fault.Fault.{Fault}
use Rattle.ash_integers.specs.declared.int_type.IntType.{IntType}
use Rattle.ash_integers.specs.declared.int_type.IntType.TheVariants as ints
use Rattle.ash_type_rules.specs.declared.types.Ty.{Ty}
use Rattle.ash_type_rules.specs.declared.types.Ty.TheVariants as ty
use Rattle.ash_type_rules.specs.declared.forms.OperatorClass.{OperatorClass}
use Rattle.ash_type_rules.specs.declared.forms.OperatorClass.TheVariants as operator_class
use Rattle.ash_typed.specs.declared.tree.operations.Calculator.{Calculator}
use Rattle.ash_typed.specs.declared.tree.operations.Calculator.TheVariants as calculators
use Rattle.ash_typed.specs.declared.tree.operations.Operands.{Operands}
use Rattle.ash_typed.specs.declared.tree.operations.Operands.TheVariants as operands
use Rattle.ash_type_rules.specs.TypingResult.{TypingResult, ◌>>=◌}
use Rattle.ash_type_rules.specs.TypeRules.{is_same_integer_type, common_integer_type, operator_class_of, binary_of}
use Rattle.ash_type_rules.specs.TypeRules.{integers_in, common_operands, assumed_type}
use Rattle.ash_type_rules.specs.ExpressionRules.{adapted, unify_operands, placed, term_of}
use Rattle.ash_type_rules.specs.Typing.{is_known, AreUnified, right_of}
use Rattle.ash_type_rules.specs.Terms.{Term, adapted_to, converted_to, right_by}

-- answers

pub no_fault : {A : Type 0} (f : Fault) (x : A) → ◌≡◌ {A = TypingResult A} (Err f) (Ok x) → ⊥
no_fault f x h = cc

pub same_ok : {A : Type 0} (x y : A) → ◌≡◌ {A = TypingResult A} (Ok x) (Ok y) → x ≡ y
same_ok x y h = cc

pub bind_ok : {A B : Type 0} (o : TypingResult A) (f : A → TypingResult B) (y : B) → (o >>= f) ≡ Ok y
    → (x : A) × (o ≡ Ok x) × (f x ≡ Ok y)
bind_ok (Ok x) f y h = (x, refl, h)
bind_ok (Err e) f y h = absurd (no_fault e y h)

pub bound : {A B : Type 0} (o : TypingResult A) (f : A → TypingResult B) (x : A) (r : TypingResult B) → o ≡ Ok x
    → f x ≡ r
    → (o >>= f) ≡ r
bound o f x r e h = subst (λ (m : TypingResult _). (m >>= f) ≡ r) (sym e) h

-- an answer without a fault
pub answered : {A : Type 0} (r : TypingResult A) {Q : Type 0} → IsOk r → ((x : A) → r ≡ Ok x → Q) → Q
answered (Ok x) h go = go x refl
answered (Err f) h go = cc

pub no_fault_at : {A : Type 0} (r : TypingResult A) (x : A) → r ≡ Ok x → IsOk r
no_fault_at r x h = subst (λ (r : TypingResult _). IsOk r) (sym h) refl

-- integer types

pub same_integer_type : (k : IntType) → is_same_integer_type k k ≡ true
same_integer_type ints.Int = refl
same_integer_type ints.Uint = refl
same_integer_type ints.Int64 = refl
same_integer_type ints.Uint64 = refl

pub unconverted : (k : IntType) (t : Term) → t.ty ≡ ty.Integer k → converted_to (ty.Integer k) t ≡ t.tree
unconverted k t h = rw h (rw (same_integer_type k) refl)

-- operands

pub adapted_is : (s : OperatorClass) (other t : Term) (at : ℕ)
    → adapted s other.form other.ty (placed at t) ≡ placed at (adapted_to s other t)
unfolding adapted
adapted_is s other t at = refl

pub known_assumed : (s : OperatorClass) (adapted_to of : Ty) → is_known of ≡ true → assumed_type s adapted_to of ≡ of
known_assumed operator_class.Equality ty.Bool ty.Unknown h = cc
known_assumed operator_class.Identity adapted_to ty.Unknown h = cc
known_assumed operator_class.Logic adapted_to ty.Unknown h = cc
known_assumed s adapted_to ty.Unknown h = cc
known_assumed s adapted_to of h = refl

pub common_assumed : (s : OperatorClass) (x y : Ty) (o : Operands) → common_operands s x y ≡ Some o
    → common_operands s (assumed_type s y x) (assumed_type s x y) ≡ Some o
common_assumed operator_class.Identity ty.Unknown ty.Unknown o h = h
common_assumed operator_class.Identity x ty.Unknown o h = h
common_assumed operator_class.Identity x y o h = h
common_assumed s ty.Unknown y o h = absurd (none-some o h)
common_assumed s x ty.Unknown o h = absurd (none-some o h)
common_assumed s x y o h = h

-- what calculates takes integers

same_integers : (k : IntType) (o : Operands) → Some (operands.Integers k) ≡ Some o
    → o ≡ operands.Integers (integers_in o)
same_integers k o h =
    subst (λ (x : Operands). x ≡ operands.Integers (integers_in x)) (same_Some (operands.Integers k) o h) refl

pub arithmetic_integers : (x y : Ty) (o : Operands) → common_operands operator_class.Arithmetic x y ≡ Some o
    → o ≡ operands.Integers (integers_in o)
arithmetic_integers (ty.Integer j) (ty.Integer k) o h = same_integers (common_integer_type j k) o h
arithmetic_integers _ _ o h = absurd (none-some o h)

pub shift_integers : (x y : Ty) (o : Operands) → common_operands operator_class.Shift x y ≡ Some o
    → o ≡ operands.Integers (integers_in o)
shift_integers (ty.Integer j) (ty.Integer k) o h = same_integers j o h
shift_integers _ _ o h = absurd (none-some o h)

pub calculated_integers : (c : Calculator) (x y : Ty) (o : Operands)
    → common_operands (operator_class_of (binary_of c)) x y ≡ Some o
    → o ≡ operands.Integers (integers_in o)
calculated_integers calculators.Multiply x y o h = arithmetic_integers x y o h
calculated_integers calculators.Divide x y o h = arithmetic_integers x y o h
calculated_integers calculators.Remainder x y o h = arithmetic_integers x y o h
calculated_integers calculators.Add x y o h = arithmetic_integers x y o h
calculated_integers calculators.Subtract x y o h = arithmetic_integers x y o h
calculated_integers calculators.ShiftLeft x y o h = shift_integers x y o h
calculated_integers calculators.ShiftRight x y o h = shift_integers x y o h
calculated_integers calculators.ShiftRightArithmetic x y o h = shift_integers x y o h
calculated_integers calculators.BitAnd x y o h = arithmetic_integers x y o h
calculated_integers calculators.BitXor x y o h = arithmetic_integers x y o h
calculated_integers calculators.BitOr x y o h = arithmetic_integers x y o h

pub right_is : (s : OperatorClass) (o : Operands) (b : ℕ) (u : Term)
    → right_by s o (term_of (placed b u)) ≡ right_by s o u
right_is operator_class.Shift o b u = refl
right_is _ o b u = refl

pub unified_is : (op : BinaryOp) (t u : Term) (o : Operands) (a b : ℕ) → AreUnified op t u o
    → unify_operands op (placed a t) (placed b u)
    ≡ Ok (record { left = placed a (adapted_to (operator_class_of op) u t); operands = o; right = right_of op o t u })
unfolding unify_operands
unified_is op t u o a b h =
    rw (
      adapted_is (operator_class_of op) u t a,
      adapted_is (operator_class_of op) t u b,
      common_assumed (operator_class_of op) (adapted_to (operator_class_of op) u t).ty (adapted_to (operator_class_of op) t u).ty o h,
      right_is (operator_class_of op) o b (adapted_to (operator_class_of op) t u),
    ) refl
