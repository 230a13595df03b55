use Rattle.std.proofs.Common.{◌≡◌, ℕ, ℤ, pos, neg_ℤ, IfSome, refl, ap, ◌∙◌, subst, arith}
use Rattle.std.proofs.lemmas.Int.{ints as signed}
use Rattle.std.specs.Prelude.{Option, Some, None, ◌-ℤ◌}
use Rattle.std.specs.Option.{SomeIff}
use Rattle.std.specs.Int.{w32}
use Rattle.std.proofs.lemmas.Int.{to_z-of_z}
use Rattle.ash_integers.specs.declared.int_type.IntType.TheVariants as ints
use Rattle.ash_typed.specs.declared.tree.operations.Calculator.TheVariants as calculators
use Rattle.ash_typed.specs.TypedTree.{Expr, Number}
use Rattle.ash_compile.specs.Operands.{IsInt, Adds}
use Rattle.ash_compile.proofs.operators.added.Goals as goal

add_int : (e : Expr) (number : ℤ) → IsInt e number → Adds calculators.Add e number
add_int _ _ IsInt.int = Adds.adds

negated : (e : Expr) (number x : ℤ) → IsInt e number → x ≡ neg_ℤ number → Adds calculators.Subtract e x
negated _ _ x (IsInt.int {n = n}) is =
    subst (λ (z : ℤ). Adds calculators.Subtract (Number ints.Int n) z)
    (let same : pos 0 -ℤ pos n ≡ x = omega (arith, signed, is) in same) Adds.subtracts

negated_so : (o : Option ℤ) (P : Type 0) (m number : ℤ) → m ≡ number → SomeIff o P (neg_ℤ m)
    → IfSome o (λ sum. (e : Expr) → IsInt e number → Adds calculators.Subtract e sum)
negated_so None P m number same says = tt
negated_so (Some x) P m number same says = λ e is. negated e number x is (says.1 ∙ ap neg_ℤ same)

pub returns-in-Add : goal.returns-in-Add
returns-in-Add c = record {
  adds = λ e is. rw (c.in-Add.is, to_z-of_z w32 c.args.number c.ranges.number) (add_int e c.args.number is);
}

pub returns-in-Subtract : goal.returns-in-Subtract
returns-in-Subtract c = record {
  adds = rw c.in-Subtract.is
      (negated_so c.checked_neg.result _ _ c.args.number (to_z-of_z w32 c.args.number c.ranges.number)
      c.checked_neg.ensures);
}
