use Rattle.std.proofs.Common.{◌≡◌, ℕ, ℤ, pos, IfSome, sym, subst}
use Rattle.std.specs.Prelude.{Option, Result, Ok, Err}
use Rattle.std.specs.Result.{result_ok, OkIff}
use Rattle.ash_integers.specs.declared.int_type.IntType.TheVariants as ints
use Rattle.ash_typed.specs.TypedTree.{Number}
use Rattle.ash_compile.specs.Operands.{IsInt}
use Rattle.ash_compile.proofs.operators.int_from.Goals as goal

int_of : {E : Type 0} (r : Result ℤ E) (o : Option ℤ) (P : Type 0) (n : ℕ) → o ≡ result_ok r → OkIff r P (pos n)
    → IfSome o (λ number. IsInt (Number ints.Int n) number)
int_of (Ok z) o P n is says =
    subst (λ (x : Option ℤ). IfSome x (λ number. IsInt (Number ints.Int n) number)) (sym is)
    (subst (λ (x : ℤ). IsInt (Number ints.Int n) x) (sym says.1) IsInt.int)
int_of (Err e) o P n is says =
    subst (λ (x : Option ℤ). IfSome x (λ number. IsInt (Number ints.Int n) number)) (sym is) tt

pub returns-in-Int : goal.returns-in-Int
returns-in-Int c = record {
  int = rw c.in-Int.is (int_of c.try_from.result c.ok.result _ c.args.value c.ok.ensures.value c.try_from.ensures);
}
