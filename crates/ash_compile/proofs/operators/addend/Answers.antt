use Rattle.std.proofs.Common.{ℤ, sym, subst, rules, to_z, of_z}
use Rattle.std.specs.Int.{w32}
use Rattle.std.proofs.lemmas.Int.{to_z-of_z}
use Rattle.std.proofs.lemmas.Option.{IfSome_then}
use mir.Val.{SFits}
use Rattle.ash_integers.specs.declared.int_type.IntType.{IntType}
use Rattle.ash_typed.specs.TypedTreeViews.{expr_of}
use Rattle.ash_compile.specs.Operands.{IsInt, AddsTo}
use Rattle.ash_compile.proofs.operators.addend.Goals as goal

pub returns-in-Int : goal.returns-in-Int
returns-in-Int c =
    let e = expr_of c.args.right.now in
    let f : SFits w32 c.in_ok-number.number = search rules in
    let is : IsInt e (to_z w32 (of_z w32 c.in_ok-number.number))
    = subst (λ (z : ℤ). IsInt e z) (sym (to_z-of_z w32 c.in_ok-number.number f)) c.in_ok-number.ensures.int in
    record {
      adds = IfSome_then c.added.result c.added.ensures.adds (λ sum adds.
          subst (λ (t : IntType). AddsTo (record { operator = c.args.calculation.operator; of = t }) e sum)
          (sym c.in-Int.is) (AddsTo.adds_to (adds e is)));
    }
