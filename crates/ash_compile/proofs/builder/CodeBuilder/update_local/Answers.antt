use Rattle.std.proofs.Common.{ℤ, sym, subst, rules, to_z, of_z}
use Rattle.std.specs.Int.{w32}
use Rattle.std.proofs.lemmas.Int.{to_z-of_z}
use mir.Val.{SFits}
use Rattle.ash_typed.specs.TypedTreeViews.{expr_of}
use Rattle.ash_compile.specs.Operands.{AddsTo}
use Rattle.ash_compile.proofs.Emitted.{if_ok}
use Rattle.ash_compile.proofs.EffectCode as effects
use Rattle.ash_compile.proofs.builder.CodeBuilder.update_local.Goals as goal

pub returns-in-Some : goal.returns-in-Some
returns-in-Some c =
    let right = expr_of c.args.value.now in
    let number = to_z w32 (of_z w32 c.in-Some.number) in
    let f : SFits w32 c.in-Some.number = search rules in
    let adds : AddsTo c.args.calculation right number
    = subst (λ (z : ℤ). AddsTo c.args.calculation right z) (sym (to_z-of_z w32 c.in-Some.number f)) c.in-Some.ensures.adds in
    record {
      emits = if_ok c.put.result
          (λ u puts place there.
          effects.add_effect c.args.self.now c.put.new.self place c.args.calculation right number c.args.local c.args.slot there
          puts adds)
          c.put.ensures.puts;
    }

pub returns-in_ok-right-in-None : goal.returns-in_ok-right-in-None
returns-in_ok-right-in-None c = record {
  emits = if_ok c.put-in-None.result
      (λ u puts place there.
      effects.update_effect c.args.self.now c.value.new.self c.put-in-None.new.self place c.args.calculation
      (expr_of c.args.value.now) c.args.local c.args.slot c.in_ok-right-in-None.right c.calculating.result there
      c.in_ok-right-in-None.ensures.emits puts c.calculating.ensures.calculates)
      c.put-in-None.ensures.puts;
}
