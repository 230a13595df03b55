use Rattle.std.proofs.Common.{◌≡◌, ◌+◌, sym, ◌∙◌, refl, subst, rules}
use Rattle.ash_integers.specs.declared.int_type.IntType.{IntType}
use Rattle.ash_typed.specs.TypedTree.{Update}
use Rattle.ash_compile.specs.Emission.{end_of}
use Rattle.ash_compile.specs.Operands.{EmitsEffect}
use Rattle.ash_typed.specs.TypedTreeViews.{expr_of, place_of}
use Rattle.ash_compile.proofs.Emitted.{if_ok}
use Rattle.ash_compile.proofs.EffectCode as effects
use Rattle.ash_compile.proofs.ValidJumps.{counts_stand}
use Rattle.ash_compile.proofs.builder.CodeBuilder.effect.Goals as goal

pub put-requires : goal.put-requires
put-requires c = record {
  stands = counts_stand c.args.self.now.layout (end_of c.args.self.now + 1) (end_of c.args.self.now)
      c.counting.ensures.counts;
}

pub returns-in-Some : goal.returns-in-Some
returns-in-Some c = record {
  emits = if_ok c.value_into.result
      (λ u into.
      effects.effect_of_kind c.args.self.now c.value_into.new.self c.args.expr.now.kind.value _ _ c.args.slot
      (sym c.deref.ensures ∙ c.in-Assign.is) refl
      (effects.assign_effect c.args.self.now c.value_into.new.self (place_of c.in-Assign.place)
      (expr_of c.in-Assign.value) c.in-Some.to c.args.slot c.in-Some.ensures.local into))
      c.value_into.ensures.emits;
}

pub returns-in-None : goal.returns-in-None
returns-in-None c = record {
  emits = if_ok c.expression.result
      (λ u emits. effects.plain_effect c.args.self.now c.expression.new.self (expr_of c.args.expr.now) c.args.slot emits)
      c.expression.ensures.emits;
}

pub returns-then-eq : goal.returns-then-eq
returns-then-eq c =
    let same : c.in-Update.of ≡ c.in-Update.calculation.of = search rules in
    let place = place_of c.in-Update.place in
    record {
      emits = if_ok c.update_local.result
          (λ u next.
          effects.effect_of_kind c.args.self.now c.update_local.new.self c.args.expr.now.kind.value _ _ c.args.slot
          (sym c.deref.ensures ∙ c.in-Update.is) refl
          (subst (λ (t : IntType). EmitsEffect c.args.self.now c.update_local.new.self
          (Update place t c.in-Update.calculation (expr_of c.in-Update.value)) c.args.slot) (sym same)
          (next place c.in-Some-local_in.ensures.local)))
          c.update_local.ensures.emits;
    }

pub returns-else-eq : goal.returns-else-eq
returns-else-eq c = record {
  emits = if_ok c.expression-else-eq.result
      (λ u emits. effects.plain_effect c.args.self.now c.expression-else-eq.new.self (expr_of c.args.expr.now) c.args.slot emits)
      c.expression-else-eq.ensures.emits;
}

pub returns-in-None-local_in : goal.returns-in-None-local_in
returns-in-None-local_in c = record {
  emits = if_ok c.expression-in-None-local_in.result
      (λ u emits. effects.plain_effect c.args.self.now c.expression-in-None-local_in.new.self (expr_of c.args.expr.now) c.args.slot emits)
      c.expression-in-None-local_in.ensures.emits;
}

pub returns-in-Some-local_in-2 : goal.returns-in-Some-local_in-2
returns-in-Some-local_in-2 c = record {
  emits = if_ok c.put.result
      (λ u puts.
      effects.effect_of_kind c.args.self.now c.put.new.self c.args.expr.now.kind.value _ _ c.args.slot
      (sym c.deref.ensures ∙ c.in-Step.is) refl
      (effects.count_effect c.args.self.now c.put.new.self (place_of c.in-Step.place) c.in-Step.of c.in-Step.step
      c.in-Some-local_in-2.to c.args.slot c.counting.result c.in-Some-local_in-2.ensures.local puts
      c.counting.ensures.counts))
      c.put.ensures.puts;
}

pub returns-in-None-local_in-2 : goal.returns-in-None-local_in-2
returns-in-None-local_in-2 c = record {
  emits = if_ok c.expression-in-None-local_in-2.result
      (λ u emits. effects.plain_effect c.args.self.now c.expression-in-None-local_in-2.new.self (expr_of c.args.expr.now) c.args.slot emits)
      c.expression-in-None-local_in-2.ensures.emits;
}

pub returns-in_default : goal.returns-in_default
returns-in_default c = record {
  emits = if_ok c.expression-in_default.result
      (λ u emits. effects.plain_effect c.args.self.now c.expression-in_default.new.self (expr_of c.args.expr.now) c.args.slot emits)
      c.expression-in_default.ensures.emits;
}
