use Rattle.std.proofs.Common.{◌≡◌, ◌<◌, ℕ, ◌∙◌, arith, subst, sym}
use Rattle.ash_compile.specs.declared.layout.Layout.{Layout}
use Rattle.ash_compile.specs.Layout.{IsLayout}
use Rattle.ash_compile.proofs.Emitted.{if_ok}
use Rattle.ash_compile.proofs.EmittedCalls as emitted
use Rattle.ash_compile.proofs.builder.CodeBuilder.construct_array.Goals as goal

pub returns-then-count-eq0 : goal.returns-then-count-eq0
returns-then-count-eq0 c = record {
  emits = if_ok c.put.result
      (λ u puts start ps es first long.
      emitted.empty_array start c.args.self.now c.put.new.self c.args.of c.element-element.result ps es c.args.slot first
      (long ∙ c.if-count-eq0.true) (λ names number p is.
      c.element-element.ensures.element names number p
      (subst (λ (l : Layout). IsLayout number p.tree l) (sym c.layout.ensures.layout) is)) puts)
      c.put.ensures.puts;
}

pub returns-else-count-eq0 : goal.returns-else-count-eq0
returns-else-count-eq0 c = record {
  emits = if_ok c.put-else-count-eq0.result
      (λ u puts start ps es first long.
      emitted.sized_array start c.args.self.now c.put-else-count-eq0.new.self c.args.of c.element-element.result ps es
      c.args.slot first (some long c.if-count-eq0.false) (λ names number p is.
      c.element-element.ensures.element names number p
      (subst (λ (l : Layout). IsLayout number p.tree l) (sym c.layout.ensures.layout) is)) puts)
      c.put-else-count-eq0.ensures.puts;
}
  where
    some : {m n : ℕ} → m ≡ n → (n ≡ 0 → ⊥) → 0 < m
    some {m} {n} is none = omega arith
