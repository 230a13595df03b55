use Rattle.std.proofs.Common.{◌≡◌, get_or, sym, ◌∙◌, true, arith, rules}
use Rattle.ash_lines.specs.Lines.{number_of, is_number}
use Rattle.ash_lines.proofs.NumberLemmas.{number-parts, digit-at, below-step, value-step, value-end, tens-most}
use Rattle.ash_lines.proofs.NumberLemmas.{some_number}
use Rattle.ash_lines.proofs.number.parse_number.Goals as goal

pub returns-then-not-is_number-clause-value : goal.returns-then-not-is_number-clause-value
unfolding number_of
returns-then-not-is_number-clause-value c = let e = sym c.is_number.ensures.digits in search rules

pub overflow_mul-number : goal.overflow_mul-number
overflow_mul-number c =
    let p = number-parts c.args.word.now (sym c.is_number.ensures.digits ∙ c.if-not-is_number.false) in
    let d = digit-at c.args.word.now c.loop-i.i p.1 c.loop-i-test.true in
    let b = below-step c.loop-i.number (get_or c.args.word.now c.loop-i.i 0) c.loop-i.i c.loop-i.invariant.small d.1 (omega arith) in
    omega (arith, b.1)

pub overflow_add-number : goal.overflow_add-number
overflow_add-number c =
    let p = number-parts c.args.word.now (sym c.is_number.ensures.digits ∙ c.if-not-is_number.false) in
    let d = digit-at c.args.word.now c.loop-i.i p.1 c.loop-i-test.true in
    let b = below-step c.loop-i.number (get_or c.args.word.now c.loop-i.i 0) c.loop-i.i c.loop-i.invariant.small d.1 (omega arith) in
    omega (arith, b.1)

pub loop-i-preserved : goal.loop-i-preserved
loop-i-preserved c =
    let p = number-parts c.args.word.now (sym c.is_number.ensures.digits ∙ c.if-not-is_number.false) in
    let d = digit-at c.args.word.now c.loop-i.i p.1 c.loop-i-test.true in
    let b = below-step c.loop-i.number (get_or c.args.word.now c.loop-i.i 0) c.loop-i.i c.loop-i.invariant.small d.1 (omega arith) in
    record {
      value = rw c.from.ensures (sym (value-step c.args.word.now c.loop-i.i c.loop-i.number c.loop-i-test.true) ∙ c.loop-i.invariant.value);
      small = rw c.from.ensures b.0;
    }

pub returns-clause-value : goal.returns-clause-value
unfolding number_of
returns-clause-value c =
    let e : is_number c.args.word.now ≡ true = sym c.is_number.ensures.digits ∙ c.if-not-is_number.false in
    let v = sym (value-end c.args.word.now c.loop-i.i c.loop-i.number c.loop-i-test.false) ∙ c.loop-i.invariant.value in
    some_number c.args.word.now c.loop-i.number e v

pub returns-clause-bound : goal.returns-clause-bound
returns-clause-bound c =
    let p = number-parts c.args.word.now (sym c.is_number.ensures.digits ∙ c.if-not-is_number.false) in
    let m = tens-most c.loop-i.i (omega (arith, p.0)) in
    omega (arith, m, c.loop-i.invariant.small)
