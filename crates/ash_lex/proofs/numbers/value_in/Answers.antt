use Rattle.std.proofs.Common.{ap, ◌∙◌, ◌*◌, arith}
use Rattle.std.proofs.lemmas.List.{take_all}
use Rattle.ash_lex.specs.Bytes.{value_in}
use Rattle.ash_lex.proofs.Values.{value_in-more}
use Rattle.ash_lex.proofs.numbers.value_in.Goals as goal

-- the digits so far, times the base, are too much already
pub returns-in_default : goal.returns-in_default
returns-in_default c = record {
  value = λ small.
      c.in_default.ensures (omega (
        arith,
        ap (λ v. v * c.args.base) c.loop-digit.invariant.so_far,
        value_in-more c.args.base c.loop-digit.digit-index c.args.digits.now c.requires.base c.loop-digit-test.true,
      ));
}

-- with this digit they are too much
pub returns-in_default-checked_add : goal.returns-in_default-checked_add
returns-in_default-checked_add c = record {
  value = λ small.
      c.in_default-checked_add.ensures (omega (
        arith,
        c.in-Some.ensures,
        c.digit_value.ensures.value,
        ap (λ v. v * c.args.base) c.loop-digit.invariant.so_far,
        value_in-more c.args.base c.loop-digit.digit-index
            c.args.digits.now c.requires.base c.loop-digit-test.true,
      ));
}

-- all digits are read
pub returns : goal.returns
returns c =
    let whole =
    c.loop-digit.invariant.so_far ∙ ap (value_in c.args.base)
    (take_all c.loop-digit.digit-index c.args.digits.now (omega arith)) in
    record { value = (omega (arith, whole, c.loop-digit.invariant.fits), whole) }
