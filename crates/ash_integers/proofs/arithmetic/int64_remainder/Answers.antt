use Rattle.std.proofs.Common.{Ok, ap, ◌∙◌}
use Rattle.std.specs.Prelude.{int_rem}
use Rattle.std.specs.Int.{w64}
use Rattle.std.proofs.lemmas.Int.{rem_is}
use Rattle.ash_integers.proofs.Division.{divided_int64}
use Rattle.ash_integers.proofs.arithmetic.int64_remainder.Goals as goal

pub returns-else-right-eqminus1 : goal.returns-else-right-eqminus1
returns-else-right-eqminus1 c = record {
  value =
      ap Ok (rem_is w64 c.args.left c.args.right c.ranges.left c.ranges.right)
      ∙ divided_int64 c.args.left c.args.right (int_rem c.args.left c.args.right) c.if-right-eq0.false c.else-right-eqminus1.either;
}
