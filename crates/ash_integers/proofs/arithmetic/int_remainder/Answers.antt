use Rattle.std.proofs.Common.{Ok, ap, ◌∙◌}
use Rattle.std.specs.Prelude.{int_rem}
use Rattle.std.specs.Int.{w32}
use Rattle.std.proofs.lemmas.Int.{rem_is}
use Rattle.ash_integers.proofs.Division.{divided_int}
use Rattle.ash_integers.proofs.arithmetic.int_remainder.Goals as goal

pub returns-else-right-eqminus1 : goal.returns-else-right-eqminus1
returns-else-right-eqminus1 c = record {
  value =
      ap Ok (rem_is w32 c.args.left c.args.right c.ranges.left c.ranges.right)
      ∙ divided_int c.args.left c.args.right (int_rem c.args.left c.args.right) c.if-right-eq0.false c.else-right-eqminus1.either;
}
