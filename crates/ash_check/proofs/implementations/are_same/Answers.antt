use Rattle.std.proofs.Common.{◌∙◌, sym}
use Rattle.std.proofs.lemmas.Option.{MatchOption-at_none}
use Rattle.ash_check.proofs.MethodLaws.{too_few}
use Rattle.ash_check.proofs.implementations.are_same.Goals as goal

pub returns-in_default : goal.returns-in_default
returns-in_default c = record {
  value =
      let none = MatchOption-at_none _ _ c.in_default.is c.split_first.ensures.cases in
      sym (too_few c.args.some.now c.loop-of.rest.now c.loop-of.of-index c.loop-of-test.true none) ∙ c.loop-of.invariant;
}
