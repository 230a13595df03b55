use Rattle.std.proofs.Common.{◌≡◌, None, sym, ◌∙◌, arith}
use Rattle.std.specs.Prelude.{slice_get}
use Rattle.std.proofs.lemmas.Option.{slice_get_past}
use Rattle.ash_plain_steps.proofs.ArgumentLists.{none_there, as_many_held}
use Rattle.ash_plain_steps.proofs.arguments.are_held.Goals as goal

pub returns-in_default : goal.returns-in_default
returns-in_default c = record {
  value =
      let none : slice_get c.args.parameters.now c.loop-place.place ≡ None = slice_get_past c.args.parameters.now c.loop-place.place c.in_default.ensures.lookup.3 in
      sym (none_there c.args.parameters.now c.args.arguments.now c.loop-place.place none (omega (arith, c.loop-place-test.true)))
      ∙ c.loop-place.invariant;
}

pub returns : goal.returns
returns c = record {
  value =
      as_many_held c.args.parameters.now c.args.arguments.now c.loop-place.place (omega (arith, c.loop-place-test.false))
      ∙ c.loop-place.invariant;
}
