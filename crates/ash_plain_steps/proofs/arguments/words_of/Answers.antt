use Rattle.std.proofs.Common.{◌≡◌, None, sym, ◌∙◌, arith}
use Rattle.std.specs.Prelude.{slice_get}
use Rattle.std.proofs.lemmas.Option.{slice_get_past}
use Rattle.ash_plain_steps.proofs.ArgumentLists.{no_parameter, too_few}
use Rattle.ash_plain_steps.proofs.arguments.words_of.Goals as goal

pub returns-in_default : goal.returns-in_default
returns-in_default c = record {
  value =
      let none : slice_get c.args.parameters.now c.loop-place.place ≡ None = slice_get_past c.args.parameters.now c.loop-place.place c.in_default.ensures.lookup.3 in
      sym (no_parameter c.loop-place.words.items c.args.parameters.now c.args.arguments.now c.loop-place.place none (omega (arith, c.loop-place-test.true)))
      ∙ c.loop-place.invariant;
}

pub returns-then-parameters-arguments : goal.returns-then-parameters-arguments
returns-then-parameters-arguments c = record {
  value =
      sym (too_few c.loop-place.words.items c.args.parameters.now c.args.arguments.now c.loop-place.place (omega (arith, c.loop-place-test.false)) (omega (arith, c.loop-place.auto.place-end, c.if-parameters-arguments.true)))
      ∙ c.loop-place.invariant;
}
