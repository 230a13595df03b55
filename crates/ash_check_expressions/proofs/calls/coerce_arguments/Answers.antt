use Rattle.std.proofs.Common.{◌≡◌, ◌≤◌, ◌∷◌, None, Some, sym, ap, ◌∙◌, map, length, arith}
use Rattle.std.proofs.lemmas.List.{length-map}
use Rattle.std.proofs.lemmas.Result.{err_from_is_err_and}
use Rattle.std.specs.Vec.Iter.{into_iter_items}
use Rattle.ash_typed.specs.TypedTreeViews.{expr_of}
use Rattle.ash_check_names.specs.EnvironmentViews.{parameters_of, classes_of, first_and_rest}
use Rattle.ash_check_expressions.specs.TypedExprViews.{typed_of}
use Rattle.ash_check_expressions.proofs.Loops.{no_argument, no_parameter, stops, goes_on}
use Rattle.ash_check_expressions.proofs.calls.coerce_arguments.Goals as goal

pub returns-in_default : goal.returns-in_default
returns-in_default c = record {
  agrees =
      let none : first_and_rest (parameters_of c.loop-argument.rest) ≡ None = sym c.in_default.ensures.first_and_others in
      sym c.loop-argument.invariant ∙ no_parameter (classes_of c.args.env.now) (map expr_of c.loop-argument.coerced.items) (parameters_of c.loop-argument.rest) (map typed_of (into_iter_items c.loop-argument.argument-iterator)) none;
}

pub returns-in_err-coerce_for_assignment : goal.returns-in_err-coerce_for_assignment
returns-in_err-coerce_for_assignment c = record {
  agrees =
      let p = err_from_is_err_and c.from_residual-in_err-coerce_for_assignment.result c.from_residual-in_err-coerce_for_assignment.ensures.1 in
      let split : first_and_rest (parameters_of c.loop-argument.rest) ≡ Some (c.in-Some-split_first.of, parameters_of c.in-Some-split_first.others) = sym c.in-Some-split_first.ensures.first_and_others in
      let next : map typed_of (into_iter_items c.loop-argument.argument-iterator) ≡ typed_of c.in-Some.argument ∷ map typed_of (into_iter_items c.next.new.self) = ap (map typed_of) c.in-Some.ensures.steps.0 in
      rw (p.1, p.2) (stops (classes_of c.args.env.now) (map expr_of c.loop-argument.coerced.items) (parameters_of c.loop-argument.rest) _ _ _ _ _ c.in_err-coerce_for_assignment.field-0.0 _ split next c.in_err-coerce_for_assignment.ensures.fits_and_converted c.loop-argument.invariant);
}

pub loop-argument-preserved : goal.loop-argument-preserved
loop-argument-preserved c =
    let split : first_and_rest (parameters_of c.loop-argument.rest) ≡ Some (c.in-Some-split_first.of, parameters_of c.in-Some-split_first.others) = sym c.in-Some-split_first.ensures.first_and_others in
    let next : map typed_of (into_iter_items c.loop-argument.argument-iterator) ≡ typed_of c.in-Some.argument ∷ map typed_of (into_iter_items c.next.new.self) = ap (map typed_of) c.in-Some.ensures.steps.0 in
    goes_on (classes_of c.args.env.now) c.loop-argument.coerced.items c.in_ok-coerce_for_assignment.field-0 c.push.new.self.items (parameters_of c.loop-argument.rest) _ _ _ _ _ _ c.in_ok-push.ensures.items split next c.in_ok-coerce_for_assignment.ensures.fits_and_converted c.loop-argument.invariant

pub returns : goal.returns
returns c = record {
  agrees =
      let left = into_iter_items c.loop-argument.argument-iterator in
      let none : length (map typed_of left) ≤ 0 = omega (arith, length-map left typed_of, c.in-None.ensures.steps) in
      sym c.loop-argument.invariant ∙ no_argument (classes_of c.args.env.now) (map expr_of c.loop-argument.coerced.items) (parameters_of c.loop-argument.rest) (map typed_of left) none;
}
