use Rattle.std.proofs.Common.{None, Some, ◌∙◌, ap, sym, slice_get}
use Rattle.std.specs.Option.{option_map}
use Rattle.ash_type_rules.specs.Environment.{is_called}
use Rattle.ash_check_names.specs.EnvironmentViews.{function_signature_of, placed_function}
use Rattle.ash_check_names.proofs.IndexLaws.{first_placed, place_mapped}
use Rattle.ash_check_names.proofs.signatures.Signatures.function.Goals as goal

pub returns-in_err-place : goal.returns-in_err-place
returns-in_err-place c = record {
  value =
      let name = c.args.name.now in
      let all = c.args.self.now.functions.items in
      let none = c.in_err-place.ensures.value ∙ c.args.self.now.functions_indexed name ∙ place_mapped name (λ x. x.name.now) all in
      ap (option_map placed_function) c.from_residual.ensures ∙ sym (first_placed (is_called name) function_signature_of all None none);
}

pub returns-in_err-function : goal.returns-in_err-function
returns-in_err-function c = record {
  value =
      let name = c.args.name.now in
      let all = c.args.self.now.functions.items in
      let place = c.in_ok-place.field-0.now in
      let first = c.in_ok-place.ensures.value ∙ c.args.self.now.functions_indexed name ∙ place_mapped name (λ x. x.name.now) all in
      let none = c.in_err-function.ensures.value ∙ ap (λ xs. slice_get xs place) c.deref.ensures.value in
      ap (option_map placed_function) c.from_residual-in_err-function.ensures ∙ ap (option_map (λ x. (place, function_signature_of x))) none ∙ sym (first_placed (is_called name) function_signature_of all (Some place) first);
}

pub returns : goal.returns
returns c = record {
  value =
      let name = c.args.name.now in
      let all = c.args.self.now.functions.items in
      let place = c.in_ok-place.field-0.now in
      let first = c.in_ok-place.ensures.value ∙ c.args.self.now.functions_indexed name ∙ place_mapped name (λ x. x.name.now) all in
      let there = c.in_ok-function.ensures.value ∙ ap (λ xs. slice_get xs place) c.deref.ensures.value in
      ap (option_map (λ x. (place, function_signature_of x))) there ∙ sym (first_placed (is_called name) function_signature_of all (Some place) first);
}
