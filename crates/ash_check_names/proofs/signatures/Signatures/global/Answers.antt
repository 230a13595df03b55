use Rattle.std.proofs.Common.{None, Some, ◌∙◌, ap, sym, slice_get}
use Rattle.std.specs.Option.{option_map}
use Rattle.ash_type_rules.specs.Environment.{declares}
use Rattle.ash_check_names.specs.EnvironmentViews.{binding_of, placed_type}
use Rattle.ash_check_names.proofs.IndexLaws.{first_placed, place_mapped}
use Rattle.ash_check_names.proofs.signatures.Signatures.global.Goals as goal

pub returns-in_err-place : goal.returns-in_err-place
returns-in_err-place c = record {
  value =
      let name = c.args.name.now in
      let all = c.args.self.now.globals.items in
      let none = c.in_err-place.ensures.value ∙ c.args.self.now.globals_indexed name ∙ place_mapped name (λ x. x.name.now) all in
      c.from_residual.ensures ∙ ap (option_map placed_type) (sym (first_placed (declares name) binding_of all None none));
}

pub returns-in_err-global : goal.returns-in_err-global
returns-in_err-global c = record {
  value =
      let name = c.args.name.now in
      let all = c.args.self.now.globals.items in
      let place = c.in_ok-place.field-0.now in
      let first = c.in_ok-place.ensures.value ∙ c.args.self.now.globals_indexed name ∙ place_mapped name (λ x. x.name.now) all in
      let none = c.in_err-global.ensures.value ∙ ap (λ xs. slice_get xs place) c.deref.ensures.value in
      c.from_residual-in_err-global.ensures ∙ ap (option_map placed_type) (ap (option_map (λ x. (place, binding_of x))) none ∙ sym (first_placed (declares name) binding_of all (Some place) first));
}

pub returns : goal.returns
returns c = record {
  value =
      let name = c.args.name.now in
      let all = c.args.self.now.globals.items in
      let place = c.in_ok-place.field-0.now in
      let first = c.in_ok-place.ensures.value ∙ c.args.self.now.globals_indexed name ∙ place_mapped name (λ x. x.name.now) all in
      let there = c.in_ok-global.ensures.value ∙ ap (λ xs. slice_get xs place) c.deref.ensures.value in
      ap (option_map placed_type) (ap (option_map (λ x. (place, binding_of x))) there ∙ sym (first_placed (declares name) binding_of all (Some place) first));
}
