use Rattle.std.proofs.Common.{None, Some, ◌∙◌, ap, sym, slice_get}
use Rattle.std.specs.Option.{option_map}
use Rattle.ash_type_rules.specs.Environment.{is_class}
use Rattle.ash_check_names.specs.EnvironmentViews.{class_signature_of, placed_class}
use Rattle.ash_check_names.proofs.IndexLaws.{first_placed, place_mapped}
use Rattle.ash_check_names.proofs.signatures.Signatures.class.Goals as goal

pub returns-in_err-place : goal.returns-in_err-place
returns-in_err-place c =
    let name = c.args.name.now in
    let all = c.args.self.now.classes.items in
    let none = c.in_err-place.ensures.value ∙ c.args.self.now.classes_indexed name ∙ place_mapped name (λ x. x.name.now) all in
    record { class_found = ap (option_map placed_class) c.from_residual.ensures ∙ sym (first_placed (is_class name) class_signature_of all None none) }

pub returns-in_err-class : goal.returns-in_err-class
returns-in_err-class c =
    let name = c.args.name.now in
    let all = c.args.self.now.classes.items in
    let place = c.in_ok-place.field-0.now in
    let first = c.in_ok-place.ensures.value ∙ c.args.self.now.classes_indexed name ∙ place_mapped name (λ x. x.name.now) all in
    let none = c.in_err-class.ensures.value ∙ ap (λ xs. slice_get xs place) c.deref.ensures.value in
    record { class_found = ap (option_map placed_class) c.from_residual-in_err-class.ensures ∙ ap (option_map (λ x. (place, class_signature_of x))) none ∙ sym (first_placed (is_class name) class_signature_of all (Some place) first) }

pub returns : goal.returns
returns c =
    let name = c.args.name.now in
    let all = c.args.self.now.classes.items in
    let place = c.in_ok-place.field-0.now in
    let first = c.in_ok-place.ensures.value ∙ c.args.self.now.classes_indexed name ∙ place_mapped name (λ x. x.name.now) all in
    let there = c.in_ok-class.ensures.value ∙ ap (λ xs. slice_get xs place) c.deref.ensures.value in
    record { class_found = ap (option_map (λ x. (place, class_signature_of x))) there ∙ sym (first_placed (is_class name) class_signature_of all (Some place) first) }
