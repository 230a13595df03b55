use Rattle.std.proofs.Common.{None, Some, ◌∙◌, ap, sym, slice_get}
use Rattle.std.specs.Option.{option_map}
use Rattle.ash_type_rules.specs.Environment.{is_interface_named}
use Rattle.ash_check_names.specs.EnvironmentViews.{interface_signature_of, placed_interface}
use Rattle.ash_check_names.proofs.IndexLaws.{first_placed, place_mapped}
use Rattle.ash_check_names.proofs.signatures.Signatures.interface.Goals as goal

pub returns-in_err-place : goal.returns-in_err-place
returns-in_err-place c =
    let name = c.args.name.now in
    let all = c.args.self.now.interfaces.items in
    let none = c.in_err-place.ensures.value ∙ c.args.self.now.interfaces_indexed name ∙ place_mapped name (λ x. x.name.now) all in
    record { interface_found = ap (option_map placed_interface) c.from_residual.ensures ∙ sym (first_placed (is_interface_named name) interface_signature_of all None none) }

pub returns-in_err-interface : goal.returns-in_err-interface
returns-in_err-interface c =
    let name = c.args.name.now in
    let all = c.args.self.now.interfaces.items in
    let place = c.in_ok-place.field-0.now in
    let first = c.in_ok-place.ensures.value ∙ c.args.self.now.interfaces_indexed name ∙ place_mapped name (λ x. x.name.now) all in
    let none = c.in_err-interface.ensures.value ∙ ap (λ xs. slice_get xs place) c.deref.ensures.value in
    record { interface_found = ap (option_map placed_interface) c.from_residual-in_err-interface.ensures ∙ ap (option_map (λ x. (place, interface_signature_of x))) none ∙ sym (first_placed (is_interface_named name) interface_signature_of all (Some place) first) }

pub returns : goal.returns
returns c =
    let name = c.args.name.now in
    let all = c.args.self.now.interfaces.items in
    let place = c.in_ok-place.field-0.now in
    let first = c.in_ok-place.ensures.value ∙ c.args.self.now.interfaces_indexed name ∙ place_mapped name (λ x. x.name.now) all in
    let there = c.in_ok-interface.ensures.value ∙ ap (λ xs. slice_get xs place) c.deref.ensures.value in
    record { interface_found = ap (option_map (λ x. (place, interface_signature_of x))) there ∙ sym (first_placed (is_interface_named name) interface_signature_of all (Some place) first) }
