use Rattle.std.proofs.Common.{◌≡◌, ℕ, ◌<◌, ◌≤◌, List, [], length, get_or, map, refl, sym, ap, subst, ◌∙◌, Ok}
use Rattle.std.proofs.lemmas.Result.{err_from_is_err_and}
use Rattle.ash_tree.specs.declared.tree.items.InterfaceMethod.{InterfaceMethod}
use Rattle.ash_tree.specs.TreeViews.{interface_method_of, interface_of as written_interface}
use Rattle.ash_typed.specs.Modules.{Interface, signature_of}
use Rattle.ash_type_rules.specs.TypingResult.{TypingResult, ◌>>=◌}
use Rattle.ash_type_rules.specs.ItemRules as definition
use Rattle.ash_check_names.specs.NameIndex.{texts}
use Rattle.ash_check_names.specs.EnvironmentViews.{environment_of}
use Rattle.ash_check.specs.WalkViews.{interface_parts_of}
use Rattle.ash_check.proofs.Walks.{stops, walk_goes_on, walk_stops, walk_ends}
use Rattle.ash_check.proofs.interfaces.check_interface.Goals as goal

pub loop-method-preserved : goal.loop-method-preserved
loop-method-preserved c =
    let env = environment_of c.args.env.now in
    let all = c.args.interface.now.methods.items in
    let before : definition.InterfaceMembers = record { names = record { registered = []; taken = texts c.new.result.keys; room = definition.no_signatures.names.room }; methods = map signature_of c.new-2.result.items } in
    let list = c.deref-method-items.ensures.value in
    let within : c.loop-method.method-index < length all = subst (λ (xs : List InterfaceMethod). c.loop-method.method-index < length xs) list c.loop-method-test.true in
    let is = c.method-item.is ∙ ap (λ (xs : List InterfaceMethod). get_or xs c.loop-method.method-index c.method-item.result) list in
    let whole = definition.check_signatures env before (map interface_method_of all) in
    walk_goes_on (λ ss x. definition.check_signature env ss (interface_method_of x)) (λ ss xs. definition.check_signatures env ss (map interface_method_of xs)) (λ ss x xs. refl) all c.loop-method.method-index (interface_parts_of c.loop-method.parts) whole
    c.method-item.result (interface_parts_of c.check_signature.new.parts) within is c.in_ok-check_signature.ensures.agrees c.loop-method.invariant

pub returns-in_err-check_signature : goal.returns-in_err-check_signature
unfolding definition.check_interface
returns-in_err-check_signature c = record {
  agrees =
      let env = environment_of c.args.env.now in
      let all = c.args.interface.now.methods.items in
      let before : definition.InterfaceMembers = record { names = record { registered = []; taken = texts c.new.result.keys; room = definition.no_signatures.names.room }; methods = map signature_of c.new-2.result.items } in
      let start : before ≡ definition.no_signatures = λ k. record { names = record { registered = []; taken = texts (c.new.ensures.empty k); room = definition.no_signatures.names.room }; methods = map signature_of (c.new-2.ensures.items k) } in
      let list = c.deref-method-items.ensures.value in
      let within : c.loop-method.method-index < length all = subst (λ (xs : List InterfaceMethod). c.loop-method.method-index < length xs) list c.loop-method-test.true in
      let is = c.method-item.is ∙ ap (λ (xs : List InterfaceMethod). get_or xs c.loop-method.method-index c.method-item.result) list in
      let whole = definition.check_signatures env definition.no_signatures (map interface_method_of all) in
      let p = err_from_is_err_and c.from_residual.result c.from_residual.ensures.1 in
      let e = c.in_err-check_signature.field-0.0 in
      rw (p.1, p.2) (stops whole (λ ss. Ok (definition.interface_of (written_interface c.args.interface.now) c.args.classes ss)) e
      (walk_stops (λ ss x. definition.check_signature env ss (interface_method_of x)) (λ ss xs. definition.check_signatures env ss (map interface_method_of xs)) (λ ss x xs. refl) all c.loop-method.method-index (interface_parts_of c.loop-method.parts) whole
      c.method-item.result e within is c.in_err-check_signature.ensures.agrees
      (c.loop-method.invariant ∙ ap (λ ss. definition.check_signatures env ss (map interface_method_of all)) start)));
}

pub returns : goal.returns
unfolding definition.check_interface
returns c = record {
  agrees =
      let env = environment_of c.args.env.now in
      let all = c.args.interface.now.methods.items in
      let before : definition.InterfaceMembers = record { names = record { registered = []; taken = texts c.new.result.keys; room = definition.no_signatures.names.room }; methods = map signature_of c.new-2.result.items } in
      let start : before ≡ definition.no_signatures = λ k. record { names = record { registered = []; taken = texts (c.new.ensures.empty k); room = definition.no_signatures.names.room }; methods = map signature_of (c.new-2.ensures.items k) } in
      let list = c.deref-method-items.ensures.value in
      let end : length all ≤ c.loop-method.method-index = subst (λ (xs : List InterfaceMethod). length xs ≤ c.loop-method.method-index) list c.loop-method-test.false in
      let whole = definition.check_signatures env definition.no_signatures (map interface_method_of all) in
      let last = interface_parts_of c.loop-method.parts in
      let ended = walk_ends (λ ss x. definition.check_signature env ss (interface_method_of x)) (λ ss xs. definition.check_signatures env ss (map interface_method_of xs)) (λ ss x xs. refl) all c.loop-method.method-index last whole end
      (c.loop-method.invariant ∙ ap (λ ss. definition.check_signatures env ss (map interface_method_of all)) start) in
      let of : List ℕ → TypingResult Interface = λ name. Ok (record { name = name; line = c.args.interface.now.place.line; classes_before = c.args.classes; methods = last.methods }) in
      ap (λ r. r >>= λ ss. Ok (definition.interface_of (written_interface c.args.interface.now) c.args.classes ss)) (sym ended) ∙ ap of (sym c.in_ok-clone.ensures.cases);
}
