use Rattle.std.proofs.Common.{◌+◌, drop, List, Some, map, sym, ap, ◌∙◌, append-nil}
use Rattle.std.proofs.lemmas.List.{at_drop_more, at_drop_all}
use Rattle.ash_type_rules.specs.Implementations as definition
use Rattle.ash_check_names.specs.declared.signatures.FunctionSignature.{FunctionSignature}
use Rattle.ash_check_names.specs.EnvironmentViews.{function_signature_of}
use Rattle.ash_check.proofs.MethodLaws.{prepended, one_prepended}
use Rattle.ash_check.proofs.implementations.methods_for.Goals as goal

pub loop-method-preserved : goal.loop-method-preserved
loop-method-preserved c =
    let methods = map function_signature_of c.args.methods.now in
    let all = c.args.declared.now in
    let i = c.loop-method.method-index in
    let method = c.method-item.result in
    let places = c.loop-method.places.items in
    let of = λ (fs : List FunctionSignature). definition.methods_for methods (map function_signature_of fs) in
    let others = of (drop (i + 1) all) in
    let here = ap (λ place. definition.with_first place others) c.in-Some.ensures.value ∙ ap (λ (f : FunctionSignature). definition.with_first (definition.method_for methods (function_signature_of f)) others) c.method-item.is ∙ sym (at_drop_more of all i method c.loop-method-test.true) in
    ap (λ ps. prepended ps others) c.in_ok-push.ensures.items ∙ sym (one_prepended places c.in-Some.place others) ∙ ap (prepended places) here ∙ c.loop-method.invariant

pub returns-in_default : goal.returns-in_default
returns-in_default c = record {
  value =
      let methods = map function_signature_of c.args.methods.now in
      let all = c.args.declared.now in
      let i = c.loop-method.method-index in
      let method = c.method-item.result in
      let of = λ (fs : List FunctionSignature). definition.methods_for methods (map function_signature_of fs) in
      let others = of (drop (i + 1) all) in
      let here = ap (λ place. definition.with_first place others) c.in_default.ensures.value ∙ ap (λ (f : FunctionSignature). definition.with_first (definition.method_for methods (function_signature_of f)) others) c.method-item.is ∙ sym (at_drop_more of all i method c.loop-method-test.true) in
      ap (prepended c.loop-method.places.items) here ∙ c.loop-method.invariant;
}

pub returns : goal.returns
returns c = record {
  value =
      let methods = map function_signature_of c.args.methods.now in
      let places = c.loop-method.places.items in
      ap (λ ps. Some ps) (sym (append-nil places)) ∙ sym (at_drop_all (λ fs. prepended places (definition.methods_for methods (map function_signature_of fs))) c.args.declared.now c.loop-method.method-index c.loop-method-test.false) ∙ c.loop-method.invariant;
}
