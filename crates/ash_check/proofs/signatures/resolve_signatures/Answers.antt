use Rattle.std.proofs.Common.{map, ap, ◌∙◌}
use Rattle.ash_check_names.specs.EnvironmentViews.{binding_of, function_signature_of, interface_signature_of}
use Rattle.ash_check_names.specs.EnvironmentViews.{class_signature_of}
use Rattle.ash_check.proofs.signatures.resolve_signatures.Goals as goal

pub returns : goal.returns
returns c = record {
  value =
      let made = c.in_ok-signatures.ensures in
      let interfaces = ap (map interface_signature_of) made.interfaces ∙ c.in_ok-interfaces.ensures.value in
      let classes = ap (map class_signature_of) made.classes ∙ c.in_ok-classes.ensures.value in
      let functions = ap (map function_signature_of) made.functions ∙ c.in_ok-functions.ensures.value in
      let globals = ap (map binding_of) made.globals ∙ c.in_ok-globals.ensures.value in
      λ k. record { interfaces = interfaces k; classes = classes k; functions = functions k; globals = globals k };
}
