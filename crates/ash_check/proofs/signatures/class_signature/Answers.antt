use Rattle.std.proofs.Common.{map, ap, ◌∙◌}
use Rattle.ash_registrations.specs.Registered.{registered}
use Rattle.ash_tree.specs.TreeViews.{member_of, type_name_of}
use Rattle.ash_tree.specs.Items.{fields_of, methods_of, constructors_of}
use Rattle.ash_type_rules.specs.ModuleDeclarations.{all_variables, constructed_by, function_declaration, listed_in}
use Rattle.ash_check_names.specs.EnvironmentViews.{signatures_of}
use Rattle.ash_check.proofs.signatures.class_signature.Goals as goal

pub returns : goal.returns
returns c = record {
  value =
      let registrations = registered c.args.registry.now in
      let named = signatures_of c.args.type_names.now in
      let interfaces = c.in_ok-interfaces.ensures.value ∙ ap (λ ns. listed_in registrations named (map type_name_of ns)) c.deref.ensures.value in
      let fields = c.in_ok-fields.ensures.value ∙ ap (λ ms. all_variables registrations named (fields_of (map member_of ms))) c.deref-2.ensures.value in
      let methods = c.in_ok-methods.ensures.value ∙ ap (λ ms. map (function_declaration registrations named) (methods_of (map member_of ms))) c.deref-3.ensures.value in
      let parameters = c.in_ok-parameters.ensures.value ∙ ap (λ ms. constructed_by registrations named (constructors_of (map member_of ms))) c.deref-4.ensures.value in
      λ k. record { name = c.as_str.ensures.value k; interfaces = interfaces k; fields = fields k; methods = methods k; parameters = parameters k };
}
