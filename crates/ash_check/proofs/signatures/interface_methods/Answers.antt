use Rattle.std.proofs.Common.{◌+◌, List, [], ◌∷◌, map, drop, refl, sym, ap, ◌∙◌}
use Rattle.ash_registrations.specs.Registered.{registered}
use Rattle.std.proofs.lemmas.List.{map-append}
use Rattle.ash_tree.specs.declared.tree.items.InterfaceMethod.{InterfaceMethod}
use Rattle.ash_tree.specs.TreeViews.{interface_method_of}
use Rattle.ash_type_rules.specs.ModuleDeclarations.{signature_declaration}
use Rattle.ash_check_names.specs.EnvironmentViews.{function_signature_of, signatures_of}
use Rattle.ash_check.proofs.Rows.{further, whole}
use Rattle.ash_check.proofs.signatures.interface_methods.Goals as goal

pub loop-method-preserved : goal.loop-method-preserved
loop-method-preserved c =
    let all = c.args.declared.now in
    let i = c.loop-method.method-index in
    let row = c.loop-method.all.items in
    let new = c.in_ok-method_signature.field-0 in
    let of = λ (m : InterfaceMethod). signature_declaration (registered c.args.registry.now) (signatures_of c.args.type_names.now) (interface_method_of m) in
    let made = λ (ms : List InterfaceMethod). map (signature_declaration (registered c.args.registry.now) (signatures_of c.args.type_names.now)) (map interface_method_of ms) in
    further made all i (map function_signature_of row) c.method-item.result (function_signature_of new ∷ []) (map function_signature_of c.push.new.self.items) c.loop-method-test.true
    (ap (λ f. f ∷ made (drop (i + 1) all)) (sym (c.in_ok-method_signature.ensures.value ∙ ap of c.method-item.is))) (ap (map function_signature_of) c.in_ok-push.ensures.items ∙ map-append function_signature_of row (new ∷ [])) c.loop-method.invariant

pub returns : goal.returns
returns c = record { value = whole (λ xs. map (signature_declaration (registered c.args.registry.now) (signatures_of c.args.type_names.now)) (map interface_method_of xs)) c.args.declared.now c.loop-method.method-index (map function_signature_of c.loop-method.all.items) c.loop-method-test.false refl c.loop-method.invariant }
