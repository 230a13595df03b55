use Rattle.std.proofs.Common.{◌+◌, List, [], ◌∷◌, map, drop, refl, sym, ap, ◌∙◌}
use Rattle.ash_registrations.specs.Registered.{registered}
use Rattle.ash_tree.specs.declared.tree.items.Parameter.{Parameter}
use Rattle.ash_tree.specs.TreeViews.{parameter_of}
use Rattle.ash_type_rules.specs.ModuleDeclarations.{parameter_ty}
use Rattle.ash_check_names.specs.EnvironmentViews.{signatures_of}
use Rattle.ash_check.proofs.Rows.{further, whole}
use Rattle.ash_check.proofs.signatures.parameter_types.Goals as goal

pub loop-parameter-preserved : goal.loop-parameter-preserved
loop-parameter-preserved c =
    let all = c.args.parameters.now in
    let i = c.loop-parameter.parameter-index in
    let of = λ (p : Parameter). parameter_ty (registered c.args.registry.now) (signatures_of c.args.type_names.now) (parameter_of p) in
    let made = λ (ps : List Parameter). map (parameter_ty (registered c.args.registry.now) (signatures_of c.args.type_names.now)) (map parameter_of ps) in
    further made all i c.loop-parameter.types.items c.parameter-item.result (c.ty_named.result ∷ []) c.push.new.self.items c.loop-parameter-test.true
    (ap (λ t. t ∷ made (drop (i + 1) all)) (sym (c.ty_named.ensures.type_found ∙ ap of c.parameter-item.is))) c.in_ok-push.ensures.items c.loop-parameter.invariant

pub returns : goal.returns
returns c = record { value = whole (λ xs. map (parameter_ty (registered c.args.registry.now) (signatures_of c.args.type_names.now)) (map parameter_of xs)) c.args.parameters.now c.loop-parameter.parameter-index (c.loop-parameter.types.items) c.loop-parameter-test.false refl c.loop-parameter.invariant }
